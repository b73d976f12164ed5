-- The part's lines of the items so far were appended.
use Rattle.std.proofs.Common.{◌≡◌, ◌++◌, flat_map, take}
use Rattle.rl_plan.specs.Text.{part_text}
use Rattle.rl_plan.proofs.lines.push_part.Given as goal

abbrev pub invariant-loop-item : goal.invariant-loop-item
invariant-loop-item l =
    l.text.items ≡ l.initial.text.items ++ flat_map (part_text l.model l.asked l.part) (take l.item-index l.items)
