-- What the part asks for of the items so far was appended.
use Rattle.std.proofs.Common.{◌≡◌, ◌++◌, flat_map, take}
use Rattle.rl_plan.specs.Behind.{part_tasks}
use Rattle.rl_plan.proofs.behind.push_part.Given as goal

abbrev pub invariant-loop-item : goal.invariant-loop-item
invariant-loop-item l =
    l.tasks.items ≡ l.initial.tasks.items ++ flat_map (part_tasks l.model l.asked l.part) (take l.item-index l.items)
