-- The items with the numbers so far were appended.
use Rattle.std.proofs.Common.{◌≡◌, ◌++◌, map}
use Rattle.std.specs.List.{range_with_len}
use Rattle.rl_model.specs.declared.rows.Item.TheVariants.{Mem}
use Rattle.rl_plan.proofs.lines.push_mem_items.Given as goal

abbrev pub invariant-loop-mem : goal.invariant-loop-mem
invariant-loop-mem l = l.items.items ≡ l.initial.items.items ++ map Mem (range_with_len 0 l.mem)
