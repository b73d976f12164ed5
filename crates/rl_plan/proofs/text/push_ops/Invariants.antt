-- The lines of the operations so far were appended.
use Rattle.std.proofs.Common.{◌≡◌, ◌++◌, flat_map, take}
use Rattle.rl_plan.specs.Text.{op_line}
use Rattle.rl_plan.proofs.text.push_ops.Given as goal

abbrev pub invariant-loop-op : goal.invariant-loop-op
invariant-loop-op l = l.text.items ≡ l.initial.text.items ++ flat_map (op_line l.model) (take l.op-index l.ops)
