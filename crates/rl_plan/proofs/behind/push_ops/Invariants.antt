-- The operations so far were appended, each as a task.
use Rattle.std.proofs.Common.{◌≡◌, ◌++◌, map, take}
use Rattle.rl_plan.specs.Behind.{added_task}
use Rattle.rl_plan.proofs.behind.push_ops.Given as goal

abbrev pub invariant-loop-op : goal.invariant-loop-op
invariant-loop-op l = l.tasks.items ≡ l.initial.tasks.items ++ map added_task (take l.op-index l.ops)
