-- The operations of the steps so far were appended.
use Rattle.std.proofs.Common.{◌≡◌, ◌++◌, filter_map, take}
use Rattle.rl_plan.specs.Plan.{op_of}
use Rattle.rl_plan.proofs.register.push_steps.Given as goal

abbrev pub invariant-loop-step : goal.invariant-loop-step
invariant-loop-step l = l.ops.items ≡ l.initial.ops.items ++ filter_map (op_of l.target l.kind) (take l.step-index l.steps)
