-- The operations with the kinds before this one were appended.
use Rattle.std.proofs.Common.{◌≡◌}
use Rattle.rl_plan.specs.Plan.{further_ops_as, sort_of}
use Rattle.rl_plan.proofs.register.further_ops.Given as goal

abbrev pub invariant-loop-kind : goal.invariant-loop-kind
invariant-loop-kind l = l.ops.items ≡ further_ops_as l.chip (sort_of l.chip l.target) l.target l.kind
