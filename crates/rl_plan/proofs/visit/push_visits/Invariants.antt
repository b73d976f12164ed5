-- What is done at the places so far was appended.
use Rattle.std.proofs.Common.{◌≡◌, ◌++◌, filter_map, take}
use Rattle.rl_plan.specs.Plan.{visit_op}
use Rattle.rl_plan.proofs.visit.push_visits.Given as goal

abbrev pub invariant-loop-way : goal.invariant-loop-way
invariant-loop-way l = l.ops.items ≡ l.initial.ops.items ++ filter_map (visit_op l.visit) (take l.way-index l.ways)
