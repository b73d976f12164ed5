use Rattle.std.proofs.Common.{◌++◌, ap, ◌∙◌}
use Rattle.rl_plan.proofs.Pushed.{one_more}
use Rattle.rl_plan.specs.Plan.{some_op, visit_op}
use Rattle.rl_plan.proofs.visit.push_visits.Goals as goal

pub loop-way-preserved : goal.loop-way-preserved
loop-way-preserved c =
    one_more (visit_op c.args.visit) _ _ _ c.args.ways.now c.loop-way.way-index _ c.loop-way-test.true c.loop-way.invariant
    (c.in_ok-push_some.ensures ∙ ap (λ o. c.loop-way.ops.items ++ some_op o) c.op_at.ensures)
