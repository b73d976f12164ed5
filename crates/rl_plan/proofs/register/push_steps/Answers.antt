use Rattle.std.proofs.Common.{◌++◌, ap, ◌∙◌}
use Rattle.rl_plan.proofs.Pushed.{one_more}
use Rattle.rl_plan.specs.Plan.{op_of, some_op}
use Rattle.rl_plan.proofs.register.push_steps.Goals as goal

pub loop-step-preserved : goal.loop-step-preserved
loop-step-preserved c =
    one_more (op_of c.args.target c.args.kind) _ _ _ c.args.steps.now c.loop-step.step-index _ c.loop-step-test.true c.loop-step.invariant
    (c.in_ok-push_some.ensures ∙ ap (λ o. c.loop-step.ops.items ++ some_op o) c.op_of.ensures)
