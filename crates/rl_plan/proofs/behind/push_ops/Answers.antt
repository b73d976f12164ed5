use Rattle.rl_plan.specs.Behind.{added_task}
use Rattle.rl_plan.proofs.Pushed.{map_more}
use Rattle.rl_plan.proofs.behind.push_ops.Goals as goal

pub loop-op-preserved : goal.loop-op-preserved
loop-op-preserved c =
    map_more added_task _ _ _ c.args.ops.now c.loop-op.op-index _ c.loop-op-test.true c.loop-op.invariant c.in_ok-push.ensures.items
