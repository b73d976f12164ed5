use Rattle.rl_plan.specs.Text.{op_line}
use Rattle.rl_plan.proofs.Pushed.{text_more}
use Rattle.rl_plan.proofs.text.push_ops.Goals as goal

pub loop-op-preserved : goal.loop-op-preserved
loop-op-preserved c =
    text_more (op_line c.args.model.now) _ _ _ c.args.ops.now c.loop-op.op-index _ c.loop-op-test.true c.loop-op.invariant
    c.in_ok-push_op.ensures

pub push_op-requires-clause-planned : goal.push_op-requires-clause-planned
push_op-requires-clause-planned c = (c.requires c.loop-op.op-index _ c.loop-op-test.true).0

pub push_op-requires-clause-numbers : goal.push_op-requires-clause-numbers
push_op-requires-clause-numbers c = (c.requires c.loop-op.op-index _ c.loop-op-test.true).1
