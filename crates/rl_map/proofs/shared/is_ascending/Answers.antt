use Rattle.rl_map.proofs.Sorting.{ascend_more}
use Rattle.rl_map.proofs.shared.is_ascending.Goals as goal

pub loop-k-preserved : goal.loop-k-preserved
loop-k-preserved c =
    ascend_more c.args.rows.now c.loop-k.k c.key-in-loop-k.result c.key.result _ _ c.loop-k.auto.k c.loop-k-test.true c.loop-k.invariant c.key.ensures c.key-in-loop-k.ensures c.if-key.false
