use Rattle.rl_grade.proofs.Pushed.{stuck_more}
use Rattle.rl_grade.proofs.flaws.push_stuck.Goals as goal

pub loop-bit-preserved : goal.loop-bit-preserved
loop-bit-preserved c = stuck_more _ _ _ _ _ _ c.loop-bit.invariant c.in_ok-push.ensures.items
