use Rattle.rl_grade_report.proofs.PlaceLemmas.{mem_more}
use Rattle.rl_grade_report.proofs.places.push_mems.Goals as goal

pub loop-mem-preserved : goal.loop-mem-preserved
loop-mem-preserved c = mem_more _ _ _ _ c.loop-mem.invariant c.in_ok-push.ensures.items
