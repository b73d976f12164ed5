use Rattle.rl_grade_report.proofs.PlaceLemmas.{reg_more}
use Rattle.rl_grade_report.proofs.places.push_regs.Goals as goal

pub loop-reg-preserved : goal.loop-reg-preserved
loop-reg-preserved c = reg_more c.args.chip.now _ _ _ _ c.loop-reg.invariant c.in_ok-push_reg.ensures
