use Rattle.rl_grade_report.proofs.EachOnce.{every_graded}
use Rattle.rl_grade_report.proofs.law.each_flaw_is_graded.Goals as goal

pub returns : goal.returns
returns c = every_graded
