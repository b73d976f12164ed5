use Rattle.rl_grade_report.proofs.EachOnce.{no_other}
use Rattle.rl_grade_report.proofs.law.no_other_flaw_is_graded.Goals as goal

pub returns : goal.returns
returns c = no_other
