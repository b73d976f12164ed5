use Rattle.rl_grade_report.proofs.EachOnce.{none_twice}
use Rattle.rl_grade_report.proofs.law.no_flaw_is_graded_twice.Goals as goal

pub returns : goal.returns
returns c = none_twice
