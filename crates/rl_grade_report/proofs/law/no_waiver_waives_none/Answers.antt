use Rattle.rl_grade_report.proofs.PlainLemmas.{no_waiver_waives}
use Rattle.rl_grade_report.proofs.law.no_waiver_waives_none.Goals as goal

pub returns : goal.returns
returns c = no_waiver_waives
