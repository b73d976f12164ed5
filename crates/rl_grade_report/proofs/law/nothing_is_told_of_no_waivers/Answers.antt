use Rattle.rl_grade_report.proofs.PlainLemmas.{none_waived_is_plain}
use Rattle.rl_grade_report.proofs.law.nothing_is_told_of_no_waivers.Goals as goal

pub returns : goal.returns
returns c = none_waived_is_plain
