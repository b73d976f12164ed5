use Rattle.rl_grade_report.proofs.Together.{sums_are_of_all}
use Rattle.rl_grade_report.proofs.law.shares_add_up_to_the_whole.Goals as goal

pub returns : goal.returns
returns c = sums_are_of_all c.shares_have_each_flaw_once.ensures.one c.shares_have_each_flaw_once.ensures.whole
