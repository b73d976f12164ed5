use Rattle.rl_grade_report.proofs.WordLemmas.{too_many}
use Rattle.rl_grade_report.proofs.asked.asked_by.Goals as goal

pub returns-in_default-2 : goal.returns-in_default-2
returns-in_default-2 c = record { asked = too_many c.args.words.now c.in_default.len_at_least; every = tt }
