use Rattle.rl_grade_report.proofs.add.push_refusal.Goals as goal

pub returns-in-Lacking : goal.returns-in-Lacking
returns-in-Lacking c = rw c.in-Lacking.is c.push_of_share-in-Lacking.ensures
