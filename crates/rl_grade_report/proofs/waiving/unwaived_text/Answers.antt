use Rattle.rl_grade_report.proofs.waiving.unwaived_text.Goals as goal

pub returns-in-Twice : goal.returns-in-Twice
returns-in-Twice c = rw c.in-Twice.is c.unwaived_at.ensures

pub returns-in-Unknown : goal.returns-in-Unknown
returns-in-Unknown c = rw c.in-Unknown.is c.unwaived_at-in-Unknown.ensures
