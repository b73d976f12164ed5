use Rattle.rl_grade_report.proofs.keys.push_head.Goals as goal

pub returns-in-Row : goal.returns-in-Row
returns-in-Row c = rw c.in-Row.is c.push_pieces.ensures

pub returns-in-Object : goal.returns-in-Object
returns-in-Object c = rw c.in-Object.is c.push_pieces-in-Object.ensures
