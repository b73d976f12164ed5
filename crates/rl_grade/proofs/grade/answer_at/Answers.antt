use Rattle.std.proofs.lemmas.List.{get_or_default}
use Rattle.rl_grade.proofs.grade.answer_at.Goals as goal

pub returns-then-number-graded : goal.returns-then-number-graded
returns-then-number-graded c =
    let low = c.if-number-graded.true in
    (c.args.number, low, get_or_default c.args.graded.now c.args.number _ _ low)
