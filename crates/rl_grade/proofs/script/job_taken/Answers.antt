use Rattle.std.proofs.Common.{◌≡◌, ◌≢◌, ap, sym, ◌∙◌}
use Rattle.rl_report.specs.declared.lines.Got.TheVariants as got
use Rattle.rl_play.proofs.PlayLemmas.{empty_said, heard_long, heard_many, heard_read}
use Rattle.rl_grade.specs.Script.{job_asked}
use Rattle.rl_grade.proofs.Reading.{answers_as}
use Rattle.rl_grade.proofs.script.job_taken.Goals as goal

pub returns-clause-answers : goal.returns-clause-answers
returns-clause-answers c =
    let short : c.args.got ≢ got.TooLong = c.is_too_long.ensures.short c.if-is_too_long.false in
    answers_as _ _ c.job_read.result (ap (job_asked c.args.model.now) (heard_read c.args.number c.args.got c.args.line.now c.if-number-gt-MOST_LINES.false short))
    c.job_read.ensures.answers

pub returns-then-is_empty-clause-answers : goal.returns-then-is_empty-clause-answers
returns-then-is_empty-clause-answers c =
    let short : c.args.got ≢ got.TooLong = c.is_too_long.ensures.short c.if-is_too_long.false in
    ap (job_asked c.args.model.now) (sym (heard_read c.args.number c.args.got c.args.line.now c.if-number-gt-MOST_LINES.false short)
    ∙ empty_said c.args.line.now (sym c.is_empty.ensures ∙ c.if-is_empty.true))

pub returns-then-number-gt-MOST_LINES-clause-answers : goal.returns-then-number-gt-MOST_LINES-clause-answers
returns-then-number-gt-MOST_LINES-clause-answers c =
    ap (job_asked c.args.model.now) (heard_many c.args.number c.args.got c.args.line.now c.if-number-gt-MOST_LINES.true)

pub returns-then-is_too_long-clause-answers : goal.returns-then-is_too_long-clause-answers
returns-then-is_too_long-clause-answers c =
    let long : c.args.got ≡ got.TooLong = c.is_too_long.ensures.long c.if-is_too_long.true in
    ap (job_asked c.args.model.now) (heard_long c.args.number c.args.got c.args.line.now c.if-number-gt-MOST_LINES.false long)
