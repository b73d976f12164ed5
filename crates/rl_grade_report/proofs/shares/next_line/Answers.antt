use Rattle.std.proofs.Common.{sym, ap, ◌∙◌, length, arith}
use Rattle.rl_grade_report.proofs.AddLemmas.{behind_shorter, line_cut, no_line, some_byte}
use Rattle.rl_grade_report.proofs.shares.next_line.Goals as goal

pub returns-then-is_empty-clause-lines : goal.returns-then-is_empty-clause-lines
returns-then-is_empty-clause-lines c = no_line c.args.text.now (sym c.is_empty.ensures ∙ c.if-is_empty.true)

pub returns-clause-lines : goal.returns-clause-lines
returns-clause-lines c =
    line_cut c.args.text.now _ _ (some_byte c.args.text.now (sym c.is_empty.ensures ∙ c.if-is_empty.false)) c.cut_line.ensures.line c.cut_line.ensures.behind

pub returns-clause-shorter : goal.returns-clause-shorter
returns-clause-shorter c =
    let some = some_byte c.args.text.now (sym c.is_empty.ensures ∙ c.if-is_empty.false) in
    omega (arith, ap length c.cut_line.ensures.behind, behind_shorter c.args.text.now some)
