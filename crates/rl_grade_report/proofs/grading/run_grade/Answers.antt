use Rattle.std.proofs.Common.{sym, ◌∙◌}
use Rattle.rl_grade_report.proofs.SessionLemmas.{told_marked, told_unmarked}
use Rattle.rl_grade_report.proofs.grading.run_grade.Goals as goal

pub returns-then-is_marked-clause-tells : goal.returns-then-is_marked-clause-tells
returns-then-is_marked-clause-tells g c =
    told_marked _ c.args.asked c.args.waivers.now _ _ _ (sym c.is_marked.ensures ∙ c.if-is_marked.true) c.grade_marked.ensures.tells

pub returns-clause-tells : goal.returns-clause-tells
returns-clause-tells g c =
    told_unmarked _ c.args.asked c.args.waivers.now _ _ _ (sym c.is_marked.ensures ∙ c.if-is_marked.false) c.grade_session.ensures.tells
