use Rattle.rl_grade_report.proofs.SessionLemmas.{unread_leaves, unread_told, whole_leaves, whole_told}
use Rattle.rl_grade_report.proofs.grading.grade_marked.Goals as goal

pub returns-in-Err-clause-tells : goal.returns-in-Err-clause-tells
returns-in-Err-clause-tells g c = unread_told _ c.args.asked c.args.waivers.now _ _ c.in-Err.ensures.broken

pub returns-in-Err-clause-leaves : goal.returns-in-Err-clause-leaves
returns-in-Err-clause-leaves g c =
    unread_leaves g.K.Sink _ _ _ _ c.read_all.ensures.later c.in-Err.ensures.broken c.in-Err.ensures.cause

pub returns-clause-tells : goal.returns-clause-tells
returns-clause-tells g c =
    whole_told _ c.args.asked c.args.waivers.now _ _ _ _ _ c.in-Ok.ensures.bytes (rw (c.mark_of.ensures, c.deref.ensures.value) at c.mark_from-mark.ensures)
    (rw c.deref-2.ensures.value at c.grade_session.ensures.tells)

pub returns-clause-leaves : goal.returns-clause-leaves
returns-clause-leaves g c = whole_leaves g.K.Sink _ _ _ _ _ c.read_all.ensures.later c.grade_session.ensures.leaves
