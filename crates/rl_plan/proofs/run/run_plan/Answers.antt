use Rattle.std.proofs.Common.{Err, refl, ap, arith}
use Rattle.rl_session_run.proofs.StaysLemmas.{earlier_kept, ended_behind, kept_behind, open_ended}
use Rattle.rl_plan.specs.Run.{planned_of}
use Rattle.rl_plan.proofs.SessionLemmas.{fault_kept, leaves_planned, no_error, no_later, not_stopped, session_ended, session_planned, session_stopped}
use Rattle.rl_plan.proofs.run.run_plan.Goals as goal

pub returns-in-Err-clause-tells : goal.returns-in-Err-clause-tells
returns-in-Err-clause-tells g c =
    let e = c.in-Err.ensures in
    let f = c.end_log.ensures in
    session_ended _ (planned_of c.args.asked _) _ _ _ _ _ f.kept (earlier_kept _ _ _ e.leaves.stays.earlier f.told) f.told
    (session_stopped _ c.args.asked _ _ _ _ e.stops)

pub returns-in-Err-clause-leaves : goal.returns-in-Err-clause-leaves
returns-in-Err-clause-leaves g c =
    let f = c.end_log.ensures in
    open_ended g.K.Sink _ _ _ _ _ _ _ c.in-Err.ensures.leaves f.kept f.told f.later f.cause f.ended f.not_ended

pub returns-clause-tells : goal.returns-clause-tells
returns-clause-tells g c =
    let e = c.in-Ok.ensures in
    let p = c.put_plan-told.ensures in
    let f = c.end_log-2.ensures in
    let leaves = leaves_planned g.K.Sink _ _ _ _ _ e.source_later p.cause p.stays in
    session_ended _ (planned_of c.args.asked _) _ _ _ _ _ f.kept (kept_behind g.K.Sink _ _ _ _ _ _ _ e.unwritten leaves f.told) f.told
    (session_planned g.K.Sink.written _ c.args.asked _ _ _ _ _ _ _ _ e.opens e.unwritten p.tells)

pub returns-clause-leaves : goal.returns-clause-leaves
returns-clause-leaves g c =
    let e = c.in-Ok.ensures in
    let p = c.put_plan-told.ensures in
    let f = c.end_log-2.ensures in
    let later = e.source_later in
    ended_behind g.K.Sink _ _ _ _ _ _ _ _ _ later e.unwritten (leaves_planned g.K.Sink _ _ _ _ _ (no_later _) p.cause p.stays) f.kept f.told f.later f.cause f.ended f.not_ended

pub returns-in-Err-clause-unread : goal.returns-in-Err-clause-unread
returns-in-Err-clause-unread g c = λ whole.
    let kept = c.end_log.ensures.kept in
    c.in-Err.ensures.unread (not_stopped _ _ _ whole kept refl refl) (not_stopped _ _ _ whole kept refl refl)

pub returns-in-Err-clause-at_fault : goal.returns-in-Err-clause-at_fault
returns-in-Err-clause-at_fault g c = λ is. c.in-Err.ensures.at_fault (ap Err (fault_kept _ _ is c.end_log.ensures.kept))

pub returns-clause-unread : goal.returns-clause-unread
returns-clause-unread g c = λ whole. c.in-Ok.ensures.unread (no_error refl) (no_error refl)

pub returns-clause-at_fault : goal.returns-clause-at_fault
returns-clause-at_fault g c = λ is.
    absurd (omega (arith, c.put_plan-told.ensures.cause.source_fault (fault_kept _ _ is c.end_log-2.ensures.kept)))
