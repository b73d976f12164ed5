use Rattle.rl_session_run.proofs.StaysLemmas.{earlier_kept, ended_behind, kept_behind, open_ended}
use Rattle.rl_grade_report.proofs.SessionLemmas.{none_flawed, session_ended, session_graded, session_stopped}
use Rattle.rl_grade_report.proofs.grading.grade_session.Goals as goal

pub grade_script-graded-requires-clause-none : goal.grade_script-graded-requires-clause-none
grade_script-graded-requires-clause-none g c = none_flawed _ c.in-Ok.ensures.allowed

pub returns-in-Err-clause-tells : goal.returns-in-Err-clause-tells
returns-in-Err-clause-tells g c =
    let e = c.in-Err.ensures in
    let f = c.end_log.ensures in
    session_ended _ c.args.asked c.args.mark c.args.waivers.now _ _ _ _ _ f.kept (earlier_kept _ _ _ e.leaves.stays.earlier f.told) f.told
    (session_stopped _ c.args.asked c.args.mark c.args.waivers.now _ _ _ _ c.requires.fresh e.stops)

pub returns-in-Err-clause-leaves : goal.returns-in-Err-clause-leaves
returns-in-Err-clause-leaves g c =
    let f = c.end_log.ensures in
    open_ended g.K.Sink _ _ _ _ _ _ _ c.in-Err.ensures.leaves f.kept f.told f.later f.cause f.ended f.not_ended

pub returns-clause-tells : goal.returns-clause-tells
returns-clause-tells g c =
    let e = c.in-Ok.ensures in
    let s = c.grade_script-graded.ensures in
    let f = c.end_log-2.ensures in
    session_ended _ c.args.asked c.args.mark c.args.waivers.now _ _ _ _ _ f.kept (kept_behind g.K.Sink _ _ _ _ _ _ _ e.unwritten s.leaves f.told) f.told
    (session_graded g.K.Sink.written _ c.args.asked c.args.mark c.args.waivers.now _ _ _ _ _ _ _ _ c.requires.fresh e.opens e.unwritten s.tells)

pub returns-clause-leaves : goal.returns-clause-leaves
returns-clause-leaves g c =
    let e = c.in-Ok.ensures in
    let f = c.end_log-2.ensures in
    ended_behind g.K.Sink _ _ _ _ _ _ _ _ _ e.source_later e.unwritten c.grade_script-graded.ensures.leaves f.kept f.told f.later f.cause f.ended f.not_ended
