use Rattle.std.proofs.Common.{None, Err, refl, ap, ◌∙◌}
use Rattle.rl_play.proofs.FaultLemmas.{no_source}
use Rattle.rl_play.proofs.LeavesLemmas.{leaves_written}
use Rattle.regrun.proofs.JudgedLemmas.{maps_stopped, maps_opened}
use Rattle.rl_session_run.proofs.OpeningLemmas.{opens_as}
use Rattle.rl_session_run.proofs.StaysLemmas.{keeps_same}
use Rattle.rl_session_run.proofs.LeavesLemmas.{ended_leaves, opened_leaves}
use Rattle.regrun.proofs.RunLemmas.{no_error, same_error}
use Rattle.regrun.proofs.showing.show_layout.Goals as goal

pub returns-in-Err-clause-tells : goal.returns-in-Err-clause-tells
returns-in-Err-clause-tells g c = maps_stopped _ _ _ _ _ c.in-Err.ensures.stops

pub returns-clause-tells : goal.returns-clause-tells
returns-clause-tells g c =
    let e = c.in-Ok.ensures in
    maps_opened _ _ _ _ _ _ _ (opens_as _ _ _ _ _ e.opens) (keeps_same g.L.Sink.written _ _ e.unwritten) c.put_description.ensures.tells

pub returns-clause-leaves : goal.returns-clause-leaves
returns-clause-leaves g c =
    let e = c.open_session.ensures in
    leaves_written g.L.Sink _ _ _ _ _ None _ (opened_leaves g.L.Sink _ _ _ _ e.source_later e.stays) c.put_description.ensures.leaves

pub returns-in-Err-clause-leaves : goal.returns-in-Err-clause-leaves
returns-in-Err-clause-leaves g c =
    let e = c.open_session.ensures in
    ended_leaves g.L.Sink _ _ _ _ _ e.source_later c.in-Err.ensures.cause e.stays

pub returns-clause-at_fault : goal.returns-clause-at_fault
returns-clause-at_fault g c = λ is. absurd (no_source _ _ _ c.put_description.ensures.leaves.cause is)

pub returns-in-Err-clause-unread : goal.returns-in-Err-clause-unread
returns-in-Err-clause-unread g c = λ fault memory. c.in-Err.ensures.unread (λ e. fault (same_error refl e)) (λ e. memory (same_error refl e))

pub returns-clause-unread : goal.returns-clause-unread
returns-clause-unread g c = λ fault memory. c.in-Ok.ensures.unread (no_error refl) (no_error refl)

pub returns-clause-unwritten : goal.returns-clause-unwritten
returns-clause-unwritten g c = λ is. absurd (no_source _ _ _ c.put_description.ensures.leaves.cause is)

pub returns-clause-none_found : goal.returns-clause-none_found
returns-clause-none_found g c = c.put_description.ensures.none_found

pub returns-in-Err-clause-unwritten : goal.returns-in-Err-clause-unwritten
returns-in-Err-clause-unwritten g c = λ is. c.open_session.ensures.unwritten_at_fault (c.in-Err.is ∙ ap Err is)

pub returns-in-Err-clause-at_fault : goal.returns-in-Err-clause-at_fault
returns-in-Err-clause-at_fault g c = λ is. c.open_session.ensures.at_fault (c.in-Err.is ∙ ap Err is)

pub returns-in-Err-clause-none_found : goal.returns-in-Err-clause-none_found
returns-in-Err-clause-none_found g c = c.in-Err.ensures.none_found
