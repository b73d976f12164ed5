use Rattle.std.proofs.Common.{Err, None, ap, refl, ◌∙◌}
use Rattle.rl_session_run.proofs.BackdoorLemmas.{awaits_on, opens_on, stops_on}
use Rattle.rl_session_run.proofs.StaysLemmas.{earlier_kept, ended_behind, kept_behind, open_behind, open_ended, open_given_up, open_memory}
use Rattle.rl_session_run.proofs.ScriptLemmas.{never_refused, runs_finished, runs_played, runs_stopped, runs_unmade, unsent}
use Rattle.rl_session_run.proofs.host.run_on.Goals as goal

pub returns-in-Err-clause-does : goal.returns-in-Err-clause-does
returns-in-Err-clause-does g c =
    let e = c.in-Err.ensures in
    let f = c.end_log.ensures in
    runs_finished _ _ _ _ _ _ _ _ _ _ _ None f.kept (earlier_kept _ _ _ e.leaves.stays.earlier f.told) f.told
    (runs_stopped _ _ _ _ _ _ _ _ (stops_on g.H.Host.backdoor _ _ _ _ _ e.stops)
    (λ fault. c.open_checked.ensures.at_fault (c.in-Err.is ∙ ap Err fault)))

pub returns-in-Err-clause-unmade : goal.returns-in-Err-clause-unmade
returns-in-Err-clause-unmade g c = unsent _ _ _ refl

pub returns-in-Err-clause-leaves : goal.returns-in-Err-clause-leaves
returns-in-Err-clause-leaves g c =
    let f = c.end_log.ensures in
    open_ended g.Q.Sink _ _ _ _ _ _ _ c.in-Err.ensures.leaves f.kept f.told f.later f.cause f.ended f.not_ended

pub returns-in_default-clause-does : goal.returns-in_default-clause-does
returns-in_default-clause-does g c =
    let e = c.in-Ok.ensures in
    runs_unmade g.Q.Sink.written _ _ _ _ _ _ _ _ _ _ (opens_on g.H.Host.backdoor _ _ _ _ _ _ _ e.opens c.fit_backdoors.ensures c.has_backdoor.ensures) e.unwritten refl
    (λ e. absurd (cc))

pub returns-in_default-clause-unmade : goal.returns-in_default-clause-unmade
returns-in_default-clause-unmade g c = unsent _ _ _ refl

pub returns-in_default-clause-leaves : goal.returns-in_default-clause-leaves
returns-in_default-clause-leaves g c =
    let e = c.in-Ok.ensures in
    open_given_up g.Q.Sink _ _ _ _ _ refl (open_behind g.Q.Sink _ _ _ _ _ _ _ e.source_later e.unwritten (open_memory g.Q.Sink _ _))

pub returns-clause-does : goal.returns-clause-does
returns-clause-does g c =
    let e = c.in-Ok.ensures in
    let p = c.play_described-played.ensures in
    let f = c.end_log-2.ensures in
    runs_finished _ _ _ _ _ _ _ _ _ _ _ _ f.kept (kept_behind g.Q.Sink _ _ _ _ _ _ _ e.unwritten p.leaves f.told) f.told
    (runs_played g.Q.Sink.written _ _ _ _ _ _ _ _ _ _ _ _ _ _ _ (opens_on g.H.Host.backdoor _ _ _ _ _ _ _ e.opens c.fit_backdoors.ensures c.has_backdoor.ensures) e.unwritten c.in-Ok-device.ensures.first p.plays)

pub returns-clause-unmade : goal.returns-clause-unmade
returns-clause-unmade g c = never_refused _ _ _ _ _ _ (opens_on g.H.Host.backdoor _ _ _ _ _ _ _ c.in-Ok.ensures.opens c.fit_backdoors.ensures c.has_backdoor.ensures)

pub returns-clause-leaves : goal.returns-clause-leaves
returns-clause-leaves g c =
    let e = c.in-Ok.ensures in
    let f = c.end_log-2.ensures in
    ended_behind g.Q.Sink _ _ _ _ _ _ _ _ _ e.source_later e.unwritten c.play_described-played.ensures.leaves f.kept f.told f.later f.cause f.ended f.not_ended

pub play_described-played-requires-clause-awaits : goal.play_described-played-requires-clause-awaits
play_described-played-requires-clause-awaits g c = awaits_on _ _ _ _ _ c.in-Ok.ensures.awaits c.fit_backdoors.ensures
