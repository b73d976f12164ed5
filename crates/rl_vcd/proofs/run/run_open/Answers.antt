use Rattle.std.proofs.Common.{Err, None, refl, ap, ◌∙◌}
use Rattle.rl_play.proofs.LeavesLemmas.{leaves_on}
use Rattle.rl_session.specs.Judged.{judged_by, script_judged}
use Rattle.rl_session.specs.Session.{opening_of}
use Rattle.rl_session_run.proofs.JudgedLemmas.{opened_told, stopped_told}
use Rattle.rl_session_run.proofs.LeavesLemmas.{ended_leaves, opened_leaves}
use Rattle.rl_session_run.proofs.OpeningLemmas.{opens_as, rest_of}
use Rattle.rl_session_run.proofs.StaysLemmas.{keeps_same, still_out}
use Rattle.rl_vcd.proofs.RunLemmas.{opens_script, session_opened, session_stopped}
use Rattle.rl_vcd.proofs.run.run_open.Goals as goal

pub returns-in-Ok-clause-judged : goal.returns-in-Ok-clause-judged
returns-in-Ok-clause-judged g c =
    let opens = c.in-Ok.ensures.opens in
    opened_told judged_by script_judged (λ desc bytes adapters. refl) _ _ _ _ _ _ _ _ _ (opens_as _ _ _ _ _ opens) (rest_of _ _ _ _ _ opens)
    (keeps_same g.L.Sink.written _ _ c.in-Ok.ensures.unwritten) c.run_opened.ensures.runs.tells

pub returns-in-Ok-clause-draws : goal.returns-in-Ok-clause-draws
returns-in-Ok-clause-draws g c =
    session_opened g.K.Sink g.L.Sink.written _ (λ bytes. opening_of bytes _) c.in-Ok.desc _ _ _ _ _ _ _ _ _ _ _
    (opens_script _ _ _ _ _ c.in-Ok.ensures.opens) c.in-Ok.ensures.unwritten c.run_opened.ensures.draws

pub returns-in-Ok-clause-flushed : goal.returns-in-Ok-clause-flushed
returns-in-Ok-clause-flushed g c = λ fault out. (c.run_opened.ensures.runs.unended fault).1

pub returns-in-Ok-clause-leaves : goal.returns-in-Ok-clause-leaves
returns-in-Ok-clause-leaves g c =
    let e = c.open_session.ensures in
    leaves_on g.L.Sink _ _ _ _ _ _ None _ (opened_leaves g.L.Sink _ _ _ _ e.source_later e.stays) c.run_opened.ensures.runs.leaves

pub returns-in-Err-clause-judged : goal.returns-in-Err-clause-judged
returns-in-Err-clause-judged g c =
    rw c.undrawn.ensures (stopped_told judged_by script_judged (λ line bytes adapters. refl) _ _ _ _ _ c.in-Err.ensures.stops)

pub returns-in-Err-clause-draws : goal.returns-in-Err-clause-draws
returns-in-Err-clause-draws g c =
    rw c.undrawn.ensures (session_stopped g.K.Sink _ _ (λ bytes. opening_of bytes _) _ _ _ _ _ c.in-Err.ensures.stops
    (λ is. c.open_session.ensures.at_fault (c.in-Err.is ∙ ap Err is)))

pub returns-in-Err-clause-flushed : goal.returns-in-Err-clause-flushed
returns-in-Err-clause-flushed g c =
    rw c.undrawn.ensures (λ is out. still_out g.L.Log.is_out _ _ (c.open_session.ensures.unwritten_at_fault (c.in-Err.is ∙ ap Err is)) out)

pub returns-in-Err-clause-leaves : goal.returns-in-Err-clause-leaves
returns-in-Err-clause-leaves g c =
    let e = c.open_session.ensures in
    rw c.undrawn.ensures (ended_leaves g.L.Sink _ _ _ _ _ e.source_later c.in-Err.ensures.cause e.stays)
