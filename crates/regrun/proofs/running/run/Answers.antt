use Rattle.std.proofs.Common.{Err, refl, ap, ◌∙◌}
use Rattle.rl_session_laws.proofs.PlainLaws.{laws}
use Rattle.rl_session_laws.proofs.PlainSession.{plain_opened}
use Rattle.rl_session.specs.Judged.{judged_by, script_judged}
use Rattle.rl_session_run.proofs.OpeningLemmas.{opens_as}
use Rattle.regrun.proofs.BreakLemmas.{run_taken}
use Rattle.regrun.proofs.PlainLemmas.{plain_stopped}
use Rattle.regrun.proofs.RunLemmas.{runs_opened, runs_stopped}
use Rattle.regrun.proofs.running.run.Goals as goal

pub returns-in-Ok-clause-runs : goal.returns-in-Ok-clause-runs
returns-in-Ok-clause-runs g c =
    let e = c.open_session.ensures in
    runs_opened g.S.Source g.L.Sink g.L.Log.is_out judged_by script_judged run_taken (λ desc bytes adapters. refl) _ _ _ _ _ _ _ _ _ _ _
    c.in-Ok.ensures.opens c.in-Ok.ensures.unwritten e.source_later e.stays c.run_session.ensures.runs

pub returns-in-Err-clause-runs : goal.returns-in-Err-clause-runs
returns-in-Err-clause-runs g c =
    let e = c.open_session.ensures in
    let r = c.in-Err.ensures in
    runs_stopped g.S.Source g.L.Sink g.L.Log.is_out judged_by script_judged run_taken (λ line bytes adapters. refl) _ _ _ _ _ _ r.stops
    (λ is. e.at_fault (c.in-Err.is ∙ ap Err is)) (λ is. e.unwritten_at_fault (c.in-Err.is ∙ ap Err is)) e.source_later r.cause e.stays

pub returns-in-Ok-clause-plain : goal.returns-in-Ok-clause-plain
returns-in-Ok-clause-plain g c = λ whole.
    plain_opened laws _ _ c.in-Ok.desc (opens_as _ _ _ _ _ c.in-Ok.ensures.opens) (c.run_session.ensures.sound whole)

pub returns-in-Err-clause-plain : goal.returns-in-Err-clause-plain
returns-in-Err-clause-plain g c = λ whole. plain_stopped _ _ c.in-Err.status _ _ whole c.in-Err.ensures.stops
