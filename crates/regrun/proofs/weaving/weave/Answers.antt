use Rattle.std.proofs.Common.{Err, refl, ap, ◌∙◌}
use Rattle.rl_session_run.proofs.OpeningLemmas.{opens_as}
use Rattle.rl_weave_laws.proofs.Sessions.{woven_opened}
use Rattle.rl_weave_log.specs.Judged.{woven_by, woven_script_judged}
use Rattle.regrun.proofs.BreakLemmas.{woven_taken}
use Rattle.regrun.proofs.RunLemmas.{runs_opened, runs_stopped}
use Rattle.regrun.proofs.WovenLemmas.{woven_stopped}
use Rattle.regrun.proofs.weaving.weave.Goals as goal

pub returns-in-Ok-clause-runs : goal.returns-in-Ok-clause-runs
returns-in-Ok-clause-runs g c =
    let n = c.args.n in
    let e = c.open_session.ensures in
    runs_opened g.S.Source g.L.Sink g.L.Log.is_out (woven_by n) (woven_script_judged n) (woven_taken n) (λ desc bytes adapters. refl)
    _ _ _ _ _ _ _ _ _ _ _ c.in-Ok.ensures.opens c.in-Ok.ensures.unwritten e.source_later e.stays c.weave_session.ensures.runs

pub returns-in-Err-clause-runs : goal.returns-in-Err-clause-runs
returns-in-Err-clause-runs g c =
    let n = c.args.n in
    let e = c.open_session.ensures in
    let r = c.in-Err.ensures in
    runs_stopped g.S.Source g.L.Sink g.L.Log.is_out (woven_by n) (woven_script_judged n) (woven_taken n) (λ line bytes adapters. refl)
    _ _ _ _ _ _ r.stops (λ is. e.at_fault (c.in-Err.is ∙ ap Err is)) (λ is. e.unwritten_at_fault (c.in-Err.is ∙ ap Err is))
    e.source_later r.cause e.stays

pub returns-in-Ok-clause-plain : goal.returns-in-Ok-clause-plain
returns-in-Ok-clause-plain g c = λ whole.
    woven_opened c.args.n _ _ c.in-Ok.desc (opens_as _ _ _ _ _ c.in-Ok.ensures.opens) (c.weave_session.ensures.sound whole)

pub returns-in-Err-clause-plain : goal.returns-in-Err-clause-plain
returns-in-Err-clause-plain g c = λ whole. woven_stopped c.args.n _ _ c.in-Err.status _ _ whole c.in-Err.ensures.stops
