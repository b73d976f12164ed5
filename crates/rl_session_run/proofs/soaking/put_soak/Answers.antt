use Rattle.std.proofs.Common.{refl}
use Rattle.std.proofs.KnownBytes.{Keeps-refl}
use Rattle.rl_session.specs.Soak.{soak_text}
use Rattle.rl_session_run.proofs.JudgedLemmas.{told_early}
use Rattle.rl_session_run.proofs.SoakLemmas.{soaks_opened, soaks_stopped}
use Rattle.rl_session_run.proofs.SoakTextLemmas.{opens_text, stops_text}
use Rattle.rl_session_run.proofs.StaysLemmas.{keeps_same, stays_then}
use Rattle.rl_session_run.proofs.soaking.put_soak.Goals as goal

pub returns-in_default-clause-tells : goal.returns-in_default-clause-tells
returns-in_default-clause-tells g c = told_early _ _ _ _ _ refl (Keeps-refl _)

pub returns-in-Ok-open_session-clause-tells : goal.returns-in-Ok-open_session-clause-tells
returns-in-Ok-open_session-clause-tells g c =
    let e = c.in-Ok-open_session.ensures in
    let opens = opens_text c.in-Ok.bytes.items (soak_text c.args.n) _ _ _ _ c.in-Ok.ensures e.opens in
    soaks_opened _ _ _ _ _ _ _ _ _ opens.opening opens.reads.rest (keeps_same g.L.Sink.written _ _ e.unwritten) c.soak_desc.ensures.tells

pub returns-clause-tells : goal.returns-clause-tells
returns-clause-tells g c =
    soaks_stopped _ _ _ _ _ (stops_text c.in-Ok.bytes.items (soak_text c.args.n) _ _ _ _ c.in-Ok.ensures c.in-Err.ensures.stops)

pub returns-in-Ok-open_session-clause-stays : goal.returns-in-Ok-open_session-clause-stays
returns-in-Ok-open_session-clause-stays g c = stays_then _ _ _ _ _ _ c.open_session.ensures.stays c.soak_desc.ensures.stays
