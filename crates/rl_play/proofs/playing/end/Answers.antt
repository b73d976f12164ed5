use Rattle.std.proofs.Common.{refl}
use Rattle.rl_log.specs.declared.status.Status.TheVariants.{SinkFault}
use Rattle.rl_log.proofs.KnownLemmas.{front_all}
use Rattle.rl_log.proofs.TellingLemmas.{tells_front}
use Rattle.rl_play.proofs.EndingLemmas.{counted_end, counted_none}
use Rattle.rl_play.proofs.LeavesLemmas.{leaves_failed}
use Rattle.rl_play.proofs.playing.end.Goals as goal

pub returns-in-Ok-clause-counted : goal.returns-in-Ok-clause-counted
returns-in-Ok-clause-counted g c = counted_end _ _ c.status_at_end.ensures

pub returns-in-Err-clause-counted : goal.returns-in-Err-clause-counted
returns-in-Err-clause-counted g c = counted_none _ _ refl

pub returns-in-Ok-clause-tells : goal.returns-in-Ok-clause-tells
returns-in-Ok-clause-tells g c =
    let put = c.in-Ok.ensures.bytes.whole in
    record { whole = λ complete. (c.status_at_end.ensures, put); part = front_all _ _ _ put }

pub returns-in-Err-clause-tells : goal.returns-in-Err-clause-tells
returns-in-Err-clause-tells g c = tells_front SinkFault _ _ _ _ refl c.in-Err.ensures.bytes.part

pub returns-in-Err-clause-leaves : goal.returns-in-Err-clause-leaves
returns-in-Err-clause-leaves g c = leaves_failed g.L.Sink _ _ _ c.in-Err.ensures.stays
