use Rattle.std.proofs.Common.{refl}
use Rattle.rl_log.specs.declared.status.Status.TheVariants.{Refused, SinkFault}
use Rattle.rl_log.proofs.TellingLemmas.{tells_all, tells_front}
use Rattle.rl_play.proofs.LeavesLemmas.{leaves_failed, not_by_counts}
use Rattle.rl_vcd.proofs.script.refuse.Goals as goal

pub returns-in-Ok-clause-tells : goal.returns-in-Ok-clause-tells
returns-in-Ok-clause-tells g c = tells_all Refused _ _ _ c.in-Ok.ensures.bytes.whole

pub returns-in-Err-clause-tells : goal.returns-in-Err-clause-tells
returns-in-Err-clause-tells g c = tells_front SinkFault Refused _ _ _ refl c.in-Err.ensures.bytes.part

pub returns-in-Err-clause-counted : goal.returns-in-Err-clause-counted
returns-in-Err-clause-counted g c = not_by_counts SinkFault refl

pub returns-in-Err-clause-leaves : goal.returns-in-Err-clause-leaves
returns-in-Err-clause-leaves g c = leaves_failed g.L.Sink _ _ _ c.in-Err.ensures.stays
