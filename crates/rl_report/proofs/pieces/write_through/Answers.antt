use Rattle.rl_report.proofs.GatherLemmas.{room_failed, written_through}
use Rattle.rl_report.proofs.PieceLemmas.{stays_then, stays_stopped}
use Rattle.rl_report.proofs.pieces.write_through.Goals as goal

pub returns-clause-bytes : goal.returns-clause-bytes
returns-clause-bytes g c = written_through _ _ _ _ _ _ _ c.in_ok-write_out.ensures.empty c.in_ok-write_out.ensures.bytes.whole c.put_all.ensures.bytes

pub returns-in_err-write_out-clause-stays : goal.returns-in_err-write_out-clause-stays
returns-in_err-write_out-clause-stays g c = stays_stopped _ _ _ _ _ c.from_residual.ensures.0 c.in_err-write_out.ensures.stays

pub returns-clause-stays : goal.returns-clause-stays
returns-clause-stays g c = stays_then _ _ _ _ _ _ c.in_ok-write_out.ensures.stays c.put_all.ensures.stays

pub returns-in_err-write_out-clause-bytes : goal.returns-in_err-write_out-clause-bytes
returns-in_err-write_out-clause-bytes g c = room_failed _ _ _ _ _ _ c.from_residual.ensures.0 c.in_err-write_out.ensures.bytes.part
