use Rattle.rl_report.proofs.GatherLemmas.{gathers_more, gathers_last, pushed, room_made, room_failed}
use Rattle.rl_report.proofs.PieceLemmas.{stays_then, stays_stopped}
use Rattle.rl_report.proofs.telling.Telling.put_result.Goals as goal

pub returns-in_err-make_room-clause-bytes : goal.returns-in_err-make_room-clause-bytes
returns-in_err-make_room-clause-bytes g c = room_failed _ _ _ _ _ _ c.from_residual.ensures.0 c.in_err-make_room.ensures.bytes.part

pub returns-clause-bytes : goal.returns-clause-bytes
returns-clause-bytes g c =
    room_made _ _ _ _ _ _ _ _ c.in_ok-make_room.ensures.bytes.whole (gathers_more _ _ _ _ _ _ _ _ _ (pushed _ _ _ _ c.push_end.ensures.text) (gathers_last _ _ _ _ _ _ c.put_rest.ensures.bytes))

pub returns-in_err-make_room-clause-stays : goal.returns-in_err-make_room-clause-stays
returns-in_err-make_room-clause-stays g c = stays_stopped _ _ _ _ _ c.from_residual.ensures.0 c.in_err-make_room.ensures.stays

pub returns-clause-stays : goal.returns-clause-stays
returns-clause-stays g c = stays_then _ _ _ _ _ _ c.in_ok-make_room.ensures.stays c.put_rest.ensures.stays
