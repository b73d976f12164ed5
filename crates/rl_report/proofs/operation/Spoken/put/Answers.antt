use Rattle.rl_report.proofs.GatherLemmas.{gathers_more, gathers_last, gathers_failed, pushed}
use Rattle.rl_report.proofs.OperationLemmas.{same_text, spoken_pieces}
use Rattle.rl_report.proofs.PieceLemmas.{stays_then, stays_stopped}
use Rattle.rl_report.proofs.operation.Spoken.put.Goals as goal

pub returns-in_err-gather-clause-bytes : goal.returns-in_err-gather-clause-bytes
returns-in_err-gather-clause-bytes g c =
    same_text _ _ _ _ _ _ _ (spoken_pieces c.args.model.now c.args.self c.requires)
    (gathers_failed _ _ _ _ _ _ _ c.from_residual.ensures.0 (rw (c.name.ensures) at c.in_err-gather.ensures.bytes.part))

pub returns-in_err-put-clause-bytes : goal.returns-in_err-put-clause-bytes
returns-in_err-put-clause-bytes g c =
    same_text _ _ _ _ _ _ _ (spoken_pieces c.args.model.now c.args.self c.requires)
    (gathers_more _ _ _ _ _ _ _ _ _ (rw (c.name.ensures) at c.in_ok-gather.ensures.bytes.whole) (gathers_more _ _ _ _ _ _ _ _ _ (pushed _ _ _ _ c.push.ensures.text)
    (gathers_failed _ _ _ _ _ _ _ c.from_residual-in_err-put.ensures.0 c.in_err-put.ensures.bytes.part)))

pub returns-clause-bytes : goal.returns-clause-bytes
returns-clause-bytes g c =
    same_text _ _ _ _ _ _ _ (spoken_pieces c.args.model.now c.args.self c.requires)
    (gathers_more _ _ _ _ _ _ _ _ _ (rw (c.name.ensures) at c.in_ok-gather.ensures.bytes.whole) (gathers_more _ _ _ _ _ _ _ _ _ (pushed _ _ _ _ c.push.ensures.text)
    (gathers_more _ _ _ _ _ _ _ _ _ c.in_ok-put.ensures.bytes.whole (gathers_more _ _ _ _ _ _ _ _ _ (pushed _ _ _ _ (rw (c.row-row.ensures) at c.push_numbers.ensures.text))
    (gathers_last _ _ _ _ _ _ c.put_map.ensures.bytes)))))

pub returns-in_err-gather-clause-stays : goal.returns-in_err-gather-clause-stays
returns-in_err-gather-clause-stays g c = stays_stopped _ _ _ _ _ c.from_residual.ensures.0 c.in_err-gather.ensures.stays

pub returns-in_err-put-clause-stays : goal.returns-in_err-put-clause-stays
returns-in_err-put-clause-stays g c = stays_stopped _ _ _ _ _ c.from_residual-in_err-put.ensures.0 (stays_then _ _ _ _ _ _ c.in_ok-gather.ensures.stays c.in_err-put.ensures.stays)

pub returns-clause-stays : goal.returns-clause-stays
returns-clause-stays g c = stays_then _ _ _ _ _ _ c.in_ok-gather.ensures.stays (stays_then _ _ _ _ _ _ c.in_ok-put.ensures.stays c.put_map.ensures.stays)
