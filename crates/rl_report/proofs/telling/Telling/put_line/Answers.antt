use Rattle.rl_report.specs.Event.{event_line}
use Rattle.rl_report.proofs.GatherLemmas.{gathers_more, gathers_last, gathers_failed}
use Rattle.rl_report.proofs.PieceLemmas.{stays_then, stays_stopped}
use Rattle.rl_report.proofs.telling.Telling.put_line.Goals as goal

pub returns-in_err-put_op-clause-bytes : goal.returns-in_err-put_op-clause-bytes
unfolding event_line
returns-in_err-put_op-clause-bytes g c = gathers_failed _ _ _ _ _ _ _ c.from_residual.ensures.0 c.in_err-put_op.ensures.bytes.part

pub returns-in_err-put_result-clause-bytes : goal.returns-in_err-put_result-clause-bytes
unfolding event_line
returns-in_err-put_result-clause-bytes g c =
    gathers_more _ _ _ _ _ _ _ _ _ c.in_ok-put_op.ensures.bytes.whole (gathers_failed _ _ _ _ _ _ _ c.from_residual-in_err-put_result.ensures.0 c.in_err-put_result.ensures.bytes.part)

pub returns-clause-bytes : goal.returns-clause-bytes
unfolding event_line
returns-clause-bytes g c =
    gathers_more _ _ _ _ _ _ _ _ _ c.in_ok-put_op.ensures.bytes.whole
    (gathers_more _ _ _ _ _ _ _ _ _ c.in_ok-put_result.ensures.bytes.whole (gathers_last _ _ _ _ _ _ c.gather.ensures.bytes))

pub returns-in_err-put_op-clause-stays : goal.returns-in_err-put_op-clause-stays
returns-in_err-put_op-clause-stays g c = stays_stopped _ _ _ _ _ c.from_residual.ensures.0 c.in_err-put_op.ensures.stays

pub returns-in_err-put_result-clause-stays : goal.returns-in_err-put_result-clause-stays
returns-in_err-put_result-clause-stays g c = stays_stopped _ _ _ _ _ c.from_residual-in_err-put_result.ensures.0 (stays_then _ _ _ _ _ _ c.in_ok-put_op.ensures.stays c.in_err-put_result.ensures.stays)

pub returns-clause-stays : goal.returns-clause-stays
returns-clause-stays g c = stays_then _ _ _ _ _ _ c.in_ok-put_op.ensures.stays (stays_then _ _ _ _ _ _ c.in_ok-put_result.ensures.stays c.gather.ensures.stays)
