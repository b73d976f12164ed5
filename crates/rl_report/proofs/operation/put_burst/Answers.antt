use Rattle.rl_report.proofs.GatherLemmas.{gathers_more, gathers_last, gathers_failed, pushed}
use Rattle.rl_report.proofs.OperationLemmas.{same_text, burst_pieces}
use Rattle.rl_report.proofs.PieceLemmas.{stays_then, stays_stopped}
use Rattle.rl_report.proofs.operation.put_burst.Goals as goal

pub returns-in_err-gather-clause-bytes : goal.returns-in_err-gather-clause-bytes
returns-in_err-gather-clause-bytes g c =
    let a = c.args in
    same_text _ _ _ _ _ _ _ (burst_pieces a.model.now a.name.now a.mem a.first a.count a.through) (gathers_failed _ _ _ _ _ _ _ c.from_residual.ensures.0 c.in_err-gather.ensures.bytes.part)

pub returns-in_err-gather-2-clause-bytes : goal.returns-in_err-gather-2-clause-bytes
returns-in_err-gather-2-clause-bytes g c =
    let a = c.args in
    same_text _ _ _ _ _ _ _ (burst_pieces a.model.now a.name.now a.mem a.first a.count a.through)
    (gathers_more _ _ _ _ _ _ _ _ _ c.in_ok-gather.ensures.bytes.whole (gathers_more _ _ _ _ _ _ _ _ _ (pushed _ _ _ _ c.push.ensures.text)
    (gathers_failed _ _ _ _ _ _ _ c.from_residual-in_err-gather-2.ensures.0 (rw (c.path_of.ensures) at c.in_err-gather-2.ensures.bytes.part))))

pub returns-clause-bytes : goal.returns-clause-bytes
returns-clause-bytes g c =
    let a = c.args in
    same_text _ _ _ _ _ _ _ (burst_pieces a.model.now a.name.now a.mem a.first a.count a.through)
    (gathers_more _ _ _ _ _ _ _ _ _ c.in_ok-gather.ensures.bytes.whole (gathers_more _ _ _ _ _ _ _ _ _ (pushed _ _ _ _ c.push.ensures.text)
    (gathers_more _ _ _ _ _ _ _ _ _ (rw (c.path_of.ensures) at c.in_ok-gather-2.ensures.bytes.whole) (gathers_more _ _ _ _ _ _ _ _ _ (pushed _ _ _ _ c.push_number.ensures.text)
    (gathers_more _ _ _ _ _ _ _ _ _ (pushed _ _ _ _ c.push-2.ensures.text)
    (gathers_more _ _ _ _ _ _ _ _ _ (pushed _ _ _ _ (rw (c.as_bytes.ensures.value, c.format.ensures.text) at c.push-3.ensures.text))
    (gathers_last _ _ _ _ _ _ c.put_map.ensures.bytes)))))))

pub returns-in_err-gather-clause-stays : goal.returns-in_err-gather-clause-stays
returns-in_err-gather-clause-stays g c = stays_stopped _ _ _ _ _ c.from_residual.ensures.0 c.in_err-gather.ensures.stays

pub returns-in_err-gather-2-clause-stays : goal.returns-in_err-gather-2-clause-stays
returns-in_err-gather-2-clause-stays g c = stays_stopped _ _ _ _ _ c.from_residual-in_err-gather-2.ensures.0 (stays_then _ _ _ _ _ _ c.in_ok-gather.ensures.stays c.in_err-gather-2.ensures.stays)

pub returns-clause-stays : goal.returns-clause-stays
returns-clause-stays g c = stays_then _ _ _ _ _ _ c.in_ok-gather.ensures.stays (stays_then _ _ _ _ _ _ c.in_ok-gather-2.ensures.stays c.put_map.ensures.stays)
