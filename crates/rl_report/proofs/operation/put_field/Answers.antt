use Rattle.rl_report.proofs.GatherLemmas.{gathers_more, gathers_last, gathers_failed, pushed}
use Rattle.rl_report.proofs.OperationLemmas.{same_text, field_pieces}
use Rattle.rl_report.proofs.PieceLemmas.{stays_then, stays_stopped}
use Rattle.rl_report.proofs.operation.put_field.Goals as goal

pub returns-in_err-gather-clause-bytes : goal.returns-in_err-gather-clause-bytes
returns-in_err-gather-clause-bytes g c =
    same_text _ _ _ _ _ _ _ (field_pieces c.args.model.now.chip c.args.field)
    (gathers_failed _ _ _ _ _ _ _ c.from_residual.ensures.0 (rw (c.path_of.ensures, c.register_with-reg.ensures.value) at c.in_err-gather.ensures.bytes.part))

pub returns-clause-bytes : goal.returns-clause-bytes
returns-clause-bytes g c =
    same_text _ _ _ _ _ _ _ (field_pieces c.args.model.now.chip c.args.field)
    (gathers_more _ _ _ _ _ _ _ _ _ (rw (c.path_of.ensures, c.register_with-reg.ensures.value) at c.in_ok-gather.ensures.bytes.whole)
    (gathers_more _ _ _ _ _ _ _ _ _ (pushed _ _ _ _ c.push.ensures.text) (gathers_last _ _ _ _ _ _ (rw (c.name_of.ensures) at c.gather-2.ensures.bytes))))

pub returns-in_err-gather-clause-stays : goal.returns-in_err-gather-clause-stays
returns-in_err-gather-clause-stays g c = stays_stopped _ _ _ _ _ c.from_residual.ensures.0 c.in_err-gather.ensures.stays

pub returns-clause-stays : goal.returns-clause-stays
returns-clause-stays g c = stays_then _ _ _ _ _ _ c.in_ok-gather.ensures.stays c.gather-2.ensures.stays
