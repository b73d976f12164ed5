use Rattle.rl_report.proofs.PieceLemmas.{text_after, text_stopped}
use Rattle.rl_link.proofs.message.put_told.Goals as goal

pub returns-in_err-put_cause : goal.returns-in_err-put_cause
returns-in_err-put_cause g c = text_stopped _ _ _ _ _ _ _ c.from_residual.ensures.0 c.in_err-put_cause.ensures

pub returns : goal.returns
returns g c = text_after _ _ _ _ _ _ _ _ c.in_ok-put_cause.ensures c.put_talk.ensures
