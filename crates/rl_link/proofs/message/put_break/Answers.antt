use Rattle.rl_report.proofs.PieceLemmas.{text_after, text_stopped}
use Rattle.rl_link.proofs.message.put_break.Goals as goal

pub returns-in_err-put_all : goal.returns-in_err-put_all
returns-in_err-put_all g c = text_stopped _ _ _ _ _ _ _ c.from_residual.ensures.0 c.in_err-put_all.ensures

pub returns : goal.returns
returns g c = text_after _ _ _ _ _ _ _ _ c.in_ok-put_all.ensures c.put_told.ensures
