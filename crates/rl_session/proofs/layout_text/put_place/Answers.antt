use Rattle.rl_report.proofs.PieceLemmas.{text_after, text_stopped}
use Rattle.rl_session.proofs.layout_text.put_place.Goals as goal

pub returns-in_err-put_heading : goal.returns-in_err-put_heading
returns-in_err-put_heading g c = text_stopped _ _ _ _ _ _ _ c.from_residual.ensures.0 c.in_err-put_heading.ensures

pub returns : goal.returns
returns g c = text_after _ _ _ _ _ _ _ _ c.in_ok-put_heading.ensures c.put_words.ensures
