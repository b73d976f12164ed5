use Rattle.rl_report.proofs.PieceLemmas.{text_after, text_stopped}
use Rattle.rl_session.proofs.RefusalLemmas.{line_put}
use Rattle.rl_session.proofs.refusals.put_refusal.Goals as goal

pub returns-in_err-put_where : goal.returns-in_err-put_where
returns-in_err-put_where g c =
    line_put _ _ _ _ _ _ (text_stopped _ _ _ _ _ _ _ c.from_residual.ensures.0 c.in_err-put_where.ensures)

pub returns-in_err-put_pieces : goal.returns-in_err-put_pieces
returns-in_err-put_pieces g c =
    line_put _ _ _ _ _ _ (text_after _ _ _ _ _ _ _ _ c.in_ok-put_where.ensures
    (text_stopped _ _ _ _ _ _ _ c.from_residual-in_err-put_pieces.ensures.0 c.in_err-put_pieces.ensures))

pub returns : goal.returns
returns g c =
    line_put _ _ _ _ _ _ (text_after _ _ _ _ _ _ _ _ c.in_ok-put_where.ensures
    (text_after _ _ _ _ _ _ _ _ c.in_ok-put_pieces.ensures c.put_all.ensures))
