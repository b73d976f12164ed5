use Rattle.rl_report.proofs.PieceLemmas.{text_after, text_stopped}
use Rattle.rl_session.proofs.RefusalLemmas.{nowhere_put, place_put}
use Rattle.rl_session.proofs.refusals.put_where.Goals as goal

pub returns-in_default : goal.returns-in_default
returns-in_default g c = rw c.in_default.is (nowhere_put _ _ _ _ c.put_all.ensures)

pub returns-in_err-put_pieces : goal.returns-in_err-put_pieces
returns-in_err-put_pieces g c =
    rw c.in-Some.is (place_put _ _ _ _ c.in-Some.spot (text_stopped _ _ _ _ _ _ _ c.from_residual.ensures.0
    (rw (c.array_name.ensures, c.as_bytes.ensures.value, c.format.ensures.text, c.from.ensures) at c.in_err-put_pieces.ensures)))

pub returns : goal.returns
returns g c =
    rw c.in-Some.is (place_put _ _ _ _ c.in-Some.spot (text_after _ _ _ _ _ _ _ _
    (rw (c.array_name.ensures, c.as_bytes.ensures.value, c.format.ensures.text, c.from.ensures) at c.in_ok-put_pieces.ensures) c.put_field.ensures))
