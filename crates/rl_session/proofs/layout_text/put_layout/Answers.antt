use Rattle.rl_report.proofs.PieceLemmas.{text_after, text_stopped}
use Rattle.rl_session.proofs.LayoutLemmas.{layout_is}
use Rattle.rl_session.proofs.layout_text.put_layout.Goals as goal

pub returns-in_err-put_places : goal.returns-in_err-put_places
returns-in_err-put_places g c =
    rw (layout_is c.args.chip.now c.args.layout.now) (text_stopped _ _ _ _ _ _ _ c.from_residual.ensures.0 c.in_err-put_places.ensures)

pub returns : goal.returns
returns g c =
    let last = rw (c.as_bytes.ensures.value, c.format.ensures.text, c.places-places.ensures.count) at c.put_pieces.ensures in
    rw (layout_is c.args.chip.now c.args.layout.now) (text_after _ _ _ _ _ _ _ _ c.in_ok-put_places.ensures last)
