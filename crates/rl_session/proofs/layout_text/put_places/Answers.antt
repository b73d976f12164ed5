use Rattle.std.proofs.Common.{length, arith}
use Rattle.rl_map.specs.LayoutText.{place_text}
use Rattle.rl_session.proofs.ListingLemmas.{put_done, put_more, put_stopped, no_number}
use Rattle.rl_session.proofs.LayoutLemmas.{next_place}
use Rattle.rl_session.proofs.layout_text.put_places.Goals as goal

pub loop-place-preserved : goal.loop-place-preserved
loop-place-preserved g c =
    let layout = c.args.layout.now in
    put_more _ _ _ _ _ _ _ _ _ c.loop-place.invariant
    (next_place c.args.chip.now layout c.loop-place.place (length layout.places) (omega (arith, c.places-place-end.ensures.count))) c.in_ok-put_place.ensures

pub returns-in_err-put_place : goal.returns-in_err-put_place
returns-in_err-put_place g c =
    let layout = c.args.layout.now in
    put_stopped _ _ _ _ _ _ _ _ _ _ c.from_residual.ensures.0 c.loop-place.invariant
    (next_place c.args.chip.now layout c.loop-place.place (length layout.places) (omega (arith, c.places-place-end.ensures.count))) c.in_err-put_place.ensures

pub returns : goal.returns
returns g c =
    let layout = c.args.layout.now in
    put_done _ _ _ _ _ _ c.loop-place.invariant
    (no_number (place_text c.args.chip.now layout) c.loop-place.place (length layout.places) (omega (arith, c.places-place-end.ensures.count)))
