-- The places from the next one on are left.
use Rattle.std.proofs.Common.{◌-◌, length}
use Rattle.std.specs.List.{flat_map, range_with_len}
use Rattle.rl_map.specs.LayoutText.{place_text}
use Rattle.rl_session.specs.LayoutPieces.{places_text}
use Rattle.rl_session.proofs.ListingLemmas.{IsPutUpTo}
use Rattle.rl_session.proofs.layout_text.put_places.Given as goal

abbrev pub invariant-loop-place : goal.invariant-loop-place
invariant-loop-place g l =
    IsPutUpTo g.K.Sink l.initial.sink l.sink (places_text l.chip l.layout)
    (flat_map (place_text l.chip l.layout) (range_with_len l.place (length l.layout.places - l.place)))
