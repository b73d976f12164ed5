-- The places of the items so far were appended, and each is there.
use Rattle.std.proofs.Common.{◌≡◌, flat_map, take, All}
use Rattle.rl_grade.specs.Place.{IsPlaceIn}
use Rattle.rl_plan.specs.Needed.{places_of}
use Rattle.rl_plan.proofs.places.all_places.Given as goal

abbrev pub invariant-loop-item : goal.invariant-loop-item
invariant-loop-item l = record {
  places_are : l.places.items ≡ flat_map (places_of l.chip) (take l.item-index l.item-items);
  each : All (IsPlaceIn l.chip) l.places.items;
}
