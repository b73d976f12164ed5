use Rattle.std.proofs.Common.{◌≡◌, ◌++◌}
use Rattle.std.specs.Prelude.{flat_map}
use Rattle.std.specs.List.{range_with_len}
use Rattle.rl_map.specs.Building.{location_rows_of}
use Rattle.rl_map.proofs.places.push_place.Given as goal

abbrev pub invariant-loop-index : goal.invariant-loop-index
invariant-loop-index l = l.rows.items ≡ l.initial.rows.items ++ flat_map (location_rows_of l.maps l.ports l.number l.place) (range_with_len 0 l.index)
