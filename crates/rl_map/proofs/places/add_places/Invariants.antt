use Rattle.std.proofs.Common.{◌≡◌, ◌++◌, length, drop}
use Rattle.rl_map.specs.Steps.{own_faults, accepted}
use Rattle.rl_map.specs.Placing.{ArePlaced}
use Rattle.rl_map.proofs.places.add_places.Given as goal

abbrev pub invariant-loop-part : goal.invariant-loop-part
invariant-loop-part l = record {
  placed : ArePlaced l.chip l.maps l.ports l.placing;
  fault : own_faults l.chip l.maps l.ports l.placing.places.items (length l.placing.rows.items) (drop l.part-index l.parts)
      ≡ own_faults l.chip l.maps l.ports l.initial.placing.places.items (length l.initial.placing.rows.items) l.parts;
  accepted : l.placing.places.items ++ accepted l.chip l.maps l.ports l.placing.places.items (length l.placing.rows.items) (drop l.part-index l.parts)
      ≡ l.initial.placing.places.items ++ accepted l.chip l.maps l.ports l.initial.placing.places.items (length l.initial.placing.rows.items) l.parts;
}
