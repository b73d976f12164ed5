use Rattle.std.proofs.Common.{◌≡◌, take, drop}
use Rattle.rl_map.specs.Maps.{tables_of, no_tables}
use Rattle.rl_map.specs.Building.{AreTables}
use Rattle.rl_map.specs.Faults.{maps_fault}
use Rattle.rl_map.proofs.Refusing.{maps_from}
use Rattle.rl_map.proofs.maps.add_maps.Given as goal

abbrev pub invariant-loop-part : goal.invariant-loop-part
invariant-loop-part l = record {
  maps : l.maps.items ≡ (tables_of l.kinds (take l.part-index l.parts)).maps;
  ports : l.ports.items ≡ (tables_of l.kinds (take l.part-index l.parts)).ports;
  tables : AreTables l.kinds l.maps.items l.ports.items;
  fault : maps_from l.kinds l.maps.items l.ports.items (drop l.part-index l.parts) ≡ maps_fault l.kinds no_tables l.parts;
}
