use Rattle.std.proofs.Common.{◌≡◌, ◌*◌, ◌^◌, ◌≤◌, drop}
use Rattle.rl_map.specs.Seat.{slots}
use Rattle.rl_map.proofs.seat.Location.slots.Given as goal

abbrev pub invariant-loop-map : goal.invariant-loop-map
invariant-loop-map l = record {
  so_far : l.slots * slots l.bytes (drop l.map-index l.path) ≡ slots l.self.bytes l.path;
  size : l.bytes ≤ 8;
  few : l.slots ≤ 8 ^ l.map-index;
}
