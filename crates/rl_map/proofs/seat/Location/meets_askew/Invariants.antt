use Rattle.std.proofs.Common.{◌≡◌, drop}
use Rattle.rl_map.specs.Seat.{access_of}
use Rattle.rl_map.specs.Faults.{is_askew}
use Rattle.rl_map.proofs.Climb.{HasRoom}
use Rattle.rl_map.proofs.seat.Location.meets_askew.Given as goal

abbrev pub invariant-loop-level : goal.invariant-loop-level
invariant-loop-level l = (is_askew l.access (drop l.level-index l.path) ≡ is_askew (access_of l.self l.byte) l.path) × HasRoom l.level-index l.access
