use Rattle.std.proofs.Common.{◌≡◌, take}
use Rattle.rl_map.specs.Access.{climb}
use Rattle.rl_map.specs.Seat.{access_of}
use Rattle.rl_map.proofs.Climb.{HasRoom}
use Rattle.rl_map.proofs.seat.Location.climb.Given as goal

abbrev pub invariant-loop-level : goal.invariant-loop-level
invariant-loop-level l =
    (l.access ≡ climb (access_of l.self l.byte) (take l.level-index l.path)) × HasRoom l.level-index l.access
