use Rattle.std.proofs.Common.{◌≡◌, ℕ, ◌<◌, false}
use Rattle.rl_map.specs.Faults.{is_above}
use Rattle.rl_map.specs.Building.{placed_at}
use Rattle.rl_map.proofs.address.is_location_above.Given as goal

abbrev pub invariant-loop-byte : goal.invariant-loop-byte
invariant-loop-byte l = (j : ℕ) → j < l.byte → is_above (placed_at l.row l.path l.port) l.index j ≡ false
