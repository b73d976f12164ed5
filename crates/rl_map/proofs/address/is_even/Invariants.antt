use Rattle.std.proofs.Common.{◌≡◌, ℕ, ◌<◌, false}
use Rattle.rl_map.specs.Faults.{is_askew}
use Rattle.rl_map.specs.Seat.{access_of}
use Rattle.rl_map.specs.Layout.{location_of}
use Rattle.rl_map.proofs.address.is_even.Given as goal

abbrev pub invariant-loop-byte : goal.invariant-loop-byte
invariant-loop-byte l = (j : ℕ) → j < l.byte
    → (is_askew (access_of (location_of l.row 0) j) l.path ≡ false) × (is_askew (access_of (location_of l.row 1) j) l.path ≡ false)
