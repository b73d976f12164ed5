use Rattle.std.proofs.Common.{◌≡◌, ℕ, ◌/◌, ◌<◌, is_some}
use Rattle.rl_policy.specs.Bits.{bit}
use Rattle.rl_bus.specs.Spread.{lane_below}
use Rattle.rl_bus.proofs.table.Lanes.covered.Given as goal

abbrev pub invariant-loop-lane : goal.invariant-loop-lane
invariant-loop-lane l = (b : ℕ) → b < 64 → bit l.mask b ≡ is_some (lane_below l.lane l.self (b / 8))
