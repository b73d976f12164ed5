use Rattle.std.proofs.Common.{◌≡◌, ℕ, ◌/◌, ◌%◌, ◌<◌, ◌^◌}
use Rattle.rl_policy.specs.Bits.{bit}
use Rattle.rl_bus.specs.Spread.{lane_below, bit_in}
use Rattle.rl_bus.proofs.table.Lanes.spread.Given as goal

abbrev pub invariant-loop-lane : goal.invariant-loop-lane
invariant-loop-lane l = record {
  fits : l.bits < 2 ^ 64;
  bits : (b : ℕ) → b < 64 → bit l.bits b ≡ bit_in (lane_below l.lane l.self (b / 8)) (bit l.word) (b % 8);
}
