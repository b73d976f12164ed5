use Rattle.std.proofs.Common.{◌≡◌, ℕ, ◌/◌, ◌<◌, ◌^◌, ◌&&◌}
use Rattle.std.specs.Prelude.{nat_lt}
use Rattle.rl_policy.specs.Bits.{bit}
use Rattle.rl_bus.specs.Spread.{gathered_bit}
use Rattle.rl_bus.proofs.table.Lanes.gather.Given as goal

abbrev pub invariant-loop-lane : goal.invariant-loop-lane
invariant-loop-lane l = record {
  fits : l.word < 2 ^ 64;
  bits : (b : ℕ) → b < 64 → bit l.word b ≡ (nat_lt (b / 8) l.lane && gathered_bit l.self (bit l.bits) b);
}
