use Rattle.std.proofs.Common.{◌≡◌, ◌&&◌}
use Rattle.std.specs.Prelude.{slice_index}
use Rattle.rl_policy.specs.Bits.{bit, from_bits}
use Rattle.rl_split.proofs.lanes.lanes_for.Given as goal

abbrev pub invariant-loop-lane : goal.invariant-loop-lane
invariant-loop-lane l = l.enabled ≡ from_bits l.lane (λ k. bit l.word.lanes k && bit l.chosen (slice_index l.word.bytes k))
