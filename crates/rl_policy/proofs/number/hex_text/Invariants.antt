use Rattle.std.proofs.Common.{◌≡◌, ℕ, ◌<◌, ◌≤◌, length, slice_index}
use Rattle.rl_policy.specs.Numbers.{hex_digit_at}
use Rattle.rl_policy.proofs.number.hex_text.Given as goal

abbrev pub invariant-loop-k : goal.invariant-loop-k
invariant-loop-k l = record {
  count : length l.buf ≡ 16;
  written : (k : ℕ) → k < l.k → slice_index l.buf k ≡ hex_digit_at l.digits l.value k;
  others : (k : ℕ) → l.k ≤ k → slice_index l.buf k ≡ slice_index l.initial.buf k;
}
