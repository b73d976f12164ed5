use Rattle.std.proofs.Common.{◌≡◌, ℕ, ◌<◌, ◌^◌}
use Rattle.rl_policy.specs.Bits.{bit}
use Rattle.rl_model.specs.Fields.{fields_of, place_at}
use Rattle.rl_mirror.proofs.PlaceLemmas.{so_far}
use Rattle.rl_mirror.proofs.fields.some_chosen.Given as goal

abbrev pub invariant-loop-k : goal.invariant-loop-k
invariant-loop-k l = record {
  fits : l.word < 2 ^ 64;
  bits : (b : ℕ) → b < 64 → bit l.word b ≡ so_far l.k (bit l.fields) (place_at (fields_of l.chip l.reg) b) (bit 0 b);
}
