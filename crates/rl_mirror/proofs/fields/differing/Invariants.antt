use Rattle.std.proofs.Common.{◌≡◌, ℕ, ◌<◌, ◌^◌}
use Rattle.rl_policy.specs.Bits.{bit}
use Rattle.rl_mirror.specs.Compared.{differs}
use Rattle.rl_model.specs.Fields.{fields_of, field_in}
use Rattle.rl_mirror.proofs.SetLemmas.{among}
use Rattle.rl_mirror.proofs.fields.differing.Given as goal

abbrev pub invariant-loop-k : goal.invariant-loop-k
invariant-loop-k l = record {
  fits : l.fields < 2 ^ 64;
  bits : (k : ℕ) → k < 64 → bit l.fields k ≡ among l.k (λ k. differs (field_in (fields_of l.chip l.reg) k).shape l.read l.mirrored) k;
}
