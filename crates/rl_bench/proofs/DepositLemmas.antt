-- Deposits, bit by bit.
use Rattle.std.proofs.Common.{◌≡◌, ℕ, zero, suc, ◌+◌, ◌-◌, ◌*◌, ◌^◌, ◌<◌, Bool, true, false, cond, refl, ap, ◌∙◌, arith, Option, Some, None, is_some}
use Rattle.std.specs.Prelude.{bit_and, option_map}
use Rattle.std.proofs.lemmas.Nat.{pow-add, and_mask}
use Rattle.std.proofs.Math.Nat.{pow-suc}
use Rattle.std.proofs.lemmas.Bool.Decides.{nat_tests}
use Rattle.rl_policy.specs.Bits.{bit, is_within, put_bit}
use Rattle.rl_policy.specs.declared.policy.Policy.{Policy}
use Rattle.rl_policy.proofs.BitLemmas.{bit-mod}
use Rattle.rl_policy.specs.Masks.{owned_test}

pub owned_some : (f : ℕ → Policy) (o : Option ℕ) → owned_test (λ p. true) (option_map f o) ≡ is_some o
owned_some f None = refl
owned_some f (Some k) = refl

pub pow_bytes : (n : ℕ) → 2 ^ (8 * n) ≡ 256 ^ n
pow_bytes zero = refl
pow_bytes (suc n) =
    let e : 8 * suc n ≡ 8 + 8 * n = omega arith in
    ap (λ k. 2 ^ k) e ∙ pow-add 2 8 (8 * n) ∙ ap (λ x. 256 * x) (pow_bytes n) ∙ times (256 ^ n) (256 ^ suc n) (pow-suc 256 n)
  where
    times : (x y : ℕ) → y ≡ x * 256 → 256 * x ≡ y
    times x y h = omega (arith, h)

place_in : (lsb width b : ℕ) → is_within lsb width b ≡ true → b - lsb < width
place_in lsb width b e = grind (arith, nat_tests)

-- a part that is cut to its width
pub part_bit : (lsb width v m : ℕ) (word : ℕ → Bool) (b : ℕ) → m ≡ 2 ^ width - 1 → put_bit lsb width (bit (bit_and v m)) word b ≡ put_bit lsb width (bit v) word b
part_bit lsb width v m word b e = by (is_within lsb width b) refl
  where
    by : (t : Bool) → is_within lsb width b ≡ t → cond t (bit (bit_and v m) (b - lsb)) (word b) ≡ cond t (bit v (b - lsb)) (word b)
    by true h = ap (λ n. bit n (b - lsb)) (ap (bit_and v) e ∙ and_mask v width) ∙ bit-mod v width (b - lsb) (place_in lsb width b h)
    by false h = refl
