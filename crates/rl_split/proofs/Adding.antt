-- A mask that is summed up bit by bit.
use Rattle.std.proofs.Common.{◌≡◌, ℕ, ◌+◌, ◌*◌, ◌%◌, ◌^◌, ◌<◌, ◌≤◌, Bool, true, false, cond, ap, ◌∙◌, refl, arith, add-one}
use Rattle.std.proofs.Math.Pow.{pow_mono}
use Rattle.std.proofs.Math.Nat.{pow-suc}
use Rattle.rl_policy.specs.Bits.{from_bits}
use Rattle.rl_policy.proofs.BitLemmas.{from_bits-lt}

power_more : (k : ℕ) → 2 ^ (k + 1) ≡ 2 ^ k + 2 ^ k
power_more k = let e : 2 ^ (k + 1) ≡ 2 ^ k * 2 = rw add-one (pow-suc 2 k) in omega (arith, e)

one_bit : (k : ℕ) → k < 8 → 1 * 2 ^ k % 256 ≡ 2 ^ k
one_bit k low =
    let top : 2 ^ (k + 1) ≤ 2 ^ 8 = pow_mono {i = k + 1} {j = 8} (omega arith) in
    let small : 2 ^ k < 256 = omega (arith, top, power_more k, from_bits-lt k (λ b. false)) in
    omega (arith, small)

pub has_room : (k x : ℕ) (f : ℕ → Bool) → k < 8 → x ≡ from_bits k f → x + 1 * 2 ^ k % 256 < 256
has_room k x f low is =
    let top : 2 ^ (k + 1) ≤ 2 ^ 8 = pow_mono {i = k + 1} {j = 8} (omega arith) in
    omega (arith, top, power_more k, one_bit k low, is, from_bits-lt k f)

next_bit : (k : ℕ) (f : ℕ → Bool) → from_bits (k + 1) f ≡ from_bits k f + cond (f k) (2 ^ k) 0
unfolding from_bits
next_bit k f = rw add-one refl

pub bit_added : (k x : ℕ) (f : ℕ → Bool) → k < 8 → x ≡ from_bits k f → f k ≡ true → x + 1 * 2 ^ k % 256 ≡ from_bits (k + 1) f
bit_added k x f low is on =
    let e : from_bits (k + 1) f ≡ from_bits k f + 2 ^ k = next_bit k f ∙ ap (λ t. from_bits k f + cond t (2 ^ k) 0) on in
    omega (arith, e, one_bit k low, is)

pub bit_left_out : (k x : ℕ) (f : ℕ → Bool) → x ≡ from_bits k f → f k ≡ false → x ≡ from_bits (k + 1) f
bit_left_out k x f is off =
    let e : from_bits (k + 1) f ≡ from_bits k f + 0 = next_bit k f ∙ ap (λ t. from_bits k f + cond t (2 ^ k) 0) off in
    omega (arith, e, is)
