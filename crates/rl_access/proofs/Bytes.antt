-- Digits, bytes and bits.
use Rattle.std.proofs.Common.{◌≡◌, ℕ, zero, suc, ◌+◌, ◌*◌, ◌^◌, ◌<◌, ◌≤◌, ◌∙◌, ap, sym, subst, refl, arith}
use Rattle.std.proofs.lemmas.Nat.{pow-add, mul-pow}
use Rattle.std.proofs.Math.Nat.{one-le-pow}

-- two digits hold a byte
pub bytes_digits : (n : ℕ) → 16 ^ (2 * n) ≡ 256 ^ n
bytes_digits n =
    let e : 2 * n ≡ n + n = omega arith in
    ap (λ k. 16 ^ k) e ∙ pow-add 16 n n ∙ sym (mul-pow 16 16 n)

-- four bits make a digit
pub digit_bits : (n : ℕ) → 2 ^ (4 * n) ≡ 16 ^ n
digit_bits zero = refl
digit_bits (suc n) =
    let e : 4 * suc n ≡ 4 + 4 * n = omega arith in
    let f : suc n ≡ 1 + n = omega arith in
    ap (λ k. 2 ^ k) e ∙ pow-add 2 4 (4 * n) ∙ ap (λ k. 16 * k) (digit_bits n) ∙ sym (ap (λ k. 16 ^ k) f ∙ pow-add 16 1 n)

-- and so do eight bits
pub bytes_bits : (n : ℕ) → 2 ^ (8 * n) ≡ 256 ^ n
bytes_bits n =
    let e : 8 * n ≡ 4 * (2 * n) = omega arith in
    ap (λ k. 2 ^ k) e ∙ digit_bits (2 * n) ∙ bytes_digits n

-- what the bytes hold, their digits hold
pub below_digits : (n v : ℕ) → v < 256 ^ n → v < 16 ^ (2 * n)
below_digits n v h = subst (λ limit. v < limit) (sym (bytes_digits n)) h

pub zero_fits : (base n : ℕ) → 0 < base → 0 < base ^ n
zero_fits base n some = let more : 1 ≤ base ^ n = one-le-pow n base some in omega (arith, more)
