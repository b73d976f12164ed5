-- A right is a bit of a set of rights.
use Rattle.std.proofs.Common.{◌≡◌, ℕ, zero, suc, ◌*◌, ◌<◌, ◌==◌, bit_and, refl, ap, ◌∙◌, arith}
use Rattle.std.specs.Int.{bit_at}
use Rattle.std.proofs.lemmas.Nat.Bits.{and_pow, bit_at-lt}
use Rattle.rl_policy.specs.Bits.{bit}

one_bit : (b : ℕ) → b < 2 → (b * 1 == 1) ≡ (b == 1)
one_bit zero low = refl
one_bit (suc zero) low = refl
one_bit (suc (suc b)) low = absurd (omega arith)

two_bits : (b : ℕ) → b < 2 → (b * 2 == 2) ≡ (b == 1)
two_bits zero low = refl
two_bits (suc zero) low = refl
two_bits (suc (suc b)) low = absurd (omega arith)

pub reads : (n : ℕ) → (bit_and n 1 == 1) ≡ bit n 0
unfolding bit
reads n = ap (λ x. x == 1) (and_pow n 0) ∙ one_bit (bit_at n 0) (bit_at-lt n 0)

pub writes : (n : ℕ) → (bit_and n 2 == 2) ≡ bit n 1
unfolding bit
writes n = ap (λ x. x == 2) (and_pow n 1) ∙ two_bits (bit_at n 1) (bit_at-lt n 1)
