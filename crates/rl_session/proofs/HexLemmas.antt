-- A number below 2 ^ 64 in 16 digits.
use Rattle.std.proofs.Common.{◌≡◌, ℕ, ◌-◌, ◌^◌, ◌<◌, ◌≤◌, min, max, List, take, ap, ◌∙◌, arith, lit<, lit≤, ⊎_elim}
use Rattle.std.proofs.lemmas.Bool.{cases_lt}
use Rattle.std.proofs.Math.Nat.{pow-le-pow_right}
use Rattle.io.specs.Digits.{IsDigitCount, last_digits}

too_many : (n count len : ℕ) → n < 16 ^ count → count < len → 16 ^ (len - 1) ≤ n → len ≡ count
too_many n count len fits more big =
    let most : 16 ^ count ≤ 16 ^ (len - 1) = pow-le-pow_right (lit< tt) (omega arith) in absurd (omega arith)

count_is : (n count len : ℕ) → 0 < count → count ≤ 16 → n < 16 ^ count → IsDigitCount 16 (min (max count 1) 16) n len
    → len ≡ count
count_is n count len some few fits d =
    ⊎_elim (λ more. too_many n count len fits more (d.2 (omega arith))) (λ same. omega (arith, d.0)) (cases_lt count len)

pub sixteen : (n len : ℕ) (digits : List ℕ) → n < 16 ^ 16 → IsDigitCount 16 16 n len
    → take len digits ≡ last_digits 16 len n → take len digits ≡ last_digits 16 16 n
sixteen n len digits fits d written = written ∙ ap (λ k. last_digits 16 k n) (count_is n 16 len (lit< tt) (lit≤ tt) fits d)
