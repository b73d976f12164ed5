-- The digits of a number that is moved up, and how many digits a number has.
use Rattle.std.proofs.Common.{◌≡◌, ℕ, zero, suc, ◌+◌, ◌-◌, ◌*◌, ◌/◌, ◌%◌, ◌^◌, ◌<◌, ◌≤◌, List, [], ◌∷◌, ◌++◌, take, drop, slice_range}
use Rattle.std.proofs.Common.{refl, sym, ap, ◌∙◌, subst, arith, pow-suc, mul_assoc, mul-lt-mul_of_pos_right, lit<}
use Rattle.std.proofs.lemmas.List.{take_all, take-append-le, take-take}
use Rattle.std.proofs.lemmas.Nat.{pow-add, leading_top}
use Rattle.std.proofs.Math.Nat.{pow-le-pow_right}
use Rattle.std.proofs.Math.Seq.{take-add}
use Rattle.std.specs.Int.Count.{count_leading_zeros}
use Rattle.io.specs.Digits.{hex_digit_ascii, last_digits, IsDigitCount}
use Rattle.rl_report.specs.Numbers.{padded}
use Rattle.rl_report.proofs.DigitLemmas.{len_digits}

pub hex_pow : (j : ℕ) → 2 ^ (4 * j) ≡ 16 ^ j
hex_pow zero = refl
hex_pow (suc j) =
    let e : 4 * suc j ≡ 4 * j + 4 = omega arith in
    ap (λ k. 2 ^ k) e ∙ pow-add 2 (4 * j) 4 ∙ ap (λ p. p * 16) (hex_pow j) ∙ sym (pow-suc 16 j)

pow_some : (k : ℕ) → 0 < 16 ^ k
pow_some zero = lit< tt
pow_some (suc k) = let e : 16 ^ suc k ≡ 16 ^ k * 16 = pow-suc 16 k in omega (arith, e, pow_some k)

-- one place less
one_less : (n j : ℕ) → n * 16 ^ suc j / 16 ≡ n * 16 ^ j
one_less n j =
    let e : n * 16 ^ suc j ≡ n * 16 ^ j * 16 = ap (λ p. n * p) (pow-suc 16 j) ∙ sym (mul_assoc n (16 ^ j) 16) in
    omega (arith, e)

-- a number that is moved up has its digits in front
moved : (count k t n : ℕ) → t ≡ count + k → take count (last_digits 16 t (n * 16 ^ k)) ≡ last_digits 16 count n
moved count zero t n e =
    let all : t ≡ count = omega arith in
    let same : n * 16 ^ 0 ≡ n = omega arith in
    ap (λ m. take count (last_digits 16 t m)) same ∙ ap (λ m. take count (last_digits 16 m n)) all ∙ take_all count (last_digits 16 count n) (omega (arith, len_digits count n))
moved count (suc j) zero n e = absurd (omega arith)
moved count (suc j) (suc t) n e =
    let size = len_digits t (n * 16 ^ suc j / 16) in
    take-append-le count (last_digits 16 t (n * 16 ^ suc j / 16)) (hex_digit_ascii (n * 16 ^ suc j % 16) ∷ []) (omega (arith, size))
    ∙ ap (λ m. take count (last_digits 16 t m)) (one_less n j)
    ∙ moved count j t n (omega arith)

-- the digits of a number in front of others
front_digits : (width count n : ℕ) → count ≤ width → take count (padded width (n * 2 ^ (4 * (width - count)))) ≡ padded count n
unfolding padded
front_digits width count n few = ap (λ p. take count (last_digits 16 width (n * p))) (hex_pow (width - count)) ∙ moved count (width - count) width n (omega arith)

-- it loses no digit, in 64 bits
pub moved_fits : (width count n : ℕ) → width ≤ 16 → count ≤ width → n < 16 ^ count → n * 2 ^ (4 * (width - count)) < 2 ^ 64
moved_fits width count n wide few fits =
    let sum : count + (width - count) ≡ width = omega arith in
    let all : 16 ^ count * 16 ^ (width - count) ≡ 16 ^ width = sym (pow-add 16 count (width - count)) ∙ ap (λ k. 16 ^ k) sum in
    let some = pow_some (width - count) in
    let less : n * 16 ^ (width - count) < 16 ^ count * 16 ^ (width - count) = omega (arith, mul-lt-mul_of_pos_right {k = 16 ^ (width - count)} fits some) in
    let most : 16 ^ width ≤ 16 ^ 16 = pow-le-pow_right {n = 16} (lit< tt) {i = width} {j = 16} wide in
    subst (λ p. n * p < 2 ^ 64) (sym (hex_pow (width - count))) (omega (arith, less, all, most))

-- a text behind which digits were written, and of which so many count
pub digits_pushed : (old new : List ℕ) (end width count n : ℕ) → count ≤ width → take end new ≡ take end old
    → slice_range new end (end + width) ≡ padded width (n * 2 ^ (4 * (width - count)))
    → take (end + count) new ≡ take end old ++ padded count n
digits_pushed old new end width count n few front digits =
    let size : end + width - end ≡ width = omega arith in
    let all : take width (drop end new) ≡ padded width (n * 2 ^ (4 * (width - count))) = ap (λ k. take k (drop end new)) (sym size) ∙ digits in
    take-add end count new
    ∙ ap (λ l. l ++ take count (drop end new)) front
    ∙ ap (λ l. take end old ++ l) (sym (take-take count width (drop end new) few) ∙ ap (take count) all ∙ front_digits width count n few)

-- ---- how many digits

pub one_digit : (n : ℕ) → n < 16 → IsDigitCount 16 1 n 1
one_digit n h = (omega arith, omega arith, λ k. absurd (omega arith))

-- as many digits as the highest bit needs
pub many_digits : (n : ℕ) → n < 2 ^ 64 → 16 ≤ n → IsDigitCount 16 1 n ((67 - count_leading_zeros 64 n) / 4)
many_digits n fits many =
    let (j, sum, least, below) = leading_top 64 n (omega arith) fits in
    let count : (67 - count_leading_zeros 64 n) / 4 ≡ suc (j / 4) = omega (arith, sum) in
    let high : 2 ^ suc j ≤ 16 ^ suc (j / 4) = subst (λ p. 2 ^ suc j ≤ p) (hex_pow (suc (j / 4))) (pow-le-pow_right {n = 2} (lit< tt) {i = suc j} {j = 4 * suc (j / 4)} (omega arith)) in
    let low : 16 ^ (j / 4) ≤ 2 ^ j = subst (λ p. p ≤ 2 ^ j) (hex_pow (j / 4)) (pow-le-pow_right {n = 2} (lit< tt) {i = 4 * (j / 4)} {j = j} (omega arith)) in
    let one : suc (j / 4) - 1 ≡ j / 4 = omega arith in
    subst (λ k. IsDigitCount 16 1 n k) (sym count) (omega arith, omega (arith, below, high), λ k. subst (λ m. 16 ^ m ≤ n) (sym one) (omega (arith, low, least)))
