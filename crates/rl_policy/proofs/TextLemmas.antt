-- Numbers as text.
use Rattle.std.proofs.Common.{◌≡◌, ℕ, zero, suc, ◌+◌, ◌-◌, ◌*◌, ◌/◌, ◌%◌, ◌^◌, ◌<◌, ◌≤◌, true, List, [], ◌∷◌, ◌++◌, length}
use Rattle.std.proofs.Common.{map, drop, refl, sym, ap, subst, ◌∙◌, arith, inl, inr, lt-ltb, ne_eqb, lit<, lit≤}
use Rattle.std.specs.Prelude.{nat_lt, bit_and, option_and_then}
use Rattle.std.specs.List.{list_all}
use Rattle.std.specs.Char.{digit_char, digit_value, is_digit}
use Rattle.std.specs.Int.Digits.{digits_of, number_from_digits, AllBelowBase}
use Rattle.std.specs.Str.Parse.{digits_value}
use Rattle.std.proofs.lemmas.Bool.{cases_Bool, cases_eq, ltb-true}
use Rattle.std.proofs.lemmas.Nat.{and_mask, mul-le, pow-add}
use Rattle.std.proofs.Math.Nat.{pow-suc}
use Rattle.std.proofs.lemmas.Bool.Decides.{nat_tests}
use Rattle.std.proofs.lemmas.Str.{digit_value-digit_char}
use Rattle.std.proofs.lemmas.Int.Digits.{digits_of_step, digits_value_is, number_digits_of, all_below_base_digits_of, length-digits_of_step}
use Rattle.io.specs.Digits.{IsDigitCount, last_digits}
use Rattle.rl_policy.specs.Numbers.{fitting_option, fitting, is_numeral, numeral_of, has_hex_prefix, number_of, hex_digits, spelled}
use Rattle.rl_policy.specs.declared.number.NumberText.TheVariants.{Value, Bad, TooLarge}

hex_pow : (j : ℕ) → 2 ^ (4 * j) ≡ 16 ^ j
hex_pow zero = refl
hex_pow (suc j) =
    let e : 4 * suc j ≡ 4 * j + 4 = omega arith in
    ap (λ k. 2 ^ k) e ∙ pow-add 2 (4 * j) 4 ∙ ap (λ p. p * 16) (hex_pow j) ∙ sym (pow-suc 16 j)

-- a place of a number in hexadecimal, by a shift and a mask
pub hex_place : (n j : ℕ) → bit_and (n / 2 ^ (4 * j)) 15 ≡ n / 16 ^ j % 16
hex_place n j = and_mask (n / 2 ^ (4 * j)) 4 ∙ ap (λ p. n / p % 16) (hex_pow j)

-- a number that fits no more fits no more with a further digit
grows : (n r d : ℕ) → 2 ≤ r → n ≤ n * r + d
grows n r d h = omega (arith, mul-le n 1 n r (omega arith) (omega arith))

pub fitting_more : (n r d : ℕ) → 2 ≤ r → option_and_then (λ v. fitting_option (v * r + d)) (fitting_option n) ≡ fitting_option (n * r + d)
fitting_more n r d h = grind (arith, nat_tests, grows n r d h)

-- ---- the canonical spelling

map_append : (f : ℕ → ℕ) (xs ys : List ℕ) → map f (xs ++ ys) ≡ map f xs ++ map f ys
map_append f [] ys = refl
map_append f (x ∷ xs) ys = ap (λ (l : List ℕ). f x ∷ l) (map_append f xs ys)

pow_some : (k : ℕ) → 0 < 16 ^ k
pow_some zero = lit< tt
pow_some (suc k) = let e : 16 ^ suc k ≡ 16 ^ k * 16 = pow-suc 16 k in omega (arith, e, pow_some k)

down : (k : ℕ) → suc k - 1 ≡ k
down k = omega arith

-- the digits of a number that isn't 0, written one by one
some_digits : (k n : ℕ) → 0 < n → n < 16 ^ k → 16 ^ (k - 1) ≤ n → last_digits 16 k n ≡ map digit_char (digits_of 16 n)
some_digits zero n some fits least = absurd (omega arith)
some_digits (suc zero) n some fits least =
    let none : n / 16 ≡ 0 = omega arith in
    rw (digits_of_step 16 n (lit≤ tt) some, none) refl
some_digits (suc (suc k)) n some fits least =
    let big : 16 ^ suc k ≡ 16 ^ k * 16 = pow-suc 16 k in
    let bigger : 16 ^ suc (suc k) ≡ 16 ^ suc k * 16 = pow-suc 16 (suc k) in
    let least' : 16 ^ suc k ≤ n = subst (λ (m : ℕ). 16 ^ m ≤ n) (down (suc k)) least in
    let one : 16 ^ k ≤ n / 16 = omega (arith, big, least') in
    let positive : 0 < n / 16 = omega (arith, one, pow_some k) in
    let before : last_digits 16 (suc k) (n / 16) ≡ map digit_char (digits_of 16 (n / 16)) = some_digits (suc k) (n / 16) positive (omega (arith, bigger, fits)) (subst (λ (m : ℕ). 16 ^ m ≤ n / 16)
    (sym (down k)) one) in
    ap (λ (l : List ℕ). l ++ digit_char (n % 16) ∷ []) before
    ∙ sym (ap (map digit_char) (digits_of_step 16 n (lit≤ tt) some) ∙ map_append digit_char (digits_of 16 (n / 16)) (n % 16 ∷ []))

one_digit : (k n : ℕ) → n ≡ 0 → IsDigitCount 16 1 n k → k ≡ 1
one_digit zero n none d = absurd (omega (arith, d.0))
one_digit (suc zero) n none d = refl
one_digit (suc (suc k)) n none d = let least : 16 ^ suc k ≤ n = subst (λ (m : ℕ). 16 ^ m ≤ n) (down (suc k)) (d.2 (omega arith)) in absurd (omega (arith, least, pow_some (suc k)))

count_is : (k n : ℕ) → 0 < n → IsDigitCount 16 1 n k → 16 ^ (k - 1) ≤ n
count_is zero n some d = absurd (omega (arith, d.0))
count_is (suc zero) n some d = some
count_is (suc (suc k)) n some d = d.2 (omega arith)

-- as many digits as the number takes are its digits
pub digits_are : (k n : ℕ) → IsDigitCount 16 1 n k → last_digits 16 k n ≡ hex_digits n
unfolding hex_digits
digits_are k n d =
    elim (cases_eq n 0) [
      | inl none ↦ rw (one_digit k n none d, none) refl
      | inr some ↦ let pos : 0 < n = omega arith in rw (ne_eqb n 0 some) (some_digits k n pos d.1 (count_is k n pos d))
    ]

reads : (ds : List ℕ) (n : ℕ) → 0 < length ds → list_all (λ c. is_digit c 16) ds ≡ true → digits_value 16 ds ≡ n → n < 2 ^ 64 → number_of (48 ∷ 120 ∷ ds) ≡ Value n
reads ds n some digits value small =
    let long : nat_lt 1 (length (48 ∷ 120 ∷ ds)) ≡ true = lt-ltb _ _ (omega arith) in
    let more : nat_lt 0 (length ds) ≡ true = lt-ltb _ _ some in
    let fits : nat_lt n (2 ^ 64) ≡ true = lt-ltb _ _ small in
    rw (long, more, digits, value, fits) refl

digits_pass : (ds : List ℕ) → AllBelowBase 16 ds → list_all (λ c. is_digit c 16) (map digit_char ds) ≡ true
digits_pass [] fits = refl
digits_pass (d ∷ ds) fits = rw (digit_value-digit_char d (omega (arith, fits.0)), lt-ltb d 16 fits.0) (digits_pass ds fits.1)

values_are : (ds : List ℕ) → AllBelowBase 16 ds → map digit_value (map digit_char ds) ≡ ds
values_are [] fits = refl
values_are (d ∷ ds) fits = rw (digit_value-digit_char d (omega (arith, fits.0)), values_are ds fits.1) refl

length_map : (f : ℕ → ℕ) (xs : List ℕ) → length (map f xs) ≡ length xs
length_map f [] = refl
length_map f (x ∷ xs) = ap suc (length_map f xs)

-- the canonical spelling of a number reads as that number
pub spelling_reads : (n : ℕ) → n < 2 ^ 64 → number_of (spelled n) ≡ Value n
unfolding hex_digits
spelling_reads n small =
    elim (cases_eq n 0) [
      | inl none ↦ rw none refl
      | inr some ↦
          let pos : 0 < n = omega arith in
          let below : AllBelowBase 16 (digits_of 16 n) = all_below_base_digits_of 16 n (lit≤ tt) in
          let long : length (digits_of 16 n) ≡ length (digits_of 16 (n / 16)) + 1 = length-digits_of_step 16 n (lit≤ tt) pos in
          rw (ne_eqb n 0 some) (reads (map digit_char (digits_of 16 n)) n (omega (arith, long, length_map digit_char (digits_of 16 n))) (digits_pass (digits_of 16 n) below)
          (digits_value_is 16 (map digit_char (digits_of 16 n)) ∙ ap (number_from_digits 16) (values_are (digits_of 16 n) below) ∙ number_digits_of 16 n (lit≤ tt)) small)
    ]

fitting_fits : (n v : ℕ) → fitting n ≡ Value v → v < 2 ^ 64
fitting_fits n v e =
    elim (cases_Bool (nat_lt n (2 ^ 64))) [
      | inl holds ↦ let h : fitting n ≡ Value n = rw holds refl in let same : Value n ≡ Value v = sym h ∙ e in let k : n ≡ v = cc in rw (← k) (ltb-true _ _ holds)
      | inr fails ↦ let h : fitting n ≡ TooLarge = rw fails refl in let never : TooLarge ≡ Value v = sym h ∙ e in absurd cc
    ]

numeral_fits : (radix : ℕ) (ds : List ℕ) (v : ℕ) → numeral_of radix ds ≡ Value v → v < 2 ^ 64
numeral_fits radix ds v e =
    elim (cases_Bool (is_numeral radix ds)) [
      | inl holds ↦ let h : numeral_of radix ds ≡ fitting (digits_value radix ds) = rw holds refl in fitting_fits (digits_value radix ds) v (sym h ∙ e)
      | inr fails ↦ let h : numeral_of radix ds ≡ Bad = rw fails refl in let never : Bad ≡ Value v = sym h ∙ e in absurd cc
    ]

-- a number that is read fits
pub value_fits : (text : List ℕ) (v : ℕ) → number_of text ≡ Value v → v < 2 ^ 64
value_fits text v e =
    elim (cases_Bool (has_hex_prefix text)) [
      | inl holds ↦ let h : number_of text ≡ numeral_of 16 (drop 2 text) = rw holds refl in numeral_fits 16 (drop 2 text) v (sym h ∙ e)
      | inr fails ↦ let h : number_of text ≡ numeral_of 10 text = rw fails refl in numeral_fits 10 text v (sym h ∙ e)
    ]
