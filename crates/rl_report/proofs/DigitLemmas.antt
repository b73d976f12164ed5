-- The hexadecimal digits of a number, two at a time.
use Rattle.std.proofs.Common.{◌≡◌, ℕ, zero, suc, ◌+◌, ◌-◌, ◌*◌, ◌/◌, ◌%◌, ◌<◌, ◌≤◌, Bool, true, ◌&&◌, T, eqb, List, [], ◌∷◌, ◌++◌, length, drop}
use Rattle.std.proofs.Common.{get_or, refl, sym, ap, ◌∙◌, inl, inr, arith, eq-zero-or-pos, eqb→eq, append_assoc, append-nil, length-append}
use Rattle.std.proofs.lemmas.List.{drop_all}
use lib.Ieee.Fits.{and_l, and_r}
use Rattle.io.specs.Digits.{hex_digit_ascii, last_digits}
use Rattle.rl_report.specs.Numbers.{padded}
use Rattle.rl_report.specs.declared.numbers.TheConstants.{PAIRS}

abbrev are_pairs : ℕ → Bool
are_pairs zero = true
are_pairs (suc p) = (eqb (get_or PAIRS (p * 2) 0) (hex_digit_ascii (p / 16)) && eqb (get_or PAIRS (p * 2 + 1) 0) (hex_digit_ascii (p % 16))) && are_pairs p

below : (n p : ℕ) → T (are_pairs n) → p < n → (get_or PAIRS (p * 2) 0 ≡ hex_digit_ascii (p / 16)) × (get_or PAIRS (p * 2 + 1) 0 ≡ hex_digit_ascii (p % 16))
below zero p t h = absurd (omega arith)
below (suc n) p t h =
    elim (eq-zero-or-pos (n - p)) [
      | inl z ↦ let e : p ≡ n = omega arith in let a = and_l _ (are_pairs n) t in rw e (eqb→eq _ _ (and_l _ _ a), eqb→eq _ _ (and_r _ _ a))
      | inr g ↦ below n p (and_r _ (are_pairs n) t) (omega arith)
    ]

-- the two digits of a byte
pub pairs_at : (p : ℕ) → p < 256 → (get_or PAIRS (p * 2) 0 ≡ hex_digit_ascii (p / 16)) × (get_or PAIRS (p * 2 + 1) 0 ≡ hex_digit_ascii (p % 16))
pairs_at p h = below 256 p tt h

-- two more digits were written, before those that were
pub two_more : (at rest : ℕ) (old new : List ℕ) → 2 ≤ at → drop (at - 2) new ≡ hex_digit_ascii (rest % 256 / 16) ∷ hex_digit_ascii (rest % 256 % 16) ∷ drop (at - 2 + 2) old
    → last_digits 16 (at - 2) (rest / 256) ++ drop (at - 2) new ≡ last_digits 16 at rest ++ drop at old
two_more zero rest old new h e = absurd (omega arith)
two_more (suc zero) rest old new h e = absurd (omega arith)
two_more (suc (suc k)) rest old new h e =
    let place : suc (suc k) - 2 ≡ k = omega arith in
    let behind : suc (suc k) - 2 + 2 ≡ suc (suc k) = omega arith in
    let high : rest % 256 / 16 ≡ rest / 16 % 16 = omega arith in
    let low : rest % 256 % 16 ≡ rest % 16 = omega arith in
    let others : rest / 256 ≡ rest / 16 / 16 = omega arith in
    let todo = last_digits 16 k (rest / 16 / 16) in
    let done = drop (suc (suc k)) old in
    ap (λ l. last_digits 16 (suc (suc k) - 2) (rest / 256) ++ l) e
    ∙ ap (λ n. last_digits 16 n (rest / 256) ++ hex_digit_ascii (rest % 256 / 16) ∷ hex_digit_ascii (rest % 256 % 16) ∷ drop (suc (suc k) - 2 + 2) old) place
    ∙ ap (λ n. last_digits 16 k n ++ hex_digit_ascii (rest % 256 / 16) ∷ hex_digit_ascii (rest % 256 % 16) ∷ drop (suc (suc k) - 2 + 2) old) others
    ∙ ap (λ d. todo ++ hex_digit_ascii d ∷ hex_digit_ascii (rest % 256 % 16) ∷ drop (suc (suc k) - 2 + 2) old) high
    ∙ ap (λ d. todo ++ hex_digit_ascii (rest / 16 % 16) ∷ hex_digit_ascii d ∷ drop (suc (suc k) - 2 + 2) old) low
    ∙ ap (λ n. todo ++ hex_digit_ascii (rest / 16 % 16) ∷ hex_digit_ascii (rest % 16) ∷ drop n old) behind
    ∙ sym (append_assoc (todo ++ hex_digit_ascii (rest / 16 % 16) ∷ []) (hex_digit_ascii (rest % 16) ∷ []) done ∙ append_assoc todo
    (hex_digit_ascii (rest / 16 % 16) ∷ []) (hex_digit_ascii (rest % 16) ∷ done))

pub len_digits : (k n : ℕ) → length (last_digits 16 k n) ≡ k
len_digits zero n = refl
len_digits (suc k) n = let rest = len_digits k (n / 16) in omega (arith, rest, length-append (last_digits 16 k (n / 16)) (hex_digit_ascii (n % 16) ∷ []))

-- the digits that are put, at the start and at the end
pub none_put : (n : ℕ) (text : List ℕ) → last_digits 16 (length text) n ++ drop (length text) text ≡ padded (length text) n
unfolding padded
none_put n text = ap (λ l. last_digits 16 (length text) n ++ l) (drop_all (length text) text (omega arith)) ∙ append-nil (last_digits 16 (length text) n)
