-- The first position at which a test passes, or the length where it passes at none.
use Rattle.std.proofs.Common.{◌≡◌, ℕ, ◌+◌, ◌<◌, ◌≤◌, Bool, true, false, cond, eqb, ltb, List, [], ◌∷◌, ◌++◌, length, get_or, take, Option, Some, None, not, arith, inl, inr, unwrap_or, refl, ap, ◌∙◌}
use Rattle.std.proofs.Common.{lt-ltb, le-ltb, ⊎_elim, add-zero}
use Rattle.std.specs.Prelude.{position, nat_lt}
use Rattle.std.specs.List.{position_or_len}
use Rattle.std.specs.Option.{option_or}
use Rattle.std.proofs.lemmas.Bool.{cases_Bool, cases_lt, ltb-false}
use Rattle.std.proofs.lemmas.Bool.Decides.{nat_tests}
use Rattle.std.proofs.lemmas.List.{take_more, length_push, length-take-le}
use Rattle.std.proofs.lemmas.List.Folds.{position_or_len_push}
use Rattle.std.proofs.lemmas.List.Sums.{prefix_len-le-length}

pub or_length : {X : Type 0} (p : X → Bool) (xs : List X) (o : Option ℕ) → o ≡ position p xs → unwrap_or o (length xs) ≡ position_or_len p xs
or_length p xs o e =
    elim (cases_Bool (nat_lt (position_or_len p xs) (length xs))) [
      | inl holds ↦ let found : position p xs ≡ Some (position_or_len p xs) = rw holds refl in rw (e, found) refl
      | inr fails ↦
          let none : position p xs ≡ None = rw fails refl in
          let whole : length xs ≡ position_or_len p xs = omega (arith, ltb-false _ _ fails, prefix_len-le-length (λ x. not (p x)) xs) in
          rw (e, none) whole
    ]

eqb-same : (n : ℕ) → eqb n n ≡ true
eqb-same n = grind (arith, nat_tests)

-- the first place that passes, where n is the length, k the first place or the length, and b says whether one element more passes
place_push : (n k : ℕ) (b : Bool) → k ≤ n
    → cond (ltb (cond (eqb k n) (n + cond b 0 1) k) (n + 1)) (Some (cond (eqb k n) (n + cond b 0 1) k)) None ≡ option_or (cond (ltb k n) (Some k) None) (cond b (Some n) None)
place_push n k true l =
    ⊎_elim
    (λ w. let e : eqb k n ≡ false = grind (arith, nat_tests) in let u : k < n + 1 = omega (arith, w) in rw (e, lt-ltb k n w, lt-ltb k (n + 1) u) refl)
    (λ g. let same : k ≡ n = omega (arith, l, g) in let u : n < n + 1 = omega arith in let v : n ≤ n = omega arith in rw (same, eqb-same n, add-zero n, lt-ltb n (n + 1) u, le-ltb n n v) refl)
    (cases_lt k n)
place_push n k false l =
    ⊎_elim
    (λ w. let e : eqb k n ≡ false = grind (arith, nat_tests) in let u : k < n + 1 = omega (arith, w) in rw (e, lt-ltb k n w, lt-ltb k (n + 1) u) refl)
    (λ g. let same : k ≡ n = omega (arith, l, g) in let u : n + 1 ≤ n + 1 = omega arith in let v : n ≤ n = omega arith in rw (same, eqb-same n, le-ltb (n + 1) (n + 1) u, le-ltb n n v) refl)
    (cases_lt k n)

place_le : {X : Type 0} (p : X → Bool) (xs : List X) → position_or_len p xs ≤ length xs
place_le p [] = omega arith
place_le p (x ∷ xs) = by (p x) (place_le p xs)
  where
    by : (b : Bool) → position_or_len p xs ≤ length xs → cond (not b) (1 + position_or_len p xs) 0 ≤ length (x ∷ xs)
    by true h = omega arith
    by false h = omega (arith, h)

position_push : {X : Type 0} (p : X → Bool) (xs : List X) (y : X) → position p (xs ++ y ∷ []) ≡ option_or (position p xs) (cond (p y) (Some (length xs)) None)
position_push p xs y =
    ap (λ k. cond (ltb k (length (xs ++ y ∷ []))) (Some k) None) (position_or_len_push p xs y)
    ∙ ap (λ n. cond (ltb (cond (eqb (position_or_len p xs) (length xs)) (length xs + cond (p y) 0 1) (position_or_len p xs)) n)
    (Some (cond (eqb (position_or_len p xs) (length xs)) (length xs + cond (p y) 0 1) (position_or_len p xs))) None) (length_push xs y)
    ∙ place_push (length xs) (position_or_len p xs) (p y) (place_le p xs)

-- the first place that passes, over one element more
pub position_more : {X : Type 0} (p : X → Bool) (xs : List X) (i : ℕ) (d : X) → i < length xs
    → position p (take (i + 1) xs) ≡ option_or (position p (take i xs)) (cond (p (get_or xs i d)) (Some i) None)
position_more p xs i d l =
    ap (position p) (take_more xs i d l) ∙ position_push p (take i xs) (get_or xs i d)
    ∙ ap (λ n. option_or (position p (take i xs)) (cond (p (get_or xs i d)) (Some n) None)) (length-take-le i xs (omega (arith, l)))
