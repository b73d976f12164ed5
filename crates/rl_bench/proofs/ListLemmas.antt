-- Lists that are filtered in a loop.
use Rattle.std.proofs.lemmas.List.Filters.{length-filter_more}
use Rattle.std.proofs.Common.{◌≡◌, ℕ, zero, suc, ◌+◌, ◌<◌, ◌≤◌, Bool, true, false, cond, ◌&&◌, eqb, List, [], ◌∷◌, ◌++◌, length, get_or, take, drop, refl, sym, ap, ◌∙◌, arith, Some, None}
use Rattle.std.specs.Prelude.{slice_get, filter, find}
use Rattle.std.proofs.lemmas.List.Elements.{filter_more}
use Rattle.std.proofs.lemmas.List.{append-nil, take_more}
use Rattle.std.proofs.lemmas.Bool.Decides.{nat_tests}
use Rattle.std.proofs.lemmas.List.Folds.{find-append}
use Rattle.std.specs.Option.{option_or}

eqb-suc : (k n : ℕ) → eqb k n ≡ eqb (suc k) (suc n)
eqb-suc k n = grind (arith, nat_tests)

slice_get_push : {X : Type 0} (xs : List X) (y : X) (k : ℕ) → slice_get (xs ++ y ∷ []) k ≡ cond (eqb k (length xs)) (Some y) (slice_get xs k)
slice_get_push [] y zero = refl
slice_get_push [] y (suc k) = grind arith
slice_get_push (x ∷ xs) y zero = grind arith
slice_get_push (x ∷ xs) y (suc k) = slice_get_push xs y k ∙ ap (λ b. cond b (Some y) (slice_get xs k)) (eqb-suc k (length xs))

-- the k-th of the elements that pass, over one element more
pub found_more : {X : Type 0} (p : X → Bool) (xs : List X) (i k : ℕ) (d : X) → i < length xs
    → cond (p (get_or xs i d) && eqb k (length (filter p (take i xs)))) (Some (get_or xs i d)) (slice_get (filter p (take i xs)) k) ≡ slice_get (filter p (take (i + 1) xs)) k
found_more p xs i k d l = by (p (get_or xs i d)) ∙ sym (ap (λ ys. slice_get ys k) (filter_more p xs i d l))
  where
    by : (b : Bool) → cond (b && eqb k (length (filter p (take i xs)))) (Some (get_or xs i d)) (slice_get (filter p (take i xs)) k)
        ≡ slice_get (filter p (take i xs) ++ cond b (get_or xs i d ∷ []) []) k
    by true = sym (slice_get_push (filter p (take i xs)) (get_or xs i d) k)
    by false = sym (ap (λ ys. slice_get ys k) (append-nil (filter p (take i xs))))

-- one more that passes: the one that is looked for, or another
pub found_here : {X : Type 0} (p : X → Bool) (xs : List X) (i k : ℕ) (d : X) → i < length xs → p (get_or xs i d) ≡ true
    → k ≡ length (filter p (take i xs)) → Some (get_or xs i d) ≡ slice_get (filter p (take (i + 1) xs)) k
found_here p xs i k d l h e =
    let same : eqb k (length (filter p (take i xs))) ≡ true = grind (arith, nat_tests) in
    rw (h, same) at (found_more p xs i k d l)

pub found_other : {X : Type 0} (p : X → Bool) (xs : List X) (i k : ℕ) (d : X) → i < length xs → p (get_or xs i d) ≡ true
    → (k ≡ length (filter p (take i xs)) → ⊥) → slice_get (filter p (take i xs)) k ≡ slice_get (filter p (take (i + 1) xs)) k
found_other p xs i k d l h e =
    let apart : eqb k (length (filter p (take i xs))) ≡ false = grind (arith, nat_tests) in
    rw (h, apart) at (found_more p xs i k d l)

pub count_here : {X : Type 0} (p : X → Bool) (xs : List X) (i : ℕ) (d : X) → i < length xs → p (get_or xs i d) ≡ true → length (filter p (take i xs)) + 1 ≡ length (filter p (take (i + 1) xs))
count_here p xs i d l h = sym (rw h at (length-filter_more p xs i d l))

-- the first element that passes, over one element more
pub find_more : {X : Type 0} (p : X → Bool) (xs : List X) (i : ℕ) (d : X) → i < length xs
    → find p (take (i + 1) xs) ≡ option_or (find p (take i xs)) (cond (p (get_or xs i d)) (Some (get_or xs i d)) None)
find_more p xs i d l = ap (find p) (take_more xs i d l) ∙ find-append p (take i xs) (get_or xs i d ∷ [])

-- what stands inside a list
pub element : {X : Type 0} (xs : List X) (k : ℕ) → k < length xs → (x : X) × (slice_get xs k ≡ Some x)
element [] k l = absurd (omega (arith, l))
element (x ∷ xs) zero l = (x, refl)
element (x ∷ xs) (suc k) l = element xs k (omega (arith, l))

-- ---- a list from a place on

pub drop_at : {X : Type 0} (xs : List X) (i : ℕ) (d : X) → i < length xs → drop i xs ≡ get_or xs i d ∷ drop (i + 1) xs
drop_at [] i d low = absurd (omega arith)
drop_at (y ∷ ys) zero d low = refl
drop_at (y ∷ ys) (suc i) d low = drop_at ys i d (omega arith) ∙ ap (λ n. get_or ys i d ∷ drop n (y ∷ ys)) (let e : suc (i + 1) ≡ suc i + 1 = omega arith in e)

pub nothing_from : {X : Type 0} (xs : List X) (i : ℕ) → length xs ≤ i → drop i xs ≡ []
nothing_from [] zero h = refl
nothing_from [] (suc i) h = refl
nothing_from (x ∷ xs) zero h = absurd (omega arith)
nothing_from (x ∷ xs) (suc i) h = nothing_from xs i (omega arith)
