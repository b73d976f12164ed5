-- Lists of rows.
use Rattle.std.proofs.Common.{◌≡◌, ◌≢◌, ℕ, zero, suc, ◌+◌, ◌<◌, ◌≤◌, Bool, true, false, ◌&&◌, cond, List, [], ◌∷◌, ◌++◌, length}
use Rattle.std.proofs.Common.{length-append, get_or, take, drop, map, Some, None, refl, sym, ap, ◌∙◌, subst, arith}
use Rattle.std.specs.Prelude.{filter, flat_map, find}
use Rattle.std.specs.List.{range_with_len, AllByRecursion, AllWithin}
use Rattle.std.proofs.lemmas.List.Elements.{filter-append}

-- ---- filters

pub filter_none : {X : Type 0} (p : X → Bool) (xs : List X) → AllByRecursion (λ x. p x ≡ false) xs → filter p xs ≡ []
filter_none p [] h = refl
filter_none p (x ∷ xs) h = rw h.0 (filter_none p xs h.1)

pub filter_same : {X : Type 0} (p q : X → Bool) (xs : List X) → AllByRecursion (λ x. p x ≡ q x) xs → filter p xs ≡ filter q xs
filter_same p q [] h = refl
filter_same p q (x ∷ xs) h = rw h.0 (ap (λ ys. cond (q x) (x ∷ ys) ys) (filter_same p q xs h.1))

-- a second test after the first
pub filter_both : {X : Type 0} (p q : X → Bool) (xs : List X) → filter (λ x. p x && q x) xs ≡ filter q (filter p xs)
filter_both p q [] = refl
filter_both p q (x ∷ xs) = by (p x) (filter_both p q xs)
  where
    by : (t : Bool) → filter (λ x. p x && q x) xs ≡ filter q (filter p xs)
        → cond (t && q x) (x ∷ filter (λ x. p x && q x) xs) (filter (λ x. p x && q x) xs) ≡ filter q (cond t (x ∷ filter p xs) (filter p xs))
    by true more = ap (λ ys. cond (q x) (x ∷ ys) ys) more
    by false more = more

pub filter_mapped : {X Y : Type 0} (f : X → Y) (p : Y → Bool) (xs : List X) → filter p (map f xs) ≡ map f (filter (λ x. p (f x)) xs)
filter_mapped f p [] = refl
filter_mapped f p (x ∷ xs) = by (p (f x)) (filter_mapped f p xs)
  where
    by : (t : Bool) → filter p (map f xs) ≡ map f (filter (λ x. p (f x)) xs)
        → cond t (f x ∷ filter p (map f xs)) (filter p (map f xs)) ≡ map f (cond t (x ∷ filter (λ x. p (f x)) xs) (filter (λ x. p (f x)) xs))
    by true more = ap (λ ys. f x ∷ ys) more
    by false more = more

pub filter_flat : {X Y : Type 0} (p : Y → Bool) (f : X → List Y) (xs : List X) → filter p (flat_map f xs) ≡ flat_map (λ x. filter p (f x)) xs
filter_flat p f [] = refl
filter_flat p f (x ∷ xs) = filter-append p (f x) (flat_map f xs) ∙ ap (λ ys. filter p (f x) ++ ys) (filter_flat p f xs)

-- the first that passes heads the filter
pub filter_find : {X : Type 0} (p : X → Bool) (xs : List X) → find p xs ≡ None → filter p xs ≡ []
filter_find p [] e = refl
filter_find p (x ∷ xs) e = by (p x) e (filter_find p xs)
  where
    by : (t : Bool) → cond t (Some x) (find p xs) ≡ None → (find p xs ≡ None → filter p xs ≡ []) → cond t (x ∷ filter p xs) (filter p xs) ≡ []
    by true e more = cc
    by false e more = more e

pub filter_found : {X : Type 0} (p : X → Bool) (xs : List X) (y : X) → find p xs ≡ Some y → (rest : List X) × (filter p xs ≡ y ∷ rest)
filter_found p [] y e = cc
filter_found {X} p (x ∷ xs) y e = by (p x) e (filter_found p xs y)
  where
    by : (t : Bool) → cond t (Some x) (find p xs) ≡ Some y → (find p xs ≡ Some y → (rest : List X) × (filter p xs ≡ y ∷ rest))
        → (rest : List X) × (cond t (x ∷ filter p xs) (filter p xs) ≡ y ∷ rest)
    by true e more = let same : x ≡ y = cc in (filter p xs, ap (λ z. z ∷ filter p xs) same)
    by false e more = more e

-- ---- one part of many

pub flat_nothing : {Y : Type 0} (f : ℕ → List Y) (first n : ℕ) → ((j : ℕ) → j < n → f (first + j) ≡ []) → flat_map f (range_with_len first n) ≡ []
flat_nothing f first zero h = refl
flat_nothing f first (suc n) h =
    let here : f first ≡ [] = subst (λ k. f k ≡ []) (let e : first + 0 ≡ first = omega arith in e) (h 0 (omega arith)) in
    rw here (flat_nothing f (first + 1) n (λ j low. subst (λ k. f k ≡ []) (let e : first + suc j ≡ first + 1 + j = omega arith in e) (h (suc j) (omega arith))))

-- nothing behind a list
pub append_nothing : {Y : Type 0} (ys : List Y) → ys ++ [] ≡ ys
append_nothing [] = refl
append_nothing (y ∷ ys) = ap (λ zs. y ∷ zs) (append_nothing ys)

pub flat_one : {Y : Type 0} (f : ℕ → List Y) (first n i : ℕ) → i < n → ((j : ℕ) → j < n → j ≢ i → f (first + j) ≡ []) → flat_map f (range_with_len first n) ≡ f (first + i)
flat_one f first zero i low h = absurd (omega arith)
flat_one f first (suc n) zero low h =
    let none = flat_nothing f (first + 1) n (λ j in_n. subst (λ k. f k ≡ []) (let e : first + suc j ≡ first + 1 + j = omega arith in e) (h (suc j) (omega arith) (λ e. absurd (omega (arith, e))))) in
    rw none (append_nothing (f first) ∙ ap f (let e : first ≡ first + 0 = omega arith in e))
flat_one f first (suc n) (suc i) low h =
    let here : f first ≡ [] = subst (λ k. f k ≡ []) (let e : first + 0 ≡ first = omega arith in e) (h 0 (omega arith) (λ e. absurd (omega (arith, e)))) in
    rw here (flat_one f (first + 1) n i (omega arith)
    (λ j in_n other. subst (λ k. f k ≡ []) (let e : first + suc j ≡ first + 1 + j = omega arith in e) (h (suc j) (omega arith) (λ e. other (omega (arith, e)))))
    ∙ ap f (let e : first + 1 + i ≡ first + suc i = omega arith in e))

-- ---- the part of an ascending list where a key stands

pub all_below : {X : Type 0} (P : X → Type 0) (xs : List X) (n : ℕ) → AllWithin P xs 0 n → n ≤ length xs → AllByRecursion P (take n xs)
all_below P [] zero h low = tt
all_below P [] (suc n) h low = absurd (omega arith)
all_below P (x ∷ xs) zero h low = tt
all_below P (x ∷ xs) (suc n) h low = (h 0 x (omega arith) (omega arith), all_below P xs n (λ k d p q. h (suc k) d (omega arith) (omega arith)) (omega arith))

pub all_from : {X : Type 0} (P : X → Type 0) (xs : List X) (n : ℕ) → AllWithin P xs n (length xs) → AllByRecursion P (drop n xs)
all_from P [] zero h = tt
all_from P [] (suc n) h = tt
all_from P (x ∷ xs) zero h = (h 0 x (omega arith) (omega arith), all_from P xs zero (λ k d p q. h (suc k) d (omega arith) (omega arith)))
all_from P (x ∷ xs) (suc n) h = all_from P xs n (λ k d p q. h (suc k) d (omega arith) (omega arith))

pub mapped_length : {X Y : Type 0} (f : X → Y) (xs : List X) → length (map f xs) ≡ length xs
mapped_length f [] = refl
mapped_length f (x ∷ xs) = ap suc (mapped_length f xs)

pub append_twice : {X : Type 0} (xs ys zs : List X) → (xs ++ ys) ++ zs ≡ xs ++ (ys ++ zs)
append_twice [] ys zs = refl
append_twice (x ∷ xs) ys zs = ap (λ us. x ∷ us) (append_twice xs ys zs)

pub one_longer : {X : Type 0} (xs : List X) (x : X) → length (xs ++ x ∷ []) ≡ length xs + 1
one_longer xs x = omega (arith, length-append xs (x ∷ []))

pub all_appended : {X : Type 0} (P : X → Type 0) (xs ys : List X) → AllByRecursion P xs → AllByRecursion P ys → AllByRecursion P (xs ++ ys)
all_appended P [] ys a b = b
all_appended P (x ∷ xs) ys a b = (a.0, all_appended P xs ys a.1 b)

pub all_flat : {Y : Type 0} (f : ℕ → List Y) (P : Y → Type 0) (first n : ℕ) → ((j : ℕ) → j < n → AllByRecursion P (f (first + j))) → AllByRecursion P (flat_map f (range_with_len first n))
all_flat f P first zero h = tt
all_flat f P first (suc n) h =
    all_appended P (f first) (flat_map f (range_with_len (first + 1) n))
    (subst (λ k. AllByRecursion P (f k)) (let e : first + 0 ≡ first = omega arith in e) (h 0 (omega arith)))
    (all_flat f P (first + 1) n (λ j low. subst (λ k. AllByRecursion P (f k)) (let e : first + suc j ≡ first + 1 + j = omega arith in e) (h (suc j) (omega arith))))

pub dropped : {X : Type 0} (xs : List X) (i : ℕ) (x : X) → i < length xs → x ≡ get_or xs i x → drop i xs ≡ x ∷ drop (i + 1) xs
dropped [] i x low read = absurd (omega arith)
dropped (y ∷ ys) zero x low read = ap (λ z. z ∷ ys) (sym read)
dropped (y ∷ ys) (suc i) x low read = dropped ys i x (omega arith) read ∙ ap (λ n. x ∷ drop n (y ∷ ys)) (let e : suc (i + 1) ≡ suc i + 1 = omega arith in e)

-- the part of a list from a place on begins with what stands there
pub drop_at : {X : Type 0} (xs : List X) (i : ℕ) (d : X) → i < length xs → drop i xs ≡ get_or xs i d ∷ drop (i + 1) xs
drop_at [] i d low = absurd (omega arith)
drop_at (y ∷ ys) zero d low = refl
drop_at (y ∷ ys) (suc i) d low = drop_at ys i d (omega arith) ∙ ap (λ n. get_or ys i d ∷ drop n (y ∷ ys)) (let e : suc (i + 1) ≡ suc i + 1 = omega arith in e)

-- ---- a list that grows by what a function gives of another one

pub mapped_next : {X Y : Type 0} (f : X → Y) (ys : List Y) (xs : List X) (i : ℕ) (d : X) → i < length xs
    → (ys ++ f (get_or xs i d) ∷ []) ++ map f (drop (i + 1) xs) ≡ ys ++ map f (drop i xs)
mapped_next f ys xs i d low =
    append_twice ys (f (get_or xs i d) ∷ []) (map f (drop (i + 1) xs)) ∙ ap (λ zs. ys ++ map f zs) (sym (drop_at xs i d low))

-- nothing is left from the end on
pub nothing_from : {X : Type 0} (xs : List X) (i : ℕ) → length xs ≤ i → drop i xs ≡ []
nothing_from [] zero h = refl
nothing_from [] (suc i) h = refl
nothing_from (x ∷ xs) zero h = absurd (omega arith)
nothing_from (x ∷ xs) (suc i) h = nothing_from xs i (omega arith)

pub mapped_done : {X Y : Type 0} (f : X → Y) (ys zs : List Y) (xs : List X) (i : ℕ) → length xs ≤ i → ys ++ map f (drop i xs) ≡ zs → ys ≡ zs
mapped_done f ys zs xs i high was = sym (append_nothing ys) ∙ ap (λ us. ys ++ map f us) (sym (nothing_from xs i high)) ∙ was

-- a zero behind a list changes nothing of what is read
pub zero_behind : (xs : List ℕ) (k : ℕ) → get_or (xs ++ 0 ∷ []) k 0 ≡ get_or xs k 0
zero_behind [] zero = refl
zero_behind [] (suc k) = refl
zero_behind (x ∷ xs) zero = refl
zero_behind (x ∷ xs) (suc k) = zero_behind xs k
