-- Texts that are put part by part.
use Rattle.std.proofs.Common.{◌≡◌, ℕ, zero, suc, ◌+◌, ◌-◌, ◌<◌, ◌≤◌, List, [], ◌++◌, length, drop, Some, ap, ◌∙◌, arith}
use Rattle.std.specs.List.{flat_map, range_with_len, slice_get}
use Rattle.std.proofs.lemmas.List.{drop_more, drop_all}
use Rattle.std.proofs.lemmas.Option.{get_or_from_slice_get, slice_get_within}

less : (i n : ℕ) → i < n → n - i ≡ suc (n - (i + 1))
less i n h = omega arith

none : (i n : ℕ) → n ≤ i → n - i ≡ zero
none i n h = omega arith

pub next_number : (f : ℕ → List ℕ) (i n : ℕ) → i < n → flat_map f (range_with_len i (n - i)) ≡ f i ++ flat_map f (range_with_len (i + 1) (n - (i + 1)))
next_number f i n h = ap (λ k. flat_map f (range_with_len i k)) (less i n h)

pub no_number : (f : ℕ → List ℕ) (i n : ℕ) → n ≤ i → flat_map f (range_with_len i (n - i)) ≡ []
no_number f i n h = ap (λ k. flat_map f (range_with_len i k)) (none i n h)

pub next_item : {A : Type 0} (f : A → List ℕ) (xs : List A) (k : ℕ) (x : A) → slice_get xs k ≡ Some x → flat_map f (drop k xs) ≡ f x ++ flat_map f (drop (k + 1) xs)
next_item f xs k x h =
    ap (λ l. flat_map f l) (drop_more xs k x (slice_get_within xs k x h)) ∙ ap (λ y. f y ++ flat_map f (drop (k + 1) xs)) (get_or_from_slice_get xs k x x h)

pub no_item : {A : Type 0} (f : A → List ℕ) (xs : List A) (k : ℕ) → length xs ≤ k → flat_map f (drop k xs) ≡ []
no_item f xs k h = ap (λ l. flat_map f l) (drop_all k xs h)
