-- Tests of the numbers from one on.
use Rattle.std.proofs.Common.{◌≡◌, ℕ, ◌+◌, ◌<◌, Bool, true, false, sym, ap, subst, ◌∙◌}
use Rattle.std.specs.List.{list_all, range_with_len}
use Rattle.std.proofs.lemmas.List.Folds.{list_all_at}
use Rattle.std.proofs.lemmas.List.FromFn.{get_or-range_with_len, length-range_with_len}
use Rattle.std.proofs.lemmas.List.Sums.{list_all-from_AllPass}

pub all_from : (test : ℕ → Bool) (a n : ℕ) → ((i : ℕ) → i < n → test (a + i) ≡ true) → list_all test (range_with_len a n) ≡ true
all_from test a n h =
    list_all-from_AllPass test (range_with_len a n) (λ i d low.
    let inside : i < n = subst (λ k. i < k) (length-range_with_len a n) low in ap test (get_or-range_with_len a n i d inside) ∙ h i inside)

pub one_from : (test : ℕ → Bool) (a n i : ℕ) → i < n → test (a + i) ≡ false → list_all test (range_with_len a n) ≡ false
one_from test a n i low h =
    list_all_at test (range_with_len a n) i 0 (subst (λ k. i < k) (sym (length-range_with_len a n)) low) (ap test (get_or-range_with_len a n i 0 low) ∙ h)

pub same_range : (test : ℕ → Bool) (a n b m : ℕ) → a ≡ b → n ≡ m → list_all test (range_with_len a n) ≡ list_all test (range_with_len b m)
same_range test a n b m first count = ap (λ x. list_all test (range_with_len x n)) first ∙ ap (λ y. list_all test (range_with_len b y)) count
