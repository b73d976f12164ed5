-- Tests of all bits of a field, or of all fields.
use Rattle.std.proofs.Common.{◌≡◌, ◌⊎◌, inl, inr, ℕ, ◌+◌, ◌<◌, ◌≤◌, Bool, true, false, List, length, get_or, if◌then◌else◌, refl, sym, ap, subst, ◌∙◌, arith, ◌==◌}
use Rattle.std.specs.List.{list_all, range_with_len}
use Rattle.std.proofs.lemmas.Bool.{cases_lt}
use Rattle.std.proofs.lemmas.List.Folds.{list_all_at}
use Rattle.std.proofs.lemmas.List.FromFn.{get_or-range_with_len, length-range_with_len}
use Rattle.std.proofs.lemmas.List.Sums.{list_all-from_AllPass}
use Rattle.std.proofs.lemmas.List.{get_or_default}
use Rattle.rl_policy.specs.Bits.{from_bits}
use Rattle.rl_model.specs.Rows.{ChipData}
use Rattle.rl_map.specs.Layout.{LayoutData}
use Rattle.rl_flaw.specs.declared.flaw.Flaw.{Flaw}
use Rattle.rl_flaw.specs.declared.flaw.Flaw.TheVariants.{Deaf, ErrorNth, ErrorRange, OtherPolicy, OtherReset, Stuck}
use Rattle.rl_flaw.specs.Flaws.{IsFlawOf}
use Rattle.rl_grade.specs.Hidden.{IsThere}

-- the i-th of those below n
below : (n i d : ℕ) → i < n → get_or (range_with_len 0 n) i d ≡ i
below n i d low = let here : 0 + i ≡ i = omega arith in get_or-range_with_len 0 n i d low ∙ here

pub each_passes : (test : ℕ → Bool) (n : ℕ) → ((i : ℕ) → i < n → test i ≡ true) → list_all test (range_with_len 0 n) ≡ true
each_passes test n h =
    list_all-from_AllPass test (range_with_len 0 n) (λ i d low.
    let inside : i < n = subst (λ k. i < k) (length-range_with_len 0 n) low in ap test (below n i d inside) ∙ h i inside)

pub one_fails : (test : ℕ → Bool) (n i : ℕ) → i < n → test i ≡ false → list_all test (range_with_len 0 n) ≡ false
one_fails test n i low h =
    list_all_at test (range_with_len 0 n) i 0 (subst (λ k. i < k) (sym (length-range_with_len 0 n)) low) (ap test (below n i 0 low) ∙ h)

pub all_pass : {X : Type 0} (test : X → Bool) (xs : List X) (e : X) → ((i : ℕ) → i < length xs → test (get_or xs i e) ≡ true) → list_all test xs ≡ true
all_pass test xs e h = list_all-from_AllPass test xs (λ i d low. ap test (get_or_default xs i d e low) ∙ h i low)

pub one_bit : (f : ℕ → Bool) → (from_bits 1 f == 1) ≡ f 0
unfolding from_bits
one_bit f = by (f 0)
  where
    by : (b : Bool) → ((0 + (if b then 1 else 0)) == 1) ≡ b
    by true = refl
    by false = refl

pub next_holds : (P : ℕ → Type 0) (i : ℕ) → ((j : ℕ) → j < i → P j) → P i → (j : ℕ) → j < i + 1 → P j
next_holds P i before here j low = by (cases_lt j i)
  where
    by : (j < i) ⊎ (i ≤ j) → P j
    by (inl less) = before j less
    by (inr most) = let same : i ≡ j = omega (arith, low, most) in subst P same here

pub there : (c : ChipData) (l : LayoutData) (flaw : Flaw) → IsFlawOf c l flaw → IsThere c flaw
there c l (Stuck f i v) h = h.0
there c l (OtherPolicy f p) h = h
there c l (OtherReset f k v) h = h.0
there c l (Deaf i) h = h
there c l (ErrorRange port from to) h = tt
there c l (ErrorNth n) h = tt
