-- Tests of numbers and of truth values.
use Rattle.std.proofs.Common.{◌≡◌, ◌≢◌, ℕ, ◌+◌, ◌<◌, ◌≤◌, inl, inr, Bool, true, false, not, ◌==◌, ◌&&◌, ◌||◌, nat_lt, Option, Some, None, is_some, refl, arith, eqb-true}
use Rattle.std.proofs.lemmas.Bool.{cases_lt}
use Rattle.std.proofs.lemmas.Bool.Decides.{nat_tests}

pub lt_true : (a b : ℕ) → a < b → nat_lt a b ≡ true
lt_true a b h = grind (arith, nat_tests)

pub lt_false : (a b : ℕ) → b ≤ a → nat_lt a b ≡ false
lt_false a b h = grind (arith, nat_tests)

pub lt_from : (a b : ℕ) → nat_lt a b ≡ true → a < b
lt_from a b h = grind (arith, nat_tests)

pub ge_from : (a b : ℕ) → nat_lt a b ≡ false → b ≤ a
ge_from a b h = grind (arith, nat_tests)

pub and_true : (a b : Bool) → (a && b) ≡ true → (a ≡ true) × (b ≡ true)
and_true true b e = (refl, e)
and_true false b e = cc

pub both : (a b : Bool) → a ≡ true → b ≡ true → (a && b) ≡ true
both a b e f = rw (e, f) refl

pub not_true : (b : Bool) → (b ≡ true → ⊥) → b ≡ false
not_true true h = absurd (h refl)
not_true false h = refl

pub true_false : (b : Bool) → b ≡ true → b ≡ false → ⊥
true_false b e f = cc

pub or_false : (a b : Bool) → (a || b) ≡ false → (a ≡ false) × (b ≡ false)
or_false true b e = cc
or_false false b e = (refl, e)

pub three : {X : Type 0} (a b : ℕ) → (a < b → X) → (b < a → X) → (a ≡ b → X) → X
three a b f g h = elim (cases_lt a b) [ inl p ↦ f p | inr p ↦ elim (cases_lt b a) [ inl q ↦ g q | inr q ↦ h (omega arith) ] ]

pub differ : (a b : ℕ) → a ≢ b → not (a == b) ≡ true
differ a b h = by (a == b) refl
  where
    by : (t : Bool) → (a == b) ≡ t → not t ≡ true
    by true e = absurd (h (eqb-true a b e))
    by false e = refl

pub some_is : (o : Option ℕ) → is_some o ≡ true → (q : ℕ) × (o ≡ Some q)
some_is None e = absurd cc
some_is (Some q) e = (q, refl)

pub at_zero : (j : ℕ) → 0 + j ≡ j
at_zero j = omega arith
