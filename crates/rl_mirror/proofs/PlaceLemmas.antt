-- The field that a bit belongs to.
use Rattle.std.proofs.Common.{◌≡◌, ℕ, zero, suc, ◌+◌, ◌<◌, ◌≤◌, Bool, true, false, cond, eqb, ltb, List, [], ◌∷◌, length, get_or, Option, Some, None, refl, sym, ap, ◌∙◌, inl, inr, lt-ltb, le-ltb}
use Rattle.std.proofs.Common.{ne_eqb, arith}
use Rattle.std.specs.List.{position_from}
use Rattle.std.specs.Option.{option_map_or}
use Rattle.std.proofs.lemmas.Bool.{cases_eq, cases_lt, eq-eqb}
use Rattle.std.proofs.lemmas.Iterator.Adapters.{position_from-zero}
use Rattle.std.proofs.lemmas.List.Quantifiers.{position-Some}
use Rattle.rl_model.specs.declared.rows.Field.{Field}
use Rattle.rl_model.specs.Rows.{FieldSeen}
use Rattle.rl_model.specs.Fields.{no_field, field_in, covers, place_at}

-- the fields of a register of so many bits
pub record IsFieldList (bits : ℕ) (fs : List FieldSeen) : Type 0 where
  pub few : length fs ≤ 64
  pub most : bits ≤ 64
  pub some : (k : ℕ) → k < length fs → 1 ≤ (field_in fs k).shape.width
  pub inside : (k : ℕ) → k < length fs → (field_in fs k).shape.lsb + (field_in fs k).shape.width ≤ bits
  pub apart : (i j b : ℕ) → i < length fs → j < length fs → covers (field_in fs i).shape b ≡ true → covers (field_in fs j).shape b ≡ true → i ≡ j

none_from : {X : Type 0} (p : X → Bool) (k : ℕ) (xs : List X) (i : ℕ) (d : X) → position_from p k xs ≡ None → i < length xs → p (get_or xs i d) ≡ false
none_from p k [] i d none l = absurd (omega arith)
none_from p k (x ∷ xs) zero d none l = by (p x) none
  where
    by : (t : Bool) → cond t (Some k) (position_from p (k + 1) xs) ≡ None → t ≡ false
    by true e = cc
    by false e = refl
none_from p k (x ∷ xs) (suc i) d none l = by (p x) none (λ rest. none_from p (k + 1) xs i d rest (omega arith))
  where
    by : (t : Bool) → cond t (Some k) (position_from p (k + 1) xs) ≡ None → (position_from p (k + 1) xs ≡ None → p (get_or xs i d) ≡ false) → p (get_or xs i d) ≡ false
    by true e later = cc
    by false e later = later e

pub place_is : (fs : List FieldSeen) (b k : ℕ) → place_at fs b ≡ Some k → (k < length fs) × (covers (field_in fs k).shape b ≡ true)
unfolding place_at
place_is fs b k at = let found = position-Some (λ (f : FieldSeen). covers f.shape b) fs k no_field at in (found.0, found.1)

pub no_place : (fs : List FieldSeen) (b k : ℕ) → place_at fs b ≡ None → k < length fs → covers (field_in fs k).shape b ≡ false
unfolding place_at
no_place fs b k none l = none_from (λ (f : FieldSeen). covers f.shape b) 0 fs k no_field (sym (position_from-zero (λ (f : FieldSeen). covers f.shape b) fs) ∙ none) l

-- it is the place of the bit
abbrev pub is_place : Option ℕ → ℕ → Bool
is_place o i = option_map_or (λ k. eqb k i) o false

-- a field covers a bit exactly where its place is that of the bit
pub covers_is : (bits : ℕ) (fs : List FieldSeen) (i b : ℕ) → IsFieldList bits fs → i < length fs → covers (field_in fs i).shape b ≡ is_place (place_at fs b) i
covers_is bits fs i b list l = by (place_at fs b) refl
  where
    other : (k : ℕ) → place_at fs b ≡ Some k → (k ≡ i → ⊥) → (t : Bool) → covers (field_in fs i).shape b ≡ t → t ≡ false
    other k at ne true is = let found = place_is fs b k at in absurd (ne (list.apart k i b found.0 l found.1 is))
    other k at ne false is = refl

    by : (o : Option ℕ) → place_at fs b ≡ o → covers (field_in fs i).shape b ≡ is_place o i
    by None at = no_place fs b i at l
    by (Some k) at =
        elim (cases_eq k i) [
          | inl same ↦ rw (← same) ((place_is fs b k at).1 ∙ sym (eq-eqb k k refl))
          | inr ne ↦ other k at ne (covers (field_in fs i).shape b) refl ∙ sym (ne_eqb k i ne)
        ]

-- ---- a word that is made field by field

-- a bit once the fields at the first i places were taken
abbrev pub so_far : ℕ → (ℕ → Bool) → Option ℕ → Bool → Bool
so_far i part o kept = option_map_or (λ k. cond (ltb k i) (part k) kept) o kept

pub so_far-zero : (part : ℕ → Bool) (o : Option ℕ) (kept : Bool) → so_far 0 part o kept ≡ kept
so_far-zero part None kept = refl
so_far-zero part (Some k) kept = let none : ltb k 0 ≡ false = le-ltb k 0 (omega arith) in rw none refl

ltb-next : (k i : ℕ) → (k ≡ i → ⊥) → ltb k (i + 1) ≡ ltb k i
ltb-next k i ne =
    elim (cases_lt k i) [
      | inl l ↦ lt-ltb k (i + 1) (omega arith) ∙ sym (lt-ltb k i l)
      | inr g ↦ le-ltb k (i + 1) (omega arith) ∙ sym (le-ltb k i g)
    ]

-- the field at the next place is taken
pub so_far-next : (i : ℕ) (part : ℕ → Bool) (o : Option ℕ) (kept : Bool) (made : Bool → Bool) → part i ≡ made kept
    → cond (is_place o i) (made (so_far i part o kept)) (so_far i part o kept) ≡ so_far (i + 1) part o kept
so_far-next i part None kept made e = refl
so_far-next i part (Some k) kept made e =
    elim (cases_eq k i) [
      | inl same ↦
          let here : eqb k i ≡ true = eq-eqb k i same in
          let not_yet : ltb k i ≡ false = le-ltb k i (omega arith) in
          let now : ltb k (i + 1) ≡ true = lt-ltb k (i + 1) (omega arith) in
          rw (here, not_yet, now) (sym e ∙ ap part (sym same))
      | inr ne ↦
          let there : eqb k i ≡ false = ne_eqb k i ne in
          rw (there, ltb-next k i ne) refl
    ]

-- it is left out, as its bits stay as they are
pub so_far-skip : (i : ℕ) (part : ℕ → Bool) (o : Option ℕ) (kept : Bool) → part i ≡ kept → so_far i part o kept ≡ so_far (i + 1) part o kept
so_far-skip i part o kept e = same (is_place o i) (so_far i part o kept) ∙ so_far-next i part o kept (λ x. x) e
  where
    same : (t x : Bool) → x ≡ cond t x x
    same true x = refl
    same false x = refl

-- all were
pub so_far-all : (n : ℕ) (part : ℕ → Bool) (o : Option ℕ) (kept : Bool) → ((k : ℕ) → o ≡ Some k → k < n) → so_far n part o kept ≡ option_map_or part o kept
so_far-all n part None kept all = refl
so_far-all n part (Some k) kept all = rw (lt-ltb k n (all k refl)) refl

-- the same for a bit of a word into which the bits of the next field were put
pub taken : (bits : ℕ) (fs : List FieldSeen) (i b : ℕ) (f : Field) (part : ℕ → Bool) (kept new old made window : Bool) → IsFieldList bits fs → i < length fs → f ≡ (field_in fs i).shape
    → window ≡ covers f b → new ≡ cond window made old → made ≡ part i → old ≡ so_far i part (place_at fs b) kept → new ≡ so_far (i + 1) part (place_at fs b) kept
taken bits fs i b f part kept new old made window list l is seat put made_is was =
    let at : window ≡ is_place (place_at fs b) i = seat ∙ ap (λ (g : Field). covers g b) is ∙ covers_is bits fs i b list l in
    put ∙ rw (at, made_is, was) (so_far-next i part (place_at fs b) kept (λ x. part i) refl)
