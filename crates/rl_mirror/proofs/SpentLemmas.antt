-- The marks after a write.
use Rattle.std.proofs.Common.{◌≡◌, ℕ, ◌+◌, ◌-◌, ◌<◌, ◌≤◌, Bool, true, false, ◌&&◌, ◌||◌, eqb, leb, ltb, List, length, map, set, get_or, refl, sym, ap, ◌∙◌, inl, inr, lt-ltb, le-ltb, ne_eqb, arith}
use Rattle.std.specs.List.{range_with_len}
use Rattle.std.proofs.lemmas.Bool.{cases_eq, cases_lt, le-leb, lt-leb, eq-eqb}
use Rattle.std.proofs.lemmas.List.{same_lists, get_or_default, get_or-set_same, get_or-set_other}
use Rattle.std.proofs.lemmas.List.FromFn.{get_or-map-range_with_len, length-map-range_with_len}
use Rattle.rl_policy.specs.Bits.{bit}
use Rattle.rl_policy.specs.Table.{spends_mark}
use Rattle.rl_model.specs.Rows.{ChipData}
use Rattle.rl_model.specs.Chip.{IsSound}
use Rattle.rl_model.specs.Fields.{field_of, first_of, count_of}
use Rattle.rl_mirror.specs.Prediction.{is_spent_by, spent_after}
use Rattle.rl_mirror.proofs.FieldLemmas.{owner_is, seated}
use Rattle.rl_mirror.proofs.SetLemmas.{among, among-passed, among-zero}

-- the field at place k is spent by a write of these fields
abbrev pub spends_at : ChipData → (reg fields k : ℕ) → Bool
spends_at c reg fields k = bit fields k && spends_mark (field_of c (first_of c reg + k)).shape.policy

-- field n is one of the first i of the register, and spent
abbrev pub is_spent_so_far : ChipData → (reg fields i n : ℕ) → Bool
is_spent_so_far c reg fields i n = leb (first_of c reg) n && among i (spends_at c reg fields) (n - first_of c reg)

pub spent_none : (c : ChipData) (reg fields n : ℕ) (old : Bool) → old ≡ (old || is_spent_so_far c reg fields 0 n)
spent_none c reg fields n old = rw (← among-zero (spends_at c reg fields) (n - first_of c reg)) (by old (leb (first_of c reg) n))
  where
    by : (x t : Bool) → x ≡ (x || (t && false))
    by true t = refl
    by false true = refl
    by false false = refl

-- the next field isn't spent
pub spent_passed : (c : ChipData) (reg fields i n : ℕ) → spends_at c reg fields i ≡ false → is_spent_so_far c reg fields i n ≡ is_spent_so_far c reg fields (i + 1) n
spent_passed c reg fields i n e = ap (λ t. leb (first_of c reg) n && t) (among-passed i (n - first_of c reg) (spends_at c reg fields) e)

-- it is
pub spent_added : (c : ChipData) (reg fields i n : ℕ) (old : Bool) (marks : List Bool) → spends_at c reg fields i ≡ true → first_of c reg + i < length marks
    → get_or marks n false ≡ (old || is_spent_so_far c reg fields i n)
    → get_or (set marks (first_of c reg + i) true) n false ≡ (old || is_spent_so_far c reg fields (i + 1) n)
spent_added c reg fields i n old marks e l was =
    elim (cases_eq n (first_of c reg + i)) [
      | inl same ↦
          let place : n - first_of c reg ≡ i = omega arith in
          let from : leb (first_of c reg) n ≡ true = le-leb (first_of c reg) n (omega arith) in
          let next : ltb i (i + 1) ≡ true = lt-ltb i (i + 1) (omega arith) in
          rw (same, get_or-set_same marks (first_of c reg + i) true false l) (rw (← same) (rw (from, place, next, e) (sym (ends old))))
      | inr ne ↦ get_or-set_other marks (first_of c reg + i) n true false ne ∙ was ∙ ap (λ t. old || t) (other ne)
    ]
  where
    ends : (x : Bool) → (x || true) ≡ true
    ends true = refl
    ends false = refl

    other : (n ≡ first_of c reg + i → ⊥) → is_spent_so_far c reg fields i n ≡ is_spent_so_far c reg fields (i + 1) n
    other ne =
        elim (cases_lt n (first_of c reg)) [
          | inl before ↦ let none : leb (first_of c reg) n ≡ false = lt-leb (first_of c reg) n before in rw none refl
          | inr from ↦
              elim (cases_lt (n - first_of c reg) i) [
                | inl inside ↦ rw (lt-ltb (n - first_of c reg) i inside, lt-ltb (n - first_of c reg) (i + 1) (omega arith)) refl
                | inr past ↦ rw (le-ltb (n - first_of c reg) i past, le-ltb (n - first_of c reg) (i + 1) (omega arith)) refl
              ]
        ]

-- all fields of the register were taken
all_taken : (c : ChipData) (reg fields n : ℕ) → IsSound c → reg < length c.regs → n < length c.fields → is_spent_so_far c reg fields (count_of c reg) n ≡ is_spent_by c reg fields n
all_taken c reg fields n sound lr ln =
    elim (cases_eq (field_of c n).shape.reg reg) [
      | inl own ↦
          let s = seated c n sound ln in
          let first : first_of c reg ≤ n = rw (← own) s.first in
          let last : n < first_of c reg + count_of c reg = rw (← own) s.last in
          let from : leb (first_of c reg) n ≡ true = le-leb (first_of c reg) n first in
          let inside : ltb (n - first_of c reg) (count_of c reg) ≡ true = lt-ltb (n - first_of c reg) (count_of c reg) (omega arith) in
          let number : first_of c reg + (n - first_of c reg) ≡ n = omega arith in
          let here : eqb (field_of c n).shape.reg reg ≡ true = eq-eqb (field_of c n).shape.reg reg own in
          rw (from, inside, here, number) refl
      | inr other ↦
          let there : eqb (field_of c n).shape.reg reg ≡ false = ne_eqb (field_of c n).shape.reg reg other in
          rw there (outside other)
    ]
  where
    none : (t : Bool) → (t && false) ≡ false
    none true = refl
    none false = refl

    outside : ((field_of c n).shape.reg ≡ reg → ⊥) → is_spent_so_far c reg fields (count_of c reg) n ≡ false
    outside other =
        elim (cases_lt n (first_of c reg)) [
          | inl before ↦ rw (lt-leb (first_of c reg) n before) refl
          | inr from ↦
              elim (cases_lt n (first_of c reg + count_of c reg)) [
                | inl inside ↦ absurd (other (owner_is c reg n sound lr from inside))
                | inr past ↦ rw (le-ltb (n - first_of c reg) (count_of c reg) (omega arith)) (none (leb (first_of c reg) n))
              ]
        ]

pub spent_all : (c : ChipData) (reg fields : ℕ) (old new : List Bool) → IsSound c → reg < length c.regs → length old ≡ length c.fields → length new ≡ length old
    → ((n : ℕ) → n < length old → get_or new n false ≡ (get_or old n false || is_spent_so_far c reg fields (count_of c reg) n))
    → new ≡ spent_after c reg fields old
unfolding spent_after
spent_all c reg fields old new sound lr marks long same =
    same_lists new (map (λ n. get_or old n false || is_spent_by c reg fields n) (range_with_len 0 (length old)))
    (long ∙ sym (length-map-range_with_len (λ n. get_or old n false || is_spent_by c reg fields n) 0 (length old)))
    (λ n d l.
    let within : n < length old = omega arith in
    get_or_default new n d false l ∙ same n within ∙ ap (λ t. get_or old n false || t) (all_taken c reg fields n sound lr (omega arith))
    ∙ sym (get_or-map-range_with_len (λ n. get_or old n false || is_spent_by c reg fields n) 0 (length old) n n d within (omega arith)))

pub length-spent_after : (c : ChipData) (reg fields : ℕ) (spent : List Bool) → length (spent_after c reg fields spent) ≡ length spent
unfolding spent_after
length-spent_after c reg fields spent = length-map-range_with_len (λ n. get_or spent n false || is_spent_by c reg fields n) 0 (length spent)
