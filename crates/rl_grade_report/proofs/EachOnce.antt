-- The places of a chip are all there, each once, and so are their flaws.
use Rattle.std.proofs.Common.{◌≡◌, ◌≢◌, inl, inr, ℕ, zero, suc, ◌+◌, ◌-◌, ◌<◌, ◌≤◌, List, [], ◌∷◌, ◌++◌, length, map, All, Option, Some, None, refl, sym, ap, subst, ◌∙◌, arith}
use Rattle.std.specs.Prelude.{Contains, IsSomeAnd, flat_map, get_or, slice_get}
use Rattle.std.specs.List.{range_with_len}
use Rattle.std.proofs.lemmas.Bool.{cases_eq}
use Rattle.std.proofs.lemmas.List.Elements.{All-append, All-cons, All-contains, All-contains_itself, All-map, All-nil, All-tail, All-weaker}
use Rattle.std.proofs.lemmas.List.Elements.{Contains-append_left, Contains-append_right}
use Rattle.std.proofs.lemmas.List.FromFn.{get_or-map-range_with_len, length-map-range_with_len}
use Rattle.std.proofs.lemmas.Option.{slice_get_cases, slice_get_within}
use Rattle.rl_model.specs.declared.rows.Field.{Field}
use Rattle.rl_model.specs.declared.rows.Item.TheVariants.{Reg, Mem}
use Rattle.rl_model.specs.declared.rows.RegRow.{RegRow}
use Rattle.rl_model.specs.Chip.{IsFieldOf, IsSound}
use Rattle.rl_model.specs.Rows.{ChipData, FieldSeen}
use Rattle.rl_grade.specs.declared.place.Place.{Place}
use Rattle.rl_grade.specs.declared.place.Place.TheVariants.{OfItem, OfField, OfSession}
use Rattle.rl_grade.specs.Place.{IsPlaceIn, flaws_at}
use Rattle.rl_grade.specs.Single.{IsSingleAt}
use Rattle.rl_grade.proofs.Complete.{complete}
use Rattle.rl_grade.proofs.Distinct.{Apart, apart_append, apart_map, apart_pairs, apart_range, place_apart, places_are_apart}
use Rattle.rl_grade.proofs.Made.{none_made_up}
use Rattle.rl_grade_report.specs.Places.{fields_of, mem_place, mems_places, places_of, reg_places, regs_places}
use Rattle.rl_grade_report.specs.Whole.{EachIsGraded, IsSingle, NoOtherIsGraded, NoneIsGradedTwice, all_flaws}
use Rattle.rl_grade_report.proofs.PlaceLemmas.{places_there}

-- ---- a list that is made of lists

module _ {X Y : Type 0} (f : X → List Y) where
  has_flat : (xs : List X) (x : X) (y : Y) → Contains xs x → Contains (f x) y → Contains (flat_map f xs) y
  has_flat [] x y (k, low, is) at = absurd (omega arith)
  has_flat (z ∷ xs) x y (zero, low, is) at =
      Contains-append_left (f z) (flat_map f xs) y (subst (λ w. Contains (f w) y) (sym is) at)
  has_flat (z ∷ xs) x y (suc k, low, is) at =
      Contains-append_right (f z) (flat_map f xs) y (has_flat xs x y (k, omega arith, is) at)

  each_flat : (P : Y → Type 0) (xs : List X) → All (λ x. All P (f x)) xs → All P (flat_map f xs)
  each_flat P [] each = All-nil P
  each_flat P (x ∷ xs) each =
      All-append P (f x) (flat_map f xs) (each 0 x (omega arith)) (each_flat P xs (All-tail (λ x. All P (f x)) x xs each))

  -- an element of the list of another one
  abbrev IsBeside : X → Y → Type 0
  IsBeside x y = (z : X) × (x ≢ z) × Contains (f z) y

  apart_flat : ((x z : X) (y : Y) → Contains (f x) y → Contains (f z) y → x ≡ z) → ((x : X) → Apart (f x)) → (xs : List X)
      → Apart xs → Apart (flat_map f xs)
  apart_flat one each [] h = tt
  apart_flat one each (x ∷ xs) h =
      apart_append (Contains (f x)) (IsBeside x)
      (λ a b here (z, other, there) same. other (one x z a here (subst (Contains (f z)) (sym same) there)))
      (f x) (flat_map f xs) (All-contains_itself (f x))
      (each_flat (IsBeside x) xs
      (All-weaker (λ z. x ≢ z) (λ z. All (IsBeside x) (f z))
      (λ z other. All-weaker (Contains (f z)) (IsBeside x) (λ y at. (z, other, at)) (f z) (All-contains_itself (f z))) xs h.0))
      (each x) (apart_flat one each xs h.1)

-- ---- each place is there

has_made : (f : ℕ → Place) (first n k j : ℕ) → k < n → first + k ≡ j → Contains (map f (range_with_len first n)) (f j)
has_made f first n k j low is =
    (k, subst (λ m. k < m) (sym (length-map-range_with_len f first n)) low, get_or-map-range_with_len f first n k j (f j) low is)

has_number : (first n k : ℕ) → first ≤ k → k < first + n → Contains (range_with_len first n) k
has_number first zero k from low = absurd (omega (arith, from, low))
has_number first (suc n) k from low = elim (cases_eq first k) [
  | inl is ↦ (0, omega arith, is)
  | inr other ↦
      let (m, few, at) = has_number (first + 1) n k (omega (arith, from, other)) (omega (arith, low)) in (suc m, omega (arith, few), at)
]

numbers_in : (first n : ℕ) → All (λ k. (first ≤ k) × (k < first + n)) (range_with_len first n)
numbers_in first zero = All-nil (λ k. (first ≤ k) × (k < first + 0))
numbers_in first (suc n) =
    All-cons (λ k. (first ≤ k) × (k < first + suc n)) first (range_with_len (first + 1) n) (omega arith, omega arith)
    (All-weaker (λ k. (first + 1 ≤ k) × (k < first + 1 + n)) (λ k. (first ≤ k) × (k < first + suc n))
    (λ k (from, low). (omega (arith, from), omega (arith, low))) (range_with_len (first + 1) n) (numbers_in (first + 1) n))

same_field : {x y : FieldSeen} → Some x ≡ Some y → x ≡ y
same_field e = cc

module _ (c : ChipData) (chip : IsSound c) where
  abbrev regs : List Place
  regs = regs_places c (length c.regs)

  abbrev mems : List Place
  mems = mems_places (length c.mems)

  has_reg : (r : ℕ) (place : Place) → r < length c.regs → Contains (reg_places c r) place → Contains (places_of c) place
  has_reg r place low at =
      Contains-append_left (regs ++ mems) (OfSession ∷ []) place
      (Contains-append_left regs mems place
      (has_flat (reg_places c) (range_with_len 0 (length c.regs)) r place
      (has_number 0 (length c.regs) r (omega arith) (omega (arith, low))) at))

  has_field : (f r : ℕ) (shape : Field) (o : Option RegRow) → slice_get c.regs r ≡ o → IsSomeAnd o (IsFieldOf f shape)
      → Contains (places_of c) (OfField f)
  has_field f r shape None at inside = absurd inside
  has_field f r shape (Some row) at (from, low, bits) =
      let (m, few, is) = has_made OfField row.first row.count (f - row.first) f (omega (arith, from, low)) (omega (arith, from)) in
      let here : Contains (OfItem (Reg r) ∷ fields_of (Some row)) (OfField f) = (suc m, omega (arith, few), is) in
      has_reg r (OfField f) (slice_get_within c.regs r row at)
      (subst (λ o. Contains (OfItem (Reg r) ∷ fields_of o) (OfField f)) (sym at) here)

  each_place : (place : Place) → IsPlaceIn c place → Contains (places_of c) place
  each_place (OfItem (Reg r)) low = has_reg r (OfItem (Reg r)) low (0, omega arith, refl)
  each_place (OfItem (Mem m)) low =
      Contains-append_left (regs ++ mems) (OfSession ∷ []) (mem_place m)
      (Contains-append_right regs mems (mem_place m) (has_made mem_place 0 (length c.mems) m m low (omega arith)))
  each_place (OfField f) low = elim (slice_get_cases c.fields f).1 [
    | inl there ↦
        let (x, few, at, is) = there in
        has_field f x.shape.reg x.shape (slice_get c.regs x.shape.reg) refl (chip.each_field f x at).0
    | inr past ↦ let far = past.0 in absurd (omega (arith, far, low))
  ]
  each_place OfSession low = Contains-append_right (regs ++ mems) (OfSession ∷ []) OfSession (0, omega arith, refl)

  -- ---- none is there twice

  -- the place is the register's, or that of one of its fields
  abbrev IsAtReg : ℕ → Place → Type 0
  IsAtReg n (OfItem (Reg r)) = r ≡ n
  IsAtReg n (OfItem (Mem m)) = ⊥
  IsAtReg n (OfField f) = (x : FieldSeen) × (slice_get c.fields f ≡ Some x) × (x.shape.reg ≡ n)
  IsAtReg n OfSession = ⊥

  one_reg : (n m : ℕ) (place : Place) → IsAtReg n place → IsAtReg m place → n ≡ m
  one_reg n m (OfItem (Reg r)) a b = sym a ∙ b
  one_reg n m (OfItem (Mem k)) a b = absurd a
  one_reg n m (OfField f) (x, at, is) (y, again, was) =
      sym is ∙ ap (λ (z : FieldSeen). z.shape.reg) (same_field (sym at ∙ again)) ∙ was
  one_reg n m OfSession a b = absurd a

  field_at : (n : ℕ) (r : RegRow) → slice_get c.regs n ≡ Some r → (k : ℕ) → r.first ≤ k → k < r.first + r.count
      → IsAtReg n (OfField k)
  field_at n r at k from low = elim (slice_get_cases c.fields k).1 [
    | inl there ↦ let (x, few, is, same) = there in (x, is, chip.owned n k r x at is from low)
    | inr past ↦ let far = past.0 in let inside = (chip.each_reg n r at).2 in absurd (omega (arith, far, inside, low))
  ]

  fields_at : (n : ℕ) (o : Option RegRow) → slice_get c.regs n ≡ o → All (IsAtReg n) (fields_of o)
  fields_at n None at = All-nil (IsAtReg n)
  fields_at n (Some r) at =
      All-map (IsAtReg n) OfField (range_with_len r.first r.count)
      (All-weaker (λ k. (r.first ≤ k) × (k < r.first + r.count)) (λ k. IsAtReg n (OfField k))
      (λ k (from, low). field_at n r at k from low) (range_with_len r.first r.count) (numbers_in r.first r.count))

  reg_at : (n : ℕ) → All (IsAtReg n) (reg_places c n)
  reg_at n =
      All-cons (IsAtReg n) (OfItem (Reg n)) (fields_of (slice_get c.regs n)) refl (fields_at n (slice_get c.regs n) refl)

  one_owner : (n m : ℕ) (place : Place) → Contains (reg_places c n) place → Contains (reg_places c m) place → n ≡ m
  one_owner n m place here there =
      one_reg n m place (All-contains (IsAtReg n) (reg_places c n) place (reg_at n) here)
      (All-contains (IsAtReg m) (reg_places c m) place (reg_at m) there)

  fields_apart : (o : Option RegRow) → Apart (fields_of o)
  fields_apart None = tt
  fields_apart (Some r) = apart_map OfField (λ a b same. cc) (range_with_len r.first r.count) (apart_range r.first r.count)

  fields_other : (n : ℕ) (o : Option RegRow) → All (λ y. OfItem (Reg n) ≢ y) (fields_of o)
  fields_other n None = All-nil (λ y. OfItem (Reg n) ≢ y)
  fields_other n (Some r) =
      All-map (λ y. OfItem (Reg n) ≢ y) OfField (range_with_len r.first r.count) (λ k d low same. cc)

  regs_apart : Apart regs
  regs_apart =
      apart_flat (reg_places c) one_owner (λ n. (fields_other n (slice_get c.regs n), fields_apart (slice_get c.regs n)))
      (range_with_len 0 (length c.regs)) (apart_range 0 (length c.regs))

  -- registers and fields, memories, and the session
  abbrev sort_of : Place → ℕ
  sort_of (OfItem (Reg r)) = 0
  sort_of (OfItem (Mem m)) = 1
  sort_of (OfField f) = 0
  sort_of OfSession = 2

  abbrev IsSort : ℕ → Place → Type 0
  IsSort n place = sort_of place ≡ n

  fields_sort : (o : Option RegRow) → All (IsSort 0) (fields_of o)
  fields_sort None = All-nil (IsSort 0)
  fields_sort (Some r) = All-map (IsSort 0) OfField (range_with_len r.first r.count) (λ k d low. refl)

  reg_sort : (n : ℕ) → All (IsSort 0) (reg_places c n)
  reg_sort n = All-cons (IsSort 0) (OfItem (Reg n)) (fields_of (slice_get c.regs n)) refl (fields_sort (slice_get c.regs n))

  regs_sort : All (IsSort 0) regs
  regs_sort =
      each_flat (reg_places c) (IsSort 0) (range_with_len 0 (length c.regs))
      (λ k d low. reg_sort (get_or (range_with_len 0 (length c.regs)) k d))

  mems_sort : All (IsSort 1) mems
  mems_sort = All-map (IsSort 1) mem_place (range_with_len 0 (length c.mems)) (λ k d low. refl)

  items_sort : All (λ y. sort_of y < 2) (regs ++ mems)
  items_sort =
      All-append (λ y. sort_of y < 2) regs mems
      (All-weaker (IsSort 0) (λ y. sort_of y < 2) (λ y is. omega (arith, is)) regs regs_sort)
      (All-weaker (IsSort 1) (λ y. sort_of y < 2) (λ y is. omega (arith, is)) mems mems_sort)

  places_apart : Apart (places_of c)
  places_apart =
      apart_append (λ y. sort_of y < 2) (IsSort 2) (λ x y low is same. let e = ap sort_of same in omega (arith, low, is, e))
      (regs ++ mems) (OfSession ∷ []) items_sort (All-cons (IsSort 2) OfSession [] refl (All-nil (IsSort 2)))
      (apart_append (IsSort 0) (IsSort 1) (λ x y none one same. let e = ap sort_of same in omega (arith, none, one, e))
      regs mems regs_sort mems_sort regs_apart
      (apart_map mem_place (λ a b same. cc) (range_with_len 0 (length c.mems)) (apart_range 0 (length c.mems))))
      (All-nil (λ y. OfSession ≢ y), tt)

-- ---- their flaws

pub every_graded : EachIsGraded
every_graded d items flaw chip (place, inside, single) =
    has_flat (flaws_at d items) (places_of d.chip) place flaw (each_place d.chip chip place inside) (complete d items place flaw single)

pub no_other : NoOtherIsGraded
no_other d items chip =
    each_flat (flaws_at d items) (IsSingle d items) (places_of d.chip)
    (All-weaker (IsPlaceIn d.chip) (λ p. All (IsSingle d items) (flaws_at d items p))
    (λ p inside. All-weaker (IsSingleAt d items p) (IsSingle d items) (λ flaw single. (p, inside, single)) (flaws_at d items p)
    (none_made_up d items p)) (places_of d.chip) (places_there d.chip chip))

pub none_twice : NoneIsGradedTwice
none_twice d items chip =
    apart_pairs (all_flaws d items)
    (apart_flat (flaws_at d items) (places_are_apart d items) (place_apart d items) (places_of d.chip) (places_apart d.chip chip))
