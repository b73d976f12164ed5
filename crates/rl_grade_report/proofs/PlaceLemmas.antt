-- The places of a chip.
use Rattle.std.proofs.Common.{◌≡◌, ℕ, zero, suc, ◌+◌, ◌^◌, ◌<◌, ◌≤◌, List, [], ◌∷◌, ◌++◌, length, map, All, Option, Some, None, Result, Ok, Err, OnOk, refl, sym, ap, ◌∙◌, append_assoc, arith}
use Rattle.std.specs.Prelude.{flat_map, option_map, slice_get}
use Rattle.std.specs.List.{range_with_len}
use Rattle.std.proofs.lemmas.List.Elements.{All-append, All-cons, All-map, All-nil}
use Rattle.std.proofs.lemmas.List.FromFn.{map-range_with_len_more}
use Rattle.rl_model.specs.declared.rows.Item.TheVariants.{Reg}
use Rattle.rl_model.specs.declared.rows.RegRow.{RegRow}
use Rattle.rl_model.specs.Chip.{IsSound}
use Rattle.rl_model.specs.Rows.{ChipData}
use Rattle.rl_grade.specs.declared.place.Place.{Place}
use Rattle.rl_grade.specs.declared.place.Place.TheVariants.{OfItem, OfField, OfSession}
use Rattle.rl_grade.specs.Place.{IsPlaceIn}
use Rattle.rl_grade_report.proofs.Parts.{flat_more, range_more}
use Rattle.rl_grade_report.specs.Places.{fields_of, mem_place, mems_places, places_of, reg_places, regs_places}

-- ---- one more behind those that were appended

behind : (xs ys zs all new : List Place) → new ≡ (xs ++ ys) ++ zs → all ≡ ys ++ zs → new ≡ xs ++ all
behind xs ys zs all new is whole = is ∙ append_assoc xs ys zs ∙ ap (λ ws. xs ++ ws) (sym whole)

pub field_more : (before now new : List Place) (first k : ℕ) → now ≡ before ++ map OfField (range_with_len first k)
    → new ≡ now ++ OfField (first + k) ∷ [] → new ≡ before ++ map OfField (range_with_len first (k + 1))
field_more before now new first k so is =
    behind before (map OfField (range_with_len first k)) (OfField (first + k) ∷ []) (map OfField (range_with_len first (k + 1))) new
    (is ∙ ap (λ xs. xs ++ OfField (first + k) ∷ []) so) (map-range_with_len_more OfField first k (first + k) refl)

pub mem_more : (before now new : List Place) (k : ℕ) → now ≡ before ++ mems_places k
    → new ≡ now ++ mem_place k ∷ [] → new ≡ before ++ mems_places (k + 1)
mem_more before now new k so is =
    behind before (mems_places k) (mem_place k ∷ []) (mems_places (k + 1)) new
    (is ∙ ap (λ xs. xs ++ mem_place k ∷ []) so) (map-range_with_len_more mem_place 0 k k (omega arith))

pub reg_more : (c : ChipData) (before now new : List Place) (k : ℕ) → now ≡ before ++ regs_places c k
    → new ≡ now ++ reg_places c k → new ≡ before ++ regs_places c (k + 1)
reg_more c before now new k so is =
    behind before (regs_places c k) (reg_places c k) (regs_places c (k + 1)) new
    (is ∙ ap (λ xs. xs ++ reg_places c k) so)
    (ap (λ ks. flat_map (reg_places c) ks) (range_more k) ∙ flat_more (reg_places c) (range_with_len 0 k) k)

-- ---- a register

fields_are : (o : Option RegRow) (first count : ℕ) → option_map (λ r. r.first) o ≡ Some first → option_map (λ r. r.count) o ≡ Some count
    → map OfField (range_with_len first count) ≡ fields_of o
fields_are None first count f n = absurd (cc)
fields_are (Some r) first count f n =
    let same-first : first ≡ r.first = cc in
    let same-count : count ≡ r.count = cc in
    ap (λ a. map OfField (range_with_len a count)) same-first ∙ ap (λ n. map OfField (range_with_len r.first n)) same-count

pub reg_pushed : {T E : Type 0} (r : Result T E) (c : ChipData) (reg first count : ℕ) (before now new : List Place)
    → option_map (λ r. r.first) (slice_get c.regs reg) ≡ Some first → option_map (λ r. r.count) (slice_get c.regs reg) ≡ Some count
    → now ≡ before ++ OfItem (Reg reg) ∷ [] → OnOk r (new ≡ now ++ map OfField (range_with_len first count))
    → OnOk r (new ≡ before ++ reg_places c reg)
reg_pushed (Ok x) c reg first count before now new f n one others =
    behind before (OfItem (Reg reg) ∷ []) (map OfField (range_with_len first count)) (reg_places c reg) new
    (others ∙ ap (λ xs. xs ++ map OfField (range_with_len first count)) one)
    (ap (λ fs. OfItem (Reg reg) ∷ fs) (sym (fields_are (slice_get c.regs reg) first count f n)))
reg_pushed (Err e) c reg first count before now new f n one others = tt

pub fields_few : (c : ChipData) → IsSound c → (reg first count : ℕ) → option_map (λ r. r.first) (slice_get c.regs reg) ≡ Some first
    → option_map (λ r. r.count) (slice_get c.regs reg) ≡ Some count → first + count < 2 ^ 32
fields_few c chip reg first count f n = by (slice_get c.regs reg) refl f n
  where
    by : (o : Option RegRow) → slice_get c.regs reg ≡ o → option_map (λ r. r.first) o ≡ Some first
        → option_map (λ r. r.count) o ≡ Some count → first + count < 2 ^ 32
    by None at f n = absurd (cc)
    by (Some r) at f n =
        let same-first : first ≡ r.first = cc in
        let same-count : count ≡ r.count = cc in
        let inside = (chip.each_reg reg r at).2 in
        omega (arith, inside, chip.fields, same-first, same-count)

-- ---- each is there

numbers_below : (n s m : ℕ) → s + n ≤ m → All (λ k. k < m) (range_with_len s n)
numbers_below zero s m few = All-nil (λ k. k < m)
numbers_below (suc n) s m few =
    All-cons (λ k. k < m) s (range_with_len (s + 1) n) (omega arith) (numbers_below n (s + 1) m (omega arith))

module _ (c : ChipData) (chip : IsSound c) where
  fields_there : (reg : ℕ) (o : Option RegRow) → slice_get c.regs reg ≡ o → All (IsPlaceIn c) (fields_of o)
  fields_there reg None at = All-nil (IsPlaceIn c)
  fields_there reg (Some r) at =
      All-map (IsPlaceIn c) OfField (range_with_len r.first r.count)
      (numbers_below r.count r.first (length c.fields) (chip.each_reg reg r at).2)

  reg_there : (reg : ℕ) → reg < length c.regs → All (IsPlaceIn c) (reg_places c reg)
  reg_there reg inside =
      All-cons (IsPlaceIn c) (OfItem (Reg reg)) (fields_of (slice_get c.regs reg)) inside (fields_there reg (slice_get c.regs reg) refl)

  regs_there : (n s : ℕ) → s + n ≤ length c.regs → All (IsPlaceIn c) (flat_map (reg_places c) (range_with_len s n))
  regs_there zero s few = All-nil (IsPlaceIn c)
  regs_there (suc n) s few =
      All-append (IsPlaceIn c) (reg_places c s) (flat_map (reg_places c) (range_with_len (s + 1) n)) (reg_there s (omega arith))
      (regs_there n (s + 1) (omega arith))

  pub places_there : All (IsPlaceIn c) (places_of c)
  places_there =
      All-append (IsPlaceIn c) (regs_places c (length c.regs) ++ mems_places (length c.mems)) (OfSession ∷ [])
      (All-append (IsPlaceIn c) (regs_places c (length c.regs)) (mems_places (length c.mems)) (regs_there (length c.regs) 0 (omega arith))
      (All-map (IsPlaceIn c) mem_place (range_with_len 0 (length c.mems)) (numbers_below (length c.mems) 0 (length c.mems) (omega arith))))
      (All-cons (IsPlaceIn c) OfSession [] tt (All-nil (IsPlaceIn c)))
