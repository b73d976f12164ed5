-- The places at which the flaws of an item are told.
use Rattle.std.proofs.Common.{◌≡◌, ℕ, ◌+◌, ◌^◌, ◌<◌, List, ◌++◌, length, map, All, Option, Some, None, Result, Ok, Err, OnOk, refl, ap, ◌∙◌, arith}
use Rattle.std.specs.Prelude.{option_map, slice_get}
use Rattle.std.specs.List.{range_with_len}
use Rattle.std.proofs.lemmas.List.Elements.{All-cons, All-map, All-nil}
use Rattle.rl_model.specs.declared.rows.Item.{Item}
use Rattle.rl_model.specs.declared.rows.Item.TheVariants.{Reg, Mem}
use Rattle.rl_model.specs.declared.rows.RegRow.{RegRow}
use Rattle.rl_model.specs.Chip.{HasItem, IsSound}
use Rattle.rl_model.specs.Rows.{ChipData}
use Rattle.rl_grade.specs.declared.place.Place.{Place}
use Rattle.rl_grade.specs.declared.place.Place.TheVariants.{OfItem, OfField}
use Rattle.rl_grade.specs.Place.{IsPlaceIn}
use Rattle.rl_plan.specs.Needed.{fields_of, own_fields, places_of}
use Rattle.rl_plan.proofs.ItemLemmas.{numbers_below}

-- ---- the fields of a register

fields_are : (o : Option RegRow) (first count : ℕ) → option_map (λ r. r.first) o ≡ Some first → option_map (λ r. r.count) o ≡ Some count
    → map OfField (range_with_len first count) ≡ fields_of o
fields_are None first count f n = absurd (cc)
fields_are (Some r) first count f n =
    let same-first : first ≡ r.first = cc in
    let same-count : count ≡ r.count = cc in
    ap (λ a. map OfField (range_with_len a count)) same-first ∙ ap (λ n. map OfField (range_with_len r.first n)) same-count

pub fields_pushed : {T E : Type 0} (r : Result T E) (c : ChipData) (reg first count : ℕ) (old new : List Place)
    → option_map (λ r. r.first) (slice_get c.regs reg) ≡ Some first → option_map (λ r. r.count) (slice_get c.regs reg) ≡ Some count
    → OnOk r (new ≡ old ++ map OfField (range_with_len first count)) → OnOk r (new ≡ old ++ own_fields c (Reg reg))
fields_pushed (Ok x) c reg first count old new f n pushed = pushed ∙ ap (λ fs. old ++ fs) (fields_are (slice_get c.regs reg) first count f n)
fields_pushed (Err e) c reg first count old new f n pushed = tt

pub fields_few : (c : ChipData) → IsSound c → (reg first count : ℕ) → option_map (λ r. r.first) (slice_get c.regs reg) ≡ Some first
    → option_map (λ r. r.count) (slice_get c.regs reg) ≡ Some count → first + count < 2 ^ 32
fields_few c chip reg first count f n = by (slice_get c.regs reg) refl f n
  where
    by : (o : Option RegRow) → slice_get c.regs reg ≡ o → option_map (λ r. r.first) o ≡ Some first
        → option_map (λ r. r.count) o ≡ Some count → first + count < 2 ^ 32
    by None at f n = absurd (cc)
    by (Some r) at f n =
        let same-first : first ≡ r.first = cc in
        let same-count : count ≡ r.count = cc in
        let inside = (chip.each_reg reg r at).2 in
        omega (arith, inside, chip.fields, same-first, same-count)

-- ---- each is there

module _ (c : ChipData) (chip : IsSound c) where
  fields_there : (reg : ℕ) (o : Option RegRow) → slice_get c.regs reg ≡ o → All (IsPlaceIn c) (fields_of o)
  fields_there reg None at = All-nil (IsPlaceIn c)
  fields_there reg (Some r) at =
      All-map (IsPlaceIn c) OfField (range_with_len r.first r.count)
      (numbers_below r.count r.first (length c.fields) (chip.each_reg reg r at).2)

  own_there : (i : Item) → All (IsPlaceIn c) (own_fields c i)
  own_there (Reg reg) = fields_there reg (slice_get c.regs reg) refl
  own_there (Mem mem) = All-nil (IsPlaceIn c)

  pub places_there : (i : Item) → HasItem c i → All (IsPlaceIn c) (places_of c i)
  places_there i inside = All-cons (IsPlaceIn c) (OfItem i) (own_fields c i) inside (own_there i)
