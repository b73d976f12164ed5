-- Each single flaw of a description is one that a row can say.
use Rattle.std.proofs.Common.{◌≡◌, ℕ, ◌^◌, ◌<◌, true, Option, Some, None, option_map, option_and_then, is_some, length, refl, sym, ap, subst, arith, inl, inr}
use Rattle.std.specs.Prelude.{slice_get, unwrap_or}
use Rattle.std.proofs.lemmas.Nat.{xor_lt, pow_below}
use Rattle.rl_model.specs.declared.rows.Item.{Item}
use Rattle.rl_model.specs.Chip.{IsSound, value_for}
use Rattle.rl_model.specs.Rows.{ChipData, FieldSeen}
use Rattle.rl_model.proofs.ChipLaws.{value_below}
use Rattle.rl_bus.specs.declared.table.WordRow.{WordRow}
use Rattle.rl_map.specs.Layout.{IsSound as IsSoundLayout, place_at}
use Rattle.rl_bench.specs.Beats.{no_word}
use Rattle.rl_flaw.specs.declared.flaw.Flaw.{Flaw}
use Rattle.rl_flaw.specs.declared.flaw.Flaw.TheVariants.{Deaf, ErrorNth, ErrorRange, OtherPolicy, OtherReset, Stuck}
use Rattle.rl_flaw.specs.Flaws.{width_of}
use Rattle.rl_desc.specs.Data.{DescData}
use Rattle.rl_desc.specs.Flaws.{reset_value}
use Rattle.rl_grade.specs.declared.place.Place.{Place}
use Rattle.rl_grade.specs.declared.place.Place.TheVariants.{OfItem, OfField, OfSession}
use Rattle.rl_grade.specs.Flaws.{row_at}
use Rattle.rl_grade.specs.Place.{IsPlaceIn}
use Rattle.rl_grade.specs.Single.{HasAddress, IsSingleAt, IsWrongIn}
use Rattle.rl_grade_report.specs.RowLaw.{IsWritable, SinglesAreWritable}

value_fits : (c : ChipData) → IsSound c → (f k v : ℕ) → reset_value c f k ≡ Some v → v < 2 ^ width_of c f
value_fits c chip f k v is = by (slice_get c.fields f) refl is
  where
    by : (o : Option FieldSeen) → slice_get c.fields f ≡ o → option_and_then (λ x. value_for k x.resets) o ≡ Some v
        → v < 2 ^ unwrap_or (option_map (λ s. s.shape.width) o) 0
    by None at e = absurd cc
    by (Some x) at e = value_below c chip f x k v at e

-- a value that is wrong in one bit is there and fits
wrong : (width : ℕ) (own : Option ℕ) (v : ℕ) → ((w : ℕ) → own ≡ Some w → w < 2 ^ width) → IsWrongIn width own v
    → (is_some own ≡ true) × (v < 2 ^ width)
wrong width None v fits h = absurd h
wrong width (Some own) v fits (b, low, is) =
    (refl, subst (λ x. x < 2 ^ width) (sym is) (xor_lt width own (2 ^ b) (fits own refl) (pow_below b width low)))

reset_writable : (d : DescData) → IsSound d.chip → (f k v : ℕ) → f < length d.chip.fields → k < length d.chip.kinds
    → IsWrongIn (width_of d.chip f) (reset_value d.chip f k) v → IsWritable d (OtherReset f k v)
reset_writable d chip f k v inside kind h =
    let both = wrong (width_of d.chip f) (reset_value d.chip f k) v (value_fits d.chip chip f k) h in
    (inside, kind, both.0, both.1)

range_writable : (d : DescData) → IsSoundLayout d.layout → (i : Item) (port address : ℕ) → HasAddress d.chip d.layout.rows i port address
    → IsWritable d (ErrorRange port address address)
range_writable d layout i port address (k, low, own, port_is, address_is) =
    let row = row_at d.layout.rows k in
    let here = layout.each_row k no_word low in
    let of_place : row.port ≡ (place_at d.layout row.place).port = ap (λ (r : WordRow). r.port) here.row in
    let inside : row.port < length d.layout.ports =
    subst (λ p. p < length d.layout.ports) (sym of_place) (layout.each_place row.place here.location.place_in).port_in in
    (subst (λ p. p < length d.layout.ports) port_is inside, omega arith, subst (λ a. a < 2 ^ 64) address_is here.low)

nth_writable : (d : DescData) (items n : ℕ) → items < 2 ^ 63 → IsSingleAt d items OfSession (ErrorNth n) → IsWritable d (ErrorNth n)
nth_writable d items n few (some, inl one) = (omega (arith, one), omega (arith, one))
nth_writable d items n few (some, inr last) = (omega (arith, some, last), omega (arith, few, last))

at_place : (d : DescData) (items : ℕ) → IsSound d.chip → IsSoundLayout d.layout → items < 2 ^ 63 → (place : Place) (flaw : Flaw) → IsPlaceIn d.chip place
    → IsSingleAt d items place flaw → IsWritable d flaw
at_place d items chip layout few (OfField f) (Stuck g b v) inside (is, low) = subst (λ h. IsWritable d (Stuck h b v)) (sym is) (inside, low)
at_place d items chip layout few (OfField f) (OtherReset g k v) inside (is, kind, h) =
    subst (λ g. IsWritable d (OtherReset g k v)) (sym is) (reset_writable d chip f k v inside kind h)
at_place d items chip layout few (OfField f) (OtherPolicy g p) inside (is, other) = subst (λ h. IsWritable d (OtherPolicy h p)) (sym is) inside
at_place d items chip layout few (OfItem i) (Deaf j) inside is = subst (λ k. IsWritable d (Deaf k)) (sym is) inside
at_place d items chip layout few (OfItem i) (ErrorRange port from to) inside (is, has) =
    subst (λ t. IsWritable d (ErrorRange port from t)) (sym is) (range_writable d layout i port from has)
at_place d items chip layout few OfSession (ErrorNth n) inside h = nth_writable d items n few h
at_place d items chip layout few place flaw inside h = absurd h

pub singles_writable : SinglesAreWritable
singles_writable d items flaw chip layout few (place, inside, single) = at_place d items chip layout few place flaw inside single
