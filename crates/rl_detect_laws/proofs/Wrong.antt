-- A field after a HARD reset: in the device, and as it is then believed.
use Rattle.std.proofs.Common.{◌≡◌, ℕ, ◌+◌, ◌-◌, ◌*◌, ◌^◌, ◌<◌, Bool, false, List, length, Some}
use Rattle.std.proofs.Common.{refl, sym, ap, ◌∙◌, subst, arith}
use Rattle.std.specs.Prelude.{slice_index}
use Rattle.std.specs.Option.{option_map_or}
use Rattle.std.proofs.lemmas.List.{get_or-map}
use Rattle.rl_policy.specs.Bits.{bit}
use Rattle.rl_policy.proofs.BitLemmas.{bit-from_bits, is_from_bits}
use Rattle.rl_bus.specs.declared.table.FieldRow.{FieldRow}
use Rattle.rl_bus.specs.declared.table.ResetRow.{ResetRow}
use Rattle.rl_bus.specs.Setup.{Setup, Flaws, no_field as no_row, field_of as row_of_field, field_at, reset_of, stuck_at, or_else, held}
use Rattle.rl_bus.specs.State.{State, value_bit, reset_bit as device_bit, reg_reset}
use Rattle.rl_model.specs.Rows.{FieldSeen, ChipData}
use Rattle.rl_model.specs.Chip.{IsSound, value_for}
use Rattle.rl_model.specs.Fields.{no_field, field_of, first_of, fields_of, field_in, size_of, place_at}
use Rattle.rl_map.specs.Layout.{LayoutData}
use Rattle.rl_map.specs.Tables.{field_row, setup_of}
use Rattle.rl_split.specs.Law.{no_flaws}
use Rattle.rl_mirror.specs.Fields.{part_of}
use Rattle.rl_mirror.specs.Prediction.{reset_bit, after_reset}
use Rattle.rl_mirror.proofs.FieldLemmas.{field_list, seated}
use Rattle.rl_mirror.proofs.MirrorLemmas.{place_of}
use Rattle.rl_mirror.proofs.PlaceLemmas.{IsFieldList, covers_is}
use Rattle.rl_mirror.proofs.WordLemmas.{bit-word_by_field}
use Rattle.rl_access.specs.Operation.{reg_of}
use Rattle.rl_plain.proofs.NothingFound.{place_found, covered}
use Rattle.rl_plain.proofs.Resets.{field_found as plain_found}
use Rattle.rl_detect_laws.specs.Resets.{wrong_resets}

-- ---- the bits of a field

-- each belongs to it
pub record IsBitOf (fs : List FieldSeen) (k b : ℕ) : Type 0 where
  pub low : b < 64
  pub at : place_at fs b ≡ Some k

pub bit_of : (bits : ℕ) (fs : List FieldSeen) (k i : ℕ) → IsFieldList bits fs → k < length fs → i < (field_in fs k).shape.width
    → IsBitOf fs k ((field_in fs k).shape.lsb + i)
bit_of bits fs k i list inside l =
    let f = (field_in fs k).shape in
    record {
      low = omega (arith, list.inside k inside, list.most, l);
      at = place_found (place_at fs (f.lsb + i)) k (sym (covers_is bits fs k (f.lsb + i) list inside) ∙ covered (field_in fs k) i l);
    }

-- ---- as it is believed: the value that is described

value_bits : (f : FieldSeen) (v b i : ℕ) (kept : Bool) → value_for 0 f.resets ≡ Some v → b - f.shape.lsb ≡ i → reset_bit f 0 b kept ≡ bit v i
value_bits f v b i kept says at = ap (λ o. option_map_or (λ v. bit v (b - f.shape.lsb)) o kept) says ∙ ap (bit v) at

pub described_bit : (bits : ℕ) (fs : List FieldSeen) (k v kept i : ℕ) → IsFieldList bits fs → k < length fs → value_for 0 (field_in fs k).resets ≡ Some v
    → i < (field_in fs k).shape.width → bit (after_reset fs 0 kept) ((field_in fs k).shape.lsb + i) ≡ bit v i
unfolding after_reset
described_bit bits fs k v kept i list inside says l =
    let b = (field_in fs k).shape.lsb + i in
    let here = bit_of bits fs k i list inside l in
    bit-word_by_field fs (λ k b. reset_bit (field_in fs k) 0 b (bit kept b)) b here.low
    ∙ ap (λ o. option_map_or (λ k. reset_bit (field_in fs k) 0 b (bit kept b)) o false) here.at
    ∙ value_bits (field_in fs k) v b i (bit kept b) says (omega arith)

pub described_part : (bits : ℕ) (fs : List FieldSeen) (k v kept : ℕ) → IsFieldList bits fs → k < length fs → value_for 0 (field_in fs k).resets ≡ Some v
    → v < 2 ^ (field_in fs k).shape.width → part_of (field_in fs k).shape (after_reset fs 0 kept) ≡ v
described_part bits fs k v kept list inside says fits =
    let f = (field_in fs k).shape in
    sym (is_from_bits f.width v (λ i. bit (after_reset fs 0 kept) (f.lsb + i)) fits (λ i l. sym (described_bit bits fs k v kept i list inside says l)))

-- ---- in the device: the value that its flaw says

pub row_is : (c : ChipData) (l : LayoutData) (f : Flaws) (field : ℕ) → field < length c.fields
    → row_of_field (setup_of c l f) field ≡ field_row (field_of c field)
unfolding setup_of
row_is c l f field inside = get_or-map field_row c.fields field no_field no_row inside

same_field : (c : ChipData) (l : LayoutData) (f : Flaws) (reg b : ℕ)
    → field_at (setup_of c l f) reg b ≡ field_at (setup_of c l no_flaws) reg b
unfolding setup_of
same_field c l f reg b = refl

-- the bit of a register's k-th field belongs to that field, counted through all registers
pub field_found : (c : ChipData) (l : LayoutData) (f : Flaws) (reg b k : ℕ) → IsSound c → reg < length c.regs → place_at (fields_of c reg) b ≡ Some k
    → field_at (setup_of c l f) reg b ≡ Some (first_of c reg + k)
field_found c l f reg b k sound inside at = same_field c l f reg b ∙ plain_found c l reg b k sound inside at

none_stuck : (c : ChipData) (l : LayoutData) (resets : List ResetRow) (reg b : ℕ) (x : Bool) → or_else (stuck_at (setup_of c l (wrong_resets resets)) reg b) x ≡ x
unfolding setup_of
none_stuck c l resets reg b x = refl

taken_bits : (t : Setup) (field v b i : ℕ) (x : Bool) → reset_of t field 0 ≡ Some v → b - (row_of_field t field).lsb ≡ i
    → device_bit t 0 (Some field) b x ≡ bit v i
taken_bits t field v b i x takes at = ap (λ o. value_bit o (b - (row_of_field t field).lsb) x) takes ∙ ap (bit v) at

-- one bit of the register
taken_bit : (c : ChipData) (l : LayoutData) (resets : List ResetRow) (field v x i : ℕ) → IsSound c → field < length c.fields
    → reset_of (setup_of c l (wrong_resets resets)) field 0 ≡ Some v → i < (field_of c field).shape.width
    → let t = setup_of c l (wrong_resets resets) in
    let reg = reg_of c field in
    bit (held t reg (λ b. device_bit t 0 (field_at t reg b) b (bit x b))) ((field_of c field).shape.lsb + i) ≡ bit v i
unfolding held
taken_bit c l resets field v x i sound inside takes low =
    let t = setup_of c l (wrong_resets resets) in
    let reg = reg_of c field in
    let fs = fields_of c reg in
    let at = place_of c field sound inside in
    let k = field - first_of c reg in
    let there = (seated c field sound inside).reg in
    let b = (field_of c field).shape.lsb + i in
    let bits : IsBitOf fs k b =
    subst (λ (f : FieldSeen). i < f.shape.width → IsBitOf fs k (f.shape.lsb + i)) at.field
    (λ l. bit_of (8 * size_of c reg) fs k i (field_list c reg sound there) at.place l) low in
    let owner : field_at t reg b ≡ Some field = field_found c l (wrong_resets resets) reg b k sound there bits.at ∙ ap Some at.number in
    let lsb : b - (row_of_field t field).lsb ≡ i = ap (λ (f : FieldRow). b - f.lsb) (row_is c l (wrong_resets resets) field inside)
    ∙ (let e : b - (field_of c field).shape.lsb ≡ i = omega arith in e) in
    bit-from_bits 64 (λ b. or_else (stuck_at t reg b) (device_bit t 0 (field_at t reg b) b (bit x b))) b bits.low
    ∙ none_stuck c l resets reg b (device_bit t 0 (field_at t reg b) b (bit x b))
    ∙ ap (λ o. device_bit t 0 o b (bit x b)) owner
    ∙ taken_bits t field v b i (bit x b) takes lsb

pub taken_part : (c : ChipData) (l : LayoutData) (d : State) (resets : List ResetRow) (field v : ℕ) → IsSound c → field < length c.fields
    → d.setup ≡ setup_of c l (wrong_resets resets) → reset_of d.setup field 0 ≡ Some v → v < 2 ^ (field_of c field).shape.width
    → part_of (field_of c field).shape (reg_reset d 0 (reg_of c field)) ≡ v
taken_part c l d resets field v sound inside setup takes fits =
    let f = (field_of c field).shape in
    let reg = reg_of c field in
    let x = slice_index d.bits reg in
    let says : reset_of (setup_of c l (wrong_resets resets)) field 0 ≡ Some v = subst (λ (t : Setup). reset_of t field 0 ≡ Some v) setup takes in
    sym (is_from_bits f.width v (λ i. bit (reg_reset d 0 reg) (f.lsb + i)) fits
    (λ i low.
    sym (ap (λ (t : Setup). bit (held t reg (λ b. device_bit t 0 (field_at t reg b) b (bit x b))) (f.lsb + i)) setup
    ∙ taken_bit c l resets field v x i sound inside says low)))
