-- An access to the bytes of one field.
use Rattle.std.proofs.Common.{◌≡◌, ℕ, ◌+◌, ◌-◌, ◌*◌, ◌^◌, ◌<◌, ◌≤◌, nat_le, nat_lt, length, slice_get, Option, None, Some, option_map, false, cond, sym, ap, ◌∙◌, subst, arith}
use Rattle.std.specs.Option.{option_map_or}
use borrow.Author.Tests.{le-ltb}
use Rattle.rl_policy.specs.Bits.{bit, from_bits, put_bit}
use Rattle.rl_policy.proofs.BitLemmas.{from_bits-lt, bit-from_bits, bit-zero}
use Rattle.rl_model.specs.declared.rows.Field.{Field}
use Rattle.rl_model.specs.declared.rows.Item.TheVariants as item
use Rattle.rl_model.specs.Rows.{ChipData}
use Rattle.rl_map.specs.Layout.{place_at}
use Rattle.rl_split.specs.Access.{IsChoice}
use Rattle.rl_split.specs.Narrow.{bytes_of_field}
use Rattle.rl_model.specs.Fields.{field_of, first_of, size_of}
use Rattle.rl_access.specs.Access.{IsAccessOn, IsPlaceFor, IsFieldIn}
use Rattle.rl_access.specs.Model.{ModelData, IsModel}
use Rattle.rl_access.specs.Operation.{reg_of}
use Rattle.rl_access.proofs.Bytes.{bytes_bits}
use Rattle.rl_access.proofs.Narrow.{below_by_bits, and_false, field_chosen}
use Rattle.rl_access.proofs.Places.{place_size, first_location}
use Rattle.rl_access.proofs.Seated.{seated}

pub map_or_of : {A : Type 0} (f : A → ℕ) (o : Option A) (x d : ℕ) → option_map f o ≡ Some x → option_map_or f o d ≡ x
map_or_of f None x d e = cc
map_or_of f (Some a) x d e = cc

pub first_is : (c : ChipData) (reg first : ℕ) → option_map (λ r. r.first) (slice_get c.regs reg) ≡ Some first → first_of c reg ≡ first
first_is c reg first e = map_or_of (λ r. r.first) (slice_get c.regs reg) first 0 e

-- the field's number, counted from the register's first one
pub record IsCountedFrom (first field : ℕ) : Type 0 where
  pub from : first ≤ field
  pub few : field < first + 64

pub counted_from : (n m : ModelData) (field : ℕ) (f : Field) (first : ℕ) → n ≡ m → IsModel n → field < length m.chip.fields → f ≡ (field_of m.chip field).shape →
    option_map (λ r. r.first) (slice_get n.chip.regs f.reg) ≡ Some first → IsCountedFrom first field
counted_from n m field f first same ok inside shape value =
    let here : IsModel m = subst IsModel same ok in
    let is = first_is m.chip f.reg first (subst (λ (x : ModelData). option_map (λ r. r.first) (slice_get x.chip.regs f.reg) ≡ Some first) same value) in
    let mine : first_of m.chip (reg_of m.chip field) ≡ first = ap (λ (g : Field). first_of m.chip g.reg) (sym shape) ∙ is in
    let s = seated m.chip field here.chip inside in
    record { from = omega (arith, s.from, mine); few = omega (arith, s.few, mine) }

-- a field's value with 0 beside it has its register's bytes
pub put_small : (lsb width bytes v w : ℕ) → lsb + width ≤ 8 * bytes → bytes ≤ 8 → w ≡ from_bits 64 (put_bit lsb width (bit v) (bit 0)) → w < 256 ^ bytes
put_small lsb width bytes v w inside most e =
    let f = put_bit lsb width (bit v) (bit 0) in
    let none : (i : ℕ) → 8 * bytes ≤ i → i < 64 → bit (from_bits 64 f) i ≡ false = λ i above low.
    bit-from_bits 64 f i low
    ∙ ap (λ b. cond b (bit v (i - lsb)) (bit 0 i)) (and_false (nat_le lsb i) (nat_lt i (lsb + width)) (le-ltb i (lsb + width) (omega arith)))
    ∙ bit-zero i in
    let low : from_bits 64 f < 2 ^ (8 * bytes) = below_by_bits 64 (8 * bytes) (from_bits 64 f) (from_bits-lt 64 f) (omega arith) none in
    subst (λ n. n < 256 ^ bytes) (sym e) (subst (λ n. from_bits 64 f < n) (bytes_bits bytes) low)

pub alone_valid : (m : ModelData) (field place : ℕ) (f : Field) (chosen fields v w : ℕ) → IsModel m → f ≡ (field_of m.chip field).shape → f.reg < length m.chip.regs →
    IsFieldIn (size_of m.chip f.reg) f
    → IsPlaceFor m (item.Reg (reg_of m.chip field)) place → chosen ≡ bytes_of_field f → w ≡ from_bits 64 (put_bit f.lsb f.width (bit v) (bit 0))
    → IsAccessOn m (record { reg = f.reg; place = place; chosen = chosen; fields = fields; value = w })
alone_valid m field place f chosen fields v w ok e inside within there is_chosen is_value =
    let same : (place_at m.layout place).bytes ≡ size_of m.chip f.reg = place_size m (item.Reg (reg_of m.chip field)) place ok there ∙ ap (λ (g : Field). size_of m.chip g.reg) (sym e) in
    record {
      reg = inside;
      location = first_location m place ok there.inside;
      chosen = subst (λ n. IsChoice n chosen) (sym same) (subst (λ n. IsChoice (size_of m.chip f.reg) n) (sym is_chosen) (field_chosen (size_of m.chip f.reg) f within));
      value = subst (λ n. w < 256 ^ n) (sym same) (put_small f.lsb f.width (size_of m.chip f.reg) v w within.inside within.most is_value);
    }
