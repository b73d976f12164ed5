-- Which bits of a register an access touches: all, or those of one field.
use Rattle.std.proofs.Common.{◌≡◌, ◌⊎◌, ℕ, zero, suc, ◌+◌, ◌-◌, ◌*◌, ◌/◌, ◌^◌, ◌<◌, ◌≤◌, Bool, true, false, not, ◌&&◌, ◌||◌, ◌==◌, length, All, inl, inr, refl, sym, ap, subst, ◌∙◌, arith}
use Rattle.std.specs.Prelude.{nat_le, nat_lt}
use Rattle.std.specs.Int.{bit_at}
use Rattle.std.specs.List.{list_any, range_with_len}
use Rattle.std.proofs.lemmas.Bool.{cases_eq, cases_lt, eq-eqb, eqb-true, ne_eqb}
use Rattle.std.proofs.lemmas.Bool.Decides.{nat_tests}
use Rattle.std.proofs.lemmas.Nat.Bits.{bit_at-pow_same, bit_at-pow_other}
use Rattle.std.proofs.lemmas.List.{get_or_past}
use Rattle.rl_policy.proofs.BitLemmas.{bit-from_bits, bit-max}
use Rattle.rl_policy.specs.Bits.{bit, is_within}
use Rattle.rl_bus.specs.declared.table.Cell.TheVariants as cell
use Rattle.rl_model.specs.declared.rows.Field.{Field}
use Rattle.rl_model.specs.declared.rows.Item.TheVariants as item
use Rattle.rl_model.specs.Chip.{bytes_of}
use Rattle.rl_model.specs.Fields.{count_of, field_of, first_of, no_field, size_of}
use Rattle.rl_model.specs.Rows.{ChipData, FieldSeen}
use Rattle.rl_mirror.proofs.FieldLemmas.{field_in-fields_of, field_list, seated}
use Rattle.rl_map.specs.Layout.{LayoutData, cell_of, place_at as row_at, port_at, row_of, words_of}
use Rattle.rl_map.specs.Tables.{setup_of}
use Rattle.rl_split.specs.Access.{all_bytes, carries_lanes, kind_of, lanes_for, op_of, sent_words}
use Rattle.rl_split.specs.Law.{IsPlaceOf, no_flaws}
use Rattle.rl_split.specs.Narrow.{bytes_of_field, field_at, first_byte, has_neighbour, is_narrow, last_byte, share_byte, touches}
use Rattle.rl_split.proofs.Accesses.{here_of, whole_sends}
use Rattle.rl_split.proofs.Chosen.{sent_split, sent_touches}
use Rattle.rl_split.proofs.Policies.{IsPlaced, placed}
use Rattle.rl_split.proofs.ReadRuns.{AreSplit}
use Rattle.rl_split.proofs.Sending.{narrow_reached, turns}
use Rattle.rl_split.proofs.Turns.{IsTurn}
use Rattle.rl_split.proofs.WriteRuns.{are_touched}
use Rattle.rl_access.specs.Operation.{reg_of}
use Rattle.rl_access.specs.Rules.{every_field}
use Rattle.rl_access.proofs.Granted.{IsWay}
use Rattle.rl_access.proofs.Places.{size_is}
use Rattle.rl_grade.proofs.TogetherAccess.{AreSound}
use Rattle.rl_grade.proofs.UncheckedBeliefs.{IsComparedBit, inside_it}

-- the words that an access sends meet their operations, and touch the bits of these fields alone
pub record Reaches (c : ChipData) (l : LayoutData) (place reg chosen value : ℕ) (write : Bool) (fields : ℕ) : Type 0 where
  pub turns : All (IsTurn (setup_of c l no_flaws) (row_at l place).port write (cell.Reg reg) (row_of l place 0) (op_of l place chosen value write) (lanes_for chosen)
      (sent_words chosen (words_of l place 0))) (sent_words chosen (words_of l place 0))
  pub split : AreSplit (lanes_for chosen) (sent_words chosen (words_of l place 0))
  pub reach : (b k : ℕ) → IsComparedBit c reg b k → are_touched (lanes_for chosen) (sent_words chosen (words_of l place 0)) b ≡ bit fields k

pub place_of_way : (c : ChipData) (l : LayoutData) (reg place : ℕ) (write : Bool) → AreSound c l → IsWay l (item.Reg reg) write place → IsPlaceOf c l place reg write
place_of_way c l reg place write sound at = record {
  chip = sound.chip;
  layout = sound.layout;
  built_with = sound.built;
  place_in = at.there.inside;
  item = at.there.item_is;
  right = at.right;
}

-- ---- of all bytes

pub whole_reaches : (c : ChipData) (l : LayoutData) (reg place value : ℕ) (write : Bool) → AreSound c l → reg < length c.regs → IsWay l (item.Reg reg) write place
    → Reaches c l place reg (all_bytes (size_of c reg)) value write every_field
whole_reaches c l reg place value write sound there at =
    let sends = whole_sends c l place reg value write (place_of_way c l reg place write sound at) in
    let size = size_is c (item.Reg reg) (row_at l place).bytes (ap (bytes_of c) (sym at.there.item_is) ∙ (sound.built place at.there.inside).0) in
    subst (λ n. Reaches c l place reg (all_bytes n) value write every_field) (sym size) (record {
      turns = sends.turns;
      split = sends.split;
      reach = λ b k one.
          sends.reach b k one.low one.at ∙ sym (bit-max k (omega (arith, inside_it c reg b k one, (field_list c reg sound.chip there).few)));
    })

-- ---- of the bytes of one field

bit-pow : (k j : ℕ) → (k == j) ≡ bit (2 ^ j) k
unfolding bit
bit-pow k j =
    elim (cases_eq k j) [
      | inl same ↦ eq-eqb k j same ∙ sym (ap (λ n. n == 1) (ap (λ i. bit_at (2 ^ j) i) same ∙ bit_at-pow_same j))
      | inr other ↦ ne_eqb k j other ∙ sym (ap (λ n. n == 1) (bit_at-pow_other j k other))
    ]

both_of : (a b : Bool) → (a && b) ≡ true → (a ≡ true) × (b ≡ true)
both_of true b is = (refl, is)
both_of false b is = absurd cc

never_true : (a : Bool) → not a ≡ true → a ≡ false
never_true true is = cc
never_true false is = refl

pub record IsNarrowAt (c : ChipData) (l : LayoutData) (field place : ℕ) (write : Bool) : Type 0 where
  pub alone : (field_at c field).alone ≡ true
  pub lone : has_neighbour c field ≡ false
  pub no_fifo : (row_at l place).fifo ≡ false
  pub carried : carries_lanes (kind_of l place) write ≡ true

pub narrow_at : (c : ChipData) (l : LayoutData) (field place : ℕ) (write : Bool) → is_narrow c l field place write ≡ true → IsNarrowAt c l field place write
unfolding is_narrow
narrow_at c l field place write is =
    let last = both_of _ (carries_lanes (kind_of l place) write) is in
    let fifo = both_of _ (not (row_at l place).fifo) last.0 in
    let explicit = both_of _ (not (port_at l (row_at l place).port).explicit) fifo.0 in
    let lone = both_of (field_at c field).alone (not (has_neighbour c field)) explicit.0 in
    record { alone = lone.0; lone = never_true (has_neighbour c field) lone.1; no_fifo = never_true (row_at l place).fifo fifo.1; carried = last.1 }

-- a field that may be accessed alone is there
pub field_there : (c : ChipData) (field : ℕ) → (field_at c field).alone ≡ true → field < length c.fields
field_there c field alone = by (cases_lt field (length c.fields))
  where
    by : (field < length c.fields) ⊎ (length c.fields ≤ field) → field < length c.fields
    by (inl low) = low
    by (inr past) =
        let none : (field_at c field).alone ≡ false = ap (λ (f : FieldSeen). f.shape.alone) (get_or_past c.fields field no_field past) in
        absurd cc

bit-bytes_of_field : (f : Field) (j : ℕ) → j < 8 → bit (bytes_of_field f) j ≡ touches f j
unfolding bytes_of_field
bit-bytes_of_field f j low = bit-from_bits 8 (touches f) j low

own_byte : (lsb width b : ℕ) → is_within lsb width b ≡ true → (nat_le (lsb / 8) (b / 8) && nat_le (b / 8) ((lsb + width - 1) / 8)) ≡ true
own_byte lsb width b e = grind (arith, nat_tests)

shared_byte : (p q u v j : ℕ) → (nat_le p j && nat_le j q) ≡ true → (nat_le u j && nat_le j v) ≡ true → (nat_le p v && nat_le u q) ≡ true
shared_byte p q u v j e f = grind (arith, nat_tests)

bit_inside : (lsb width bytes b : ℕ) → is_within lsb width b ≡ true → lsb + width ≤ 8 * bytes → nat_lt (b / 8) bytes ≡ true
bit_inside lsb width bytes b e fits = grind (arith, nat_tests)

-- a test of numbers that none passes
none_passes : (p : ℕ → Bool) (a n k : ℕ) → list_any p (range_with_len a n) ≡ false → k < n → p (a + k) ≡ false
none_passes p a zero k e l = absurd (omega (arith, l))
none_passes p a (suc n) zero e l = let same : a + 0 ≡ a = omega arith in ap p same ∙ or_first (p a) (list_any p (range_with_len (a + 1) n)) e
  where
    or_first : (x y : Bool) → (x || y) ≡ false → x ≡ false
    or_first true y e = e
    or_first false y e = refl
none_passes p a (suc n) (suc k) e l =
    let same : a + suc k ≡ a + 1 + k = omega arith in
    ap p same ∙ none_passes p (a + 1) n k (or_second (p a) (list_any p (range_with_len (a + 1) n)) e) (omega (arith, l))
  where
    or_second : (x y : Bool) → (x || y) ≡ false → y ≡ false
    or_second true y e = absurd cc
    or_second false y e = e

other_field : (same shared : Bool) → (not same && shared) ≡ false → shared ≡ true → same ≡ true
other_field true shared e f = refl
other_field false shared e f = let both : true ≡ false = sym f ∙ e in absurd cc

same_tests : (t u : Bool) → (t ≡ true → u ≡ true) → (u ≡ true → t ≡ true) → t ≡ u
same_tests true u f g = sym (f refl)
same_tests false true f g = g refl
same_tests false false f g = refl

-- the bytes of a field without a neighbour have the bits of no other field
lone_bytes : (c : ChipData) (field reg b k : ℕ) → (field_at c field).reg ≡ reg → first_of c reg ≤ field → has_neighbour c field ≡ false → IsPlaced c reg b k
    → touches (field_at c field) (b / 8) ≡ (k == (field - first_of c reg))
lone_bytes c field reg b k is low lone p =
    let f = field_at c field in
    let m = first_of c reg in
    let g = field_at c (m + k) in
    let own : touches g (b / 8) ≡ true = own_byte g.lsb g.width b p.within in
    same_tests (touches f (b / 8)) (k == (field - m))
    (λ e.
    let shares : share_byte g f ≡ true = shared_byte (first_byte g) (last_byte g) (first_byte f) (last_byte f) (b / 8) own e in
    let none = none_passes (λ n. not (n == field) && share_byte (field_at c n) f) m (count_of c reg) k
    (subst (λ r. list_any (λ n. not (n == field) && share_byte (field_at c n) f) (range_with_len (first_of c r) (count_of c r)) ≡ false) is lone) p.place_in in
    let same : m + k ≡ field = eqb-true (m + k) field (other_field ((m + k) == field) (share_byte g f) none shares) in
    eq-eqb k (field - m) (omega (arith, same)))
    (λ e.
    let same : m + k ≡ field = omega (arith, low, eqb-true k (field - m) e) in
    ap (λ n. touches (field_at c n) (b / 8)) (sym same) ∙ own)

pub narrow_reaches : (c : ChipData) (l : LayoutData) (field place value : ℕ) (write : Bool) → AreSound c l → IsWay l (item.Reg (reg_of c field)) write place
    → is_narrow c l field place write ≡ true
    → Reaches c l place (reg_of c field) (bytes_of_field (field_of c field).shape) value write (2 ^ (field - first_of c (reg_of c field)))
narrow_reaches c l field place value write sound way is =
    let at = place_of_way c l (reg_of c field) place write sound way in
    let f = (field_of c field).shape in
    let reg = f.reg in
    let narrow = narrow_at c l field place write is in
    let there = field_there c field narrow.alone in
    let seat = seated c field sound.chip there in
    let here = here_of c l place reg write at in
    let sends = whole_sends c l place reg value write at in
    let bytes = bytes_of_field f in
    let words = words_of l place 0 in
    record {
      turns = turns c l place 0 bytes value write (cell.Reg reg) here at.right (λ w. ap (λ i. cell_of i 0) at.item) (narrow_reached l place 0 bytes write here narrow.no_fifo narrow.carried);
      split = sent_split bytes words here.words.parts;
      reach = λ b k one.
          let p = placed c reg b k sound.chip sends.row one.at in
          let inside = subst (λ t. nat_lt (b / 8) t ≡ true) (size_here at) (bit_inside _ _ (size_of c reg) b p.within (fits b k one)) in
          let low : b / 8 < 8 = omega (arith, one.low) in
          sent_touches bytes words b ∙ ap (λ t. t && bit bytes (b / 8)) (here.words.reach b ∙ inside) ∙ bit-bytes_of_field f (b / 8) low
          ∙ lone_bytes c field reg b k refl seat.first narrow.lone p ∙ bit-pow k (field - first_of c reg);
    }
  where
    size_here : IsPlaceOf c l place (reg_of c field) write → size_of c (reg_of c field) ≡ (row_at l place).bytes
    size_here at = size_is c (item.Reg (reg_of c field)) (row_at l place).bytes (ap (bytes_of c) (sym at.item) ∙ (sound.built place at.place_in).0)

    fits : (b k : ℕ) → IsComparedBit c (reg_of c field) b k
        → (field_of c (first_of c (reg_of c field) + k)).shape.lsb + (field_of c (first_of c (reg_of c field) + k)).shape.width ≤ 8 * size_of c (reg_of c field)
    fits b k one =
        let narrow = narrow_at c l field place write is in
        let seat = seated c field sound.chip (field_there c field narrow.alone) in
        let inside = inside_it c (reg_of c field) b k one in
        subst (λ (x : FieldSeen). x.shape.lsb + x.shape.width ≤ 8 * size_of c (reg_of c field)) (field_in-fields_of c (reg_of c field) k sound.chip seat.reg inside)
        ((field_list c (reg_of c field) sound.chip seat.reg).inside k inside)
