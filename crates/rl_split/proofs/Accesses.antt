-- What the bytes of a whole or of a narrow access reach.
use Rattle.std.proofs.Common.{◌≡◌, ℕ, zero, suc, ◌+◌, ◌-◌, ◌*◌, ◌/◌, ◌<◌, ◌≤◌, Bool, true, false, not, ◌&&◌, ◌||◌, eqb, ltb, leb, List, [], ◌∷◌, length, get_or, Option, Some, None, option_map, refl}
use Rattle.std.proofs.Common.{sym, ap, ◌∙◌, subst, arith, eq-eqb, eqb-true}
use Rattle.std.specs.List.{list_any, range_with_len}
use Rattle.std.proofs.lemmas.Bool.Decides.{nat_tests}
use Rattle.std.proofs.lemmas.Option.{slice_get_within}
use Rattle.rl_policy.specs.Bits.{bit, is_within}
use Rattle.rl_policy.proofs.BitLemmas.{bit-from_bits, bit-mask}
use Rattle.rl_model.specs.declared.rows.Field.{Field}
use Rattle.rl_model.specs.declared.rows.Item.TheVariants as item
use Rattle.rl_model.specs.declared.rows.RegRow.{RegRow}
use Rattle.rl_model.specs.Rows.{ChipData}
use Rattle.rl_model.specs.Chip.{bytes_of}
use Rattle.std.specs.Prelude.{slice_get}
use Rattle.rl_bus.specs.declared.table.Cell.TheVariants as cell
use Rattle.rl_map.specs.declared.word.Word.{Word}
use Rattle.rl_map.specs.Layout.{LayoutData, place_at as row_at, port_at, words_of, row_of, cell_of}
use Rattle.rl_split.specs.Access.{all_bytes, lanes_for, sent_words, kind_of, carries_lanes}
use Rattle.rl_split.specs.Law.{IsPlaceOf, WholeWriteIsStep, WholeReadIsStep, NarrowWriteIsStep, NarrowReadIsStep}
use Rattle.rl_split.specs.Narrow.{field_at, first_byte, last_byte, touches, bytes_of_field, share_byte, has_neighbour, is_narrow}
use Rattle.rl_model.specs.Fields.{no_field, first_of, count_of}
use Rattle.rl_split.specs.Step.{every, only}
use Rattle.rl_split.proofs.Chosen.{sent_touches, sent_split}
use Rattle.rl_split.proofs.Policies.{has_row, field_fits, in_row, IsPlaced, placed}
use Rattle.rl_split.proofs.Sending.{IsHere, is_here, all_reached, narrow_reached, turns}
use Rattle.rl_split.proofs.Steps.{Sends, write_is_step, read_is_step}
use Rattle.rl_split.proofs.WriteRuns.{are_touched}

-- ---- the register's row

record RowFound (c : ChipData) (reg bytes : ℕ) : Type 0 where
  row : RegRow
  row_is : slice_get c.regs reg ≡ Some row
  bytes_is : row.bytes ≡ bytes

row_of_bytes : (c : ChipData) (reg bytes : ℕ) (o : Option RegRow) → slice_get c.regs reg ≡ o → option_map (λ (r : RegRow). r.bytes) o ≡ Some bytes → RowFound c reg bytes
row_of_bytes c reg bytes None is e = absurd cc
row_of_bytes c reg bytes (Some r) is e = record { row = r; row_is = is; bytes_is = cc }

row_found : (c : ChipData) (l : LayoutData) (place reg : ℕ) (write : Bool) → IsPlaceOf c l place reg write → RowFound c reg (row_at l place).bytes
row_found c l place reg write at =
    let e : bytes_of c (item.Reg reg) ≡ Some (row_at l place).bytes = ap (bytes_of c) (sym at.item) ∙ (at.built_with place at.place_in).0 in
    row_of_bytes c reg (row_at l place).bytes (slice_get c.regs reg) refl e

pub here_of : (c : ChipData) (l : LayoutData) (place reg : ℕ) (write : Bool) → IsPlaceOf c l place reg write → IsHere l place 0
here_of c l place reg write at = is_here l place 0 at.layout (record { place_in = at.place_in; index_in = omega (arith, (at.layout.each_place place at.place_in).size) })

cells_of : (l : LayoutData) (place reg : ℕ) → (row_at l place).item ≡ item.Reg reg → (w : Word) → (row_of l place 0 w).cell ≡ cell.Reg reg
cells_of l place reg is w = ap (λ i. cell_of i 0) is

-- a bit that is touched stands in a word
some_sent : (bytes b : ℕ) (ws : List Word) → are_touched (lanes_for bytes) ws b ≡ true → 0 < length ws
some_sent bytes b [] e = absurd cc
some_sent bytes b (w ∷ ws) e = omega arith

-- the bits of a field lie in the register
bit_inside : (lsb width bytes b : ℕ) → is_within lsb width b ≡ true → lsb + width ≤ 8 * bytes → ltb (b / 8) bytes ≡ true
bit_inside lsb width bytes b e fits = grind (arith, nat_tests)

field_inside : (c : ChipData) (l : LayoutData) (place reg b k : ℕ) (write : Bool) → IsPlaceOf c l place reg write → IsPlaced c reg b k → ltb (b / 8) (row_at l place).bytes ≡ true
field_inside c l place reg b k write at p =
    let found = row_found c l place reg write at in
    let h = has_row c reg found.row found.row_is in
    let f = (get_or c.fields (first_of c reg + k) no_field).shape in
    let fits = in_row c reg (first_of c reg + k) no_field at.chip h p.number_in p.reg_is in
    bit_inside f.lsb f.width (row_at l place).bytes b p.within (omega (arith, fits.2, found.bytes_is))

-- ---- a whole access

pub whole_sends : (c : ChipData) (l : LayoutData) (place reg value : ℕ) (write : Bool) → IsPlaceOf c l place reg write → Sends c l place reg (all_bytes (row_at l place).bytes) value write every
whole_sends c l place reg value write at =
    let found = row_found c l place reg write at in
    let h = has_row c reg found.row found.row_is in
    let here = here_of c l place reg write at in
    let bytes = (row_at l place).bytes in
    let words = words_of l place 0 in
    let touch : (b : ℕ) → ltb (b / 8) bytes ≡ true → are_touched (lanes_for (all_bytes bytes)) (sent_words (all_bytes bytes) words) b ≡ true =
    λ b e. sent_touches (all_bytes bytes) words b ∙ ap (λ t. t && bit (all_bytes bytes) (b / 8)) (here.words.reach b ∙ e) ∙ bit-mask bytes (b / 8) ∙ e in
    record {
      sound = at.chip;
      row = h;
      inside = slice_get_within c.regs reg found.row found.row_is;
      turns = turns c l place 0 (all_bytes bytes) value write (cell.Reg reg) here at.right (cells_of l place reg at.item) (all_reached l place 0 write here);
      split = sent_split (all_bytes bytes) words here.words.parts;
      reach = λ b k low e. touch b (field_inside c l place reg b k write at (placed c reg b k at.chip h e));
      some = some_sent (all_bytes bytes) 0 (sent_words (all_bytes bytes) words) (touch 0 (first_inside bytes here.row.some));
    }
  where
    first_inside : (bytes : ℕ) → 1 ≤ bytes → ltb (0 / 8) bytes ≡ true
    first_inside bytes some = grind (arith, nat_tests)

pub whole_write_is_step : WholeWriteIsStep
whole_write_is_step c l s place reg value r at ready holds = write_is_step c l s place reg (all_bytes (row_at l place).bytes) value every r (whole_sends c l place reg value true at) ready holds

pub whole_read_is_step : WholeReadIsStep
whole_read_is_step c l s place reg r at ready holds = read_is_step c l s place reg (all_bytes (row_at l place).bytes) every r (whole_sends c l place reg 0 false at) ready holds

-- ---- a narrow access

record IsNarrowAt (c : ChipData) (l : LayoutData) (field place : ℕ) (write : Bool) : Type 0 where
  lone : has_neighbour c field ≡ false
  no_fifo : (row_at l place).fifo ≡ false
  carried : carries_lanes (kind_of l place) write ≡ true

and_both : (a b : Bool) → (a && b) ≡ true → (a ≡ true) × (b ≡ true)
and_both true b e = (refl, e)
and_both false b e = absurd cc

not_true : (a : Bool) → not a ≡ true → a ≡ false
not_true true e = cc
not_true false e = refl

narrow_at : (c : ChipData) (l : LayoutData) (field place : ℕ) (write : Bool) → is_narrow c l field place write ≡ true → IsNarrowAt c l field place write
unfolding is_narrow
narrow_at c l field place write e =
    let last = and_both _ (carries_lanes (kind_of l place) write) e in
    let fifo = and_both _ (not (row_at l place).fifo) last.0 in
    let explicit = and_both _ (not (port_at l (row_at l place).port).explicit) fifo.0 in
    let lone = and_both (field_at c field).alone (not (has_neighbour c field)) explicit.0 in
    record { lone = not_true (has_neighbour c field) lone.1; no_fifo = not_true (row_at l place).fifo fifo.1; carried = last.1 }

bit-bytes_of_field : (f : Field) (j : ℕ) → j < 8 → bit (bytes_of_field f) j ≡ touches f j
unfolding bytes_of_field
bit-bytes_of_field f j low = bit-from_bits 8 (touches f) j low

own_byte : (lsb width b : ℕ) → is_within lsb width b ≡ true → (leb (lsb / 8) (b / 8) && leb (b / 8) ((lsb + width - 1) / 8)) ≡ true
own_byte lsb width b e = grind (arith, nat_tests)

shared_byte : (p q u v j : ℕ) → (leb p j && leb j q) ≡ true → (leb u j && leb j v) ≡ true → (leb p v && leb u q) ≡ true
shared_byte p q u v j e f = grind (arith, nat_tests)

-- a test of numbers that none passes
none_passes : (p : ℕ → Bool) (a n k : ℕ) → list_any p (range_with_len a n) ≡ false → k < n → p (a + k) ≡ false
none_passes p a zero k e l = absurd (omega (arith, l))
none_passes p a (suc n) zero e l = let same : a + 0 ≡ a = omega arith in ap p same ∙ or_first (p a) (list_any p (range_with_len (a + 1) n)) e
  where
    or_first : (x y : Bool) → (x || y) ≡ false → x ≡ false
    or_first true y e = e
    or_first false y e = refl
none_passes p a (suc n) (suc k) e l =
    let same : a + suc k ≡ a + 1 + k = omega arith in
    ap p same ∙ none_passes p (a + 1) n k (or_second (p a) (list_any p (range_with_len (a + 1) n)) e) (omega (arith, l))
  where
    or_second : (x y : Bool) → (x || y) ≡ false → y ≡ false
    or_second true y e = absurd cc
    or_second false y e = e

other_field : (same shared : Bool) → (not same && shared) ≡ false → shared ≡ true → same ≡ true
other_field true shared e f = refl
other_field false shared e f = absurd (clash shared e f)
  where
    clash : (t : Bool) → t ≡ false → t ≡ true → ⊥
    clash t p q = cc

same_tests : (t u : Bool) → (t ≡ true → u ≡ true) → (u ≡ true → t ≡ true) → t ≡ u
same_tests true u f g = sym (f refl)
same_tests false true f g = g refl
same_tests false false f g = refl

-- the bytes of a narrow field have the bits of no other field
narrow_bytes : (c : ChipData) (field reg b k : ℕ) → (field_at c field).reg ≡ reg → first_of c reg ≤ field → has_neighbour c field ≡ false → IsPlaced c reg b k →
    touches (field_at c field) (b / 8) ≡ eqb k (field - first_of c reg)
narrow_bytes c field reg b k is low lone p =
    let f = field_at c field in
    let m = first_of c reg in
    let g = field_at c (m + k) in
    let own : touches g (b / 8) ≡ true = own_byte g.lsb g.width b p.within in
    same_tests (touches f (b / 8)) (eqb k (field - m))
    (λ e.
    let shares : share_byte g f ≡ true = shared_byte (first_byte g) (last_byte g) (first_byte f) (last_byte f) (b / 8) own e in
    let none = none_passes (λ n. not (eqb n field) && share_byte (field_at c n) f) m (count_of c reg) k
    (subst (λ r. list_any (λ n. not (eqb n field) && share_byte (field_at c n) f) (range_with_len (first_of c r) (count_of c r)) ≡ false) is lone) p.place_in in
    let same : m + k ≡ field = eqb-true (m + k) field (other_field (eqb (m + k) field) (share_byte g f) none shares) in
    eq-eqb k (field - m) (omega (arith, same)))
    (λ e.
    let same : m + k ≡ field = omega (arith, low, eqb-true k (field - m) e) in
    ap (λ n. touches (field_at c n) (b / 8)) (sym same) ∙ own)

narrow_sends : (c : ChipData) (l : LayoutData) (place field value : ℕ) (write : Bool) → field < length c.fields → is_narrow c l field place write ≡ true → IsPlaceOf c l place (field_at c field).reg
    write →
    Sends c l place (field_at c field).reg (bytes_of_field (field_at c field)) value write (only (field - first_of c (field_at c field).reg))
narrow_sends c l place field value write there is at =
    let f = field_at c field in
    let reg = f.reg in
    let found = row_found c l place reg write at in
    let h = has_row c reg found.row found.row_is in
    let here = here_of c l place reg write at in
    let narrow = narrow_at c l field place write is in
    let fits = in_row c reg field no_field at.chip h there refl in
    let wide : 1 ≤ f.width = (field_fits c field no_field at.chip there).1 in
    let bytes = bytes_of_field f in
    let words = words_of l place 0 in
    let touch : (b : ℕ) → b < 64 → ltb (b / 8) (row_at l place).bytes ≡ true → are_touched (lanes_for bytes) (sent_words bytes words) b ≡ touches f (b / 8) =
    λ b low e. sent_touches bytes words b ∙ ap (λ t. t && bit bytes (b / 8)) (here.words.reach b ∙ e) ∙ bit-bytes_of_field f (b / 8) (omega (arith, low)) in
    let first_in : ltb (f.lsb / 8) (row_at l place).bytes ≡ true = bit_inside f.lsb f.width (row_at l place).bytes f.lsb (first_within f.lsb f.width wide) (omega (arith, fits.2, found.bytes_is)) in
    record {
      sound = at.chip;
      row = h;
      inside = slice_get_within c.regs reg found.row found.row_is;
      turns = turns c l place 0 bytes value write (cell.Reg reg) here at.right (cells_of l place reg at.item) (narrow_reached l place 0 bytes write here narrow.no_fifo narrow.carried);
      split = sent_split bytes words here.words.parts;
      reach = λ b k low e.
          let p = placed c reg b k at.chip h e in
          touch b low (field_inside c l place reg b k write at p) ∙ narrow_bytes c field reg b k refl (omega (arith, fits.0, h.first)) narrow.lone p;
      some = some_sent bytes f.lsb (sent_words bytes words) (touch f.lsb (omega (arith, fits.2, wide, found.bytes_is, here.row.most)) first_in ∙ own_byte f.lsb f.width f.lsb (first_within f.lsb
          f.width wide));
    }
  where
    first_within : (lsb width : ℕ) → 1 ≤ width → is_within lsb width lsb ≡ true
    first_within lsb width some = grind (arith, nat_tests)

pub narrow_write_is_step : NarrowWriteIsStep
narrow_write_is_step c l s place field value r there is at ready holds =
    write_is_step c l s place (field_at c field).reg (bytes_of_field (field_at c field)) value (only (field - first_of c (field_at c field).reg)) r (narrow_sends c l place field value true there is
    at) ready holds

pub narrow_read_is_step : NarrowReadIsStep
narrow_read_is_step c l s place field r there is at ready holds =
    read_is_step c l s place (field_at c field).reg (bytes_of_field (field_at c field)) (only (field - first_of c (field_at c field).reg)) r (narrow_sends c l place field 0 false there is at) ready
    holds
