-- A device with a hidden flaw is related to the one without it.
use Rattle.std.proofs.Common.{◌≡◌, ◌⊎◌, inl, inr, ℕ, zero, suc, ◌+◌, ◌-◌, ◌*◌, ◌<◌, ◌≤◌, Bool, true, false, not, ◌&&◌, ◌||◌, ◌==◌, if◌then◌else◌, List, [], ◌∷◌, length, map, All}
use Rattle.std.proofs.Common.{Option, Some, None, option_map, refl, sym, ap, subst, ◌∙◌, arith}
use Rattle.std.specs.Prelude.{get_or, slice_get, nat_lt, nat_le, unwrap_or, find}
use Rattle.std.specs.List.{list_all, list_any, position_or_len, range_with_len}
use Rattle.std.specs.Option.{option_map_or, option_or}
use Rattle.std.proofs.lemmas.Bool.{and_parts, cases_lt, eqb-true, eq-eqb, false_from_ne_true, leb-true, lt-ltb, ltb-true}
use Rattle.std.proofs.lemmas.List.{get_or-map, get_or_past, length-map}
use Rattle.std.proofs.lemmas.List.FromFn.{get_or-range_with_len, length-range_with_len}
use Rattle.std.proofs.lemmas.List.Quantifiers.{position-Some}
use Rattle.std.proofs.lemmas.List.Sums.{AllPass-from_list_all, position_or_len_is}
use Rattle.rl_policy.proofs.BitLemmas.{bit-zero}
use Rattle.rl_policy.specs.Bits.{bit, is_within}
use Rattle.rl_policy.specs.declared.policy.Policy.{Policy}
use Rattle.rl_bus.specs.declared.table.Cell.TheVariants.{Reg, Loc}
use Rattle.rl_bus.specs.declared.table.FieldRow.{FieldRow}
use Rattle.rl_bus.specs.Setup.{Setup, Flaws, covers, field_at, field_of as row_of_field, is_deaf, mem_of, no_field as no_row, no_mem, or_else, policy_at, policy_of, reset_of, stuck_at}
use Rattle.rl_bus.specs.State.{reset_bit, value_bit}
use Rattle.rl_model.specs.declared.rows.Item.TheVariants as item
use Rattle.rl_model.specs.declared.rows.MemRow.{MemRow}
use Rattle.rl_model.specs.declared.rows.Reset.{Reset}
use Rattle.rl_model.specs.Chip.{IsSound, value_for}
use Rattle.rl_model.specs.Fields.{field_of, no_field}
use Rattle.rl_model.specs.Rows.{ChipData, FieldSeen}
use Rattle.rl_mirror.proofs.FieldLemmas.{apart_fields, seated}
use Rattle.rl_map.specs.Layout.{LayoutData}
use Rattle.rl_map.specs.Tables.{field_row, mem_rows, reset_rows, setup_of}
use Rattle.rl_access.specs.Rules.{is_writable}
use Rattle.rl_flaw.specs.Flaws.{flaws_of}
use Rattle.rl_grade.specs.Hidden.{first_bit, resets_alike, ways_to}
use Rattle.rl_grade.specs.Hidden.{is_same}
use Rattle.rl_grade.specs.Reached.{is_reached}
use Rattle.rl_grade.proofs.HiddenBits.{Closes, Stands, Way, alike, fixed, outside, unseen, untouched}
use Rattle.rl_grade.proofs.HiddenBits.{same_is}
use Rattle.rl_grade.proofs.Related.{Keeps, flawed, kept_mark}
use Rattle.rl_grade.proofs.RelatedSteps.{HasBackdoor, IsVolatile}
use Rattle.rl_grade.proofs.ResetRows.{rows_at}

-- the device without flaws
abbrev pub bare : ChipData → LayoutData → Setup
bare c l = setup_of c l (flaws_of [])

-- ---- its fields

pub row_is : (c : ChipData) (l : LayoutData) (n : ℕ) → n < length c.fields → row_of_field (bare c l) n ≡ field_row (field_of c n)
unfolding setup_of
row_is c l n inside = get_or-map field_row c.fields n no_field no_row inside

-- field n has bit b of the register
pub record HasBit (c : ChipData) (n r b : ℕ) : Type 0 where
  pub inside : n < length c.fields
  pub reg : (field_of c n).shape.reg ≡ r
  pub covers : is_within (field_of c n).shape.lsb (field_of c n).shape.width b ≡ true

pub at_field : (c : ChipData) (l : LayoutData) (r b n : ℕ) → field_at (bare c l) r b ≡ Some n → HasBit c n r b
unfolding setup_of
at_field c l r b n is =
    let found = position-Some (λ (f : FieldRow). covers f r b) (map field_row c.fields) n no_row is in
    let inside : n < length c.fields = subst (λ k. n < k) (length-map c.fields field_row) found.0 in
    let row : covers (field_row (field_of c n)) r b ≡ true = subst (λ (f : FieldRow). covers f r b ≡ true) (row_is c l n inside) found.1 in
    let parts = and_parts ((field_of c n).shape.reg == r) (is_within (field_of c n).shape.lsb (field_of c n).shape.width b) row in
    record { inside = inside; reg = eqb-true (field_of c n).shape.reg r parts.0; covers = parts.1 }

both_true : (a b : Bool) → a ≡ true → b ≡ true → (a && b) ≡ true
both_true true b p q = q
both_true false b p q = absurd cc

covered : (c : ChipData) (l : LayoutData) (r b n : ℕ) → HasBit c n r b → covers (row_of_field (bare c l) n) r b ≡ true
covered c l r b n h =
    subst (λ (f : FieldRow). covers f r b ≡ true) (sym (row_is c l n h.inside))
    (both_true ((field_of c n).shape.reg == r) _ (eq-eqb (field_of c n).shape.reg r h.reg) h.covers)

pub field_there : (c : ChipData) (l : LayoutData) (r b n : ℕ) → IsSound c → HasBit c n r b → field_at (bare c l) r b ≡ Some n
unfolding setup_of
field_there c l r b n sound h =
    let rows = map field_row c.fields in
    let size : length rows ≡ length c.fields = length-map c.fields field_row in
    let low : n < length rows = subst (λ k. n < k) (sym size) h.inside in
    let at : position_or_len (λ (f : FieldRow). covers f r b) rows ≡ n =
    position_or_len_is (λ (f : FieldRow). covers f r b) rows n no_row (omega (arith, low))
    (λ k before. false_from_ne_true (covers (get_or rows k no_row) r b) (λ so.
    let inside : k < length c.fields = omega (arith, before, h.inside) in
    let row : covers (field_row (field_of c k)) r b ≡ true = subst (λ (f : FieldRow). covers f r b ≡ true) (row_is c l k inside) so in
    let parts = and_parts ((field_of c k).shape.reg == r) (is_within (field_of c k).shape.lsb (field_of c k).shape.width b) row in
    let same : k ≡ n = apart_fields c k n b sound inside h.inside (eqb-true (field_of c k).shape.reg r parts.0 ∙ sym h.reg) parts.1 h.covers in
    omega (arith, same, before)))
    (λ here. covered c l r b n h) in
    ap (λ k. if nat_lt k (length rows) then Some k else None) at ∙ ap (λ b. if b then Some n else None) (lt-ltb n (length rows) low)

pub none_above : (c : ChipData) (l : LayoutData) → IsSound c → (r b : ℕ) → 64 ≤ b → field_at (bare c l) r b ≡ None
none_above c l sound r b high = by (field_at (bare c l) r b) refl
  where
    by : (o : Option ℕ) → field_at (bare c l) r b ≡ o → o ≡ None
    by None is = refl
    by (Some n) is =
        let h = at_field c l r b n is in
        let seat = seated c n sound h.inside in
        let within = and_parts (nat_le (field_of c n).shape.lsb b) (nat_lt b ((field_of c n).shape.lsb + (field_of c n).shape.width)) h.covers in
        let less : b < (field_of c n).shape.lsb + (field_of c n).shape.width = ltb-true b _ within.1 in
        let end = seat.inside in
        let bytes = seat.bytes in
        absurd (omega (arith, less, end, bytes, high))

-- the number of the bit in its field
pub bit_of : (c : ChipData) (n r b : ℕ) → HasBit c n r b
    → ((field_of c n).shape.lsb + (b - (field_of c n).shape.lsb) ≡ b) × (b - (field_of c n).shape.lsb < (field_of c n).shape.width)
bit_of c n r b h =
    let f = (field_of c n).shape in
    let within = and_parts (nat_le f.lsb b) (nat_lt b (f.lsb + f.width)) h.covers in
    let from : f.lsb ≤ b = leb-true f.lsb b within.0 in
    let less : b < f.lsb + f.width = ltb-true b _ within.1 in
    (omega (arith, from), omega (arith, from, less))

-- ---- its reset values

pub own_reset : (c : ChipData) (l : LayoutData) (n kind : ℕ) → reset_of (bare c l) n kind ≡ value_for kind (field_of c n).resets
unfolding setup_of
own_reset c l n kind =
    let none : n - 0 ≡ n = omega arith in
    rows_at n kind 0 c.fields (omega arith) ∙ ap (λ j. value_for kind (get_or c.fields j no_field).resets) none

-- ---- what resets do

abbrev pub ResetsTo : Way → Option Bool → (own other : Bool → Bool) → Type 0
ResetsTo alike S f h = (S ≡ None) × ((x : Bool) → h x ≡ f x)
ResetsTo (fixed v) S f h = (f v ≡ v) × (or_else S (h v) ≡ v)
ResetsTo unseen S f h = Unit {0}

abbrev pub FirstIs : Way → Option Bool → (own other : Bool) → Type 0
FirstIs alike S f h = (S ≡ None) × (h ≡ f)
FirstIs (fixed v) S f h = (f ≡ v) × (or_else S h ≡ v)
FirstIs unseen S f h = Unit {0}

reset_stands : (way : Way) (S : Option Bool) (f h : Bool → Bool) (kind : ℕ) (x m y n : Bool) → ResetsTo way S f h → Stands way x m y n
    → Stands way (f x) (kept_mark kind m) (or_else S (h y)) (kept_mark kind n)
reset_stands alike S f h kind x m y n r k =
    (ap (λ o. or_else o (h y)) r.0 ∙ r.1 y ∙ ap f k.0, ap (kept_mark kind) k.1)
reset_stands (fixed v) S f h kind x m y n r k = (ap f k.0 ∙ r.0, ap (λ b. or_else S (h b)) k.1 ∙ r.1)
reset_stands unseen S f h kind x m y n r k = tt

first_stands : (way : Way) (S : Option Bool) (f h : Bool) → FirstIs way S f h → Stands way f false (or_else S h) false
first_stands alike S f h r = (ap (λ o. or_else o h) r.0 ∙ r.1, refl)
first_stands (fixed v) S f h r = r
first_stands unseen S f h r = tt

-- ---- what all of it comes to

-- the field of the bit may be changed by the hardware
abbrev pub volatile_at : ChipData → LayoutData → (r b : ℕ) → Bool
volatile_at c l r b = option_map_or (λ n. (field_of c n).shape.volatile) (field_at (bare c l) r b) false

pub record Bits (c : ChipData) (l : LayoutData) (g : Flaws) (way : ℕ → ℕ → Way) : Type 0 where
  pub ranges : g.ranges ≡ []
  pub nths : g.nths ≡ []
  pub memory : (m i : ℕ) → is_deaf (flawed (bare c l) g) (Loc m i) ≡ true → is_reached l.rows (item.Mem m) true ≡ true
      → (mem_of (bare c l) m).writable ≡ false
  pub closes : (r b : ℕ)
      → Closes (way r b) (ways_to c l.rows r) (is_deaf (flawed (bare c l) g) (Reg r)) (volatile_at c l r b) (policy_at (bare c l) r b)
      (policy_at (flawed (bare c l) g) r b) (stuck_at (flawed (bare c l) g) r b)
  pub resets : (r b kind : ℕ)
      → ResetsTo (way r b) (stuck_at (flawed (bare c l) g) r b) (reset_bit (bare c l) kind (field_at (bare c l) r b) b)
      (reset_bit (flawed (bare c l) g) kind (field_at (bare c l) r b) b)
  pub first : (r b : ℕ)
      → FirstIs (way r b) (stuck_at (flawed (bare c l) g) r b) (reset_bit (bare c l) 0 (field_at (bare c l) r b) b false)
      (reset_bit (flawed (bare c l) g) 0 (field_at (bare c l) r b) b false)

some_field : (c : ChipData) (n : ℕ) → IsVolatile c n → n < length c.fields
some_field c n so = by (cases_lt n (length c.fields))
  where
    by : (n < length c.fields) ⊎ (length c.fields ≤ n) → n < length c.fields
    by (inl low) = low
    by (inr past) =
        let none : (field_of c n).shape.volatile ≡ false = ap (λ (f : FieldSeen). f.shape.volatile) (get_or_past c.fields n no_field past) in
        absurd cc

put_or_keep : (way : Way) (w : _) (deaf volatile : Bool) (P Q : _) (S : Option Bool) → Closes way w deaf volatile P Q S
    → (k : Bool) → (k ≡ true → (w.backdoor ≡ true) ⊎ (volatile ≡ true)) → (v x m y n : Bool) → Stands way x m y n
    → Stands way (if k then v else x) m (or_else S (if k then v else y)) n
put_or_keep way w deaf volatile P Q S closes true may v x m y n h = closes.put (may refl) v x m y n h
put_or_keep way w deaf volatile P Q S closes false may v x m y n h = closes.keep x m y n h

module _ (c : ChipData) (l : LayoutData) (g : Flaws) (way : ℕ → ℕ → Way) (sound : IsSound c) (bits : Bits c l g way) where
  abbrev t : Setup
  t = bare c l

  abbrev u : Setup
  u = flawed (bare c l) g

  moves_here : (f b : ℕ) → IsVolatile c f → is_within (row_of_field t f).lsb (row_of_field t f).width b ≡ true
      → volatile_at c l (row_of_field t f).reg b ≡ true
  moves_here f b moves within =
      let inside = some_field c f moves in
      let row = row_is c l f inside in
      let here : HasBit c f (row_of_field t f).reg b = record {
        inside = inside;
        reg = sym (ap (λ (x : FieldRow). x.reg) row);
        covers = subst (λ (x : FieldRow). is_within x.lsb x.width b ≡ true) row within;
      } in
      ap (λ o. option_map_or (λ n. (field_of c n).shape.volatile) o false) (field_there c l (row_of_field t f).reg b f sound here) ∙ moves

  pub keeps : Keeps t g (λ r b. Stands (way r b)) (HasBackdoor c) (IsVolatile c)
  unfolding setup_of
  keeps = record {
    ranges = bits.ranges;
    nths = bits.nths;
    hears = λ cell. refl;
    memory = bits.memory;
    above = none_above c l sound;
    shown = λ r b so x m y n h. (bits.closes r b).shown so x m y n h;
    read = λ r b so lane x m y n h. (bits.closes r b).read so lane x m y n h;
    written = λ r b so heard v lane x m y n h. (bits.closes r b).written so heard v lane x m y n h;
    unheard = λ r b so deaf v lane x m y n h. (bits.closes r b).unheard so deaf v lane x m y n h;
    reset = λ r b kind x m y n h.
        reset_stands (way r b) (stuck_at u r b) (reset_bit t kind (field_at t r b) b) (reset_bit u kind (field_at t r b) b) kind x m y n (bits.resets r b kind) h;
    first = λ r b. first_stands (way r b) (stuck_at u r b) _ _ (bits.first r b);
    same = λ r b back x m y n h. (bits.closes r b).same back x m y n h;
    poked = λ r b back v x m y n h.
        put_or_keep (way r b) (ways_to c l.rows r) (is_deaf u (Reg r)) (volatile_at c l r b) (policy_at t r b) (policy_at u r b) (stuck_at u r b) (bits.closes r b)
        _ (λ so. inl back) v x m y n h;
    moved = λ f b moves v x m y n h.
        let r = (row_of_field t f).reg in
        put_or_keep (way r b) (ways_to c l.rows r) (is_deaf u (Reg r)) (volatile_at c l r b) (policy_at t r b) (policy_at u r b) (stuck_at u r b) (bits.closes r b)
        (is_within (row_of_field t f).lsb (row_of_field t f).width b) (λ so. inr (moves_here f b moves so)) v x m y n h;
  }
