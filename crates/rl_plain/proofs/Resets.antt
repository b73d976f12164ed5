-- A reset gives a device what is then believed.
use Rattle.std.proofs.Common.{◌≡◌, ◌⊎◌, ℕ, suc, ◌+◌, ◌-◌, ◌<◌, ◌≤◌, Bool, true, false, cond, ◌&&◌, eqb, eqb-true, eq-eqb, ne_eqb, List, [], ◌∷◌}
use Rattle.std.proofs.Common.{◌++◌, length, map, get_or, replicate, Option, None, Some, option_map, refl, sym, ap, ◌∙◌, subst, inl, inr, arith}
use Rattle.std.specs.Prelude.{slice_index, is_some, find}
use Rattle.std.specs.Option.{option_map_or, option_or}
use Rattle.std.proofs.lemmas.Bool.{cases_eq, and_parts}
use Rattle.std.proofs.lemmas.List.{get_or-map, get_or-replicate, length-replicate, length-map}
use Rattle.std.proofs.lemmas.List.FromFn.{get_or-map-range_with_len, length-map-range_with_len}
use Rattle.std.proofs.lemmas.List.Quantifiers.{position-Some}
use Rattle.rl_policy.specs.Bits.{bit, is_within}
use Rattle.rl_policy.proofs.BitLemmas.{from_bits-same, bit-zero}
use Rattle.rl_bus.specs.declared.table.FieldRow.{FieldRow}
use Rattle.rl_bus.specs.declared.table.ResetRow.{ResetRow}
use Rattle.rl_bus.specs.Setup.{Setup, no_field as no_row, field_of as row_of_field, field_at, covers as covers_bit, value_in, reset_of, stuck_at, or_else, held}
use Rattle.rl_bus.specs.State.{State, value_bit, reset_bit as device_bit, reg_reset, reset_by}
use Rattle.rl_model.specs.declared.rows.Reset.{Reset}
use Rattle.rl_model.specs.Rows.{FieldSeen, ChipData}
use Rattle.rl_model.specs.Chip.{IsSound, value_for}
use Rattle.rl_model.specs.Fields.{no_field, field_of, first_of, count_of, fields_of, field_in, covers, place_at}
use Rattle.rl_map.specs.Layout.{LayoutData}
use Rattle.rl_map.specs.Tables.{field_row, reset_rows, setup_of}
use Rattle.rl_split.specs.Law.{no_flaws}
use Rattle.rl_mirror.specs.Fields.{owned, word_by_field}
use Rattle.rl_mirror.specs.Mirror.{MirrorData, IsMirrorOf, mirrored_of}
use Rattle.rl_mirror.specs.Prediction.{reset_bit, after_reset, reset}
use Rattle.rl_mirror.proofs.FieldLemmas.{length-fields_of, field_in-fields_of, number_within, owner_is, apart_fields}
use Rattle.rl_mirror.proofs.PlaceLemmas.{place_is}
use Rattle.rl_mirror.proofs.WordLemmas.{owned_bit}
use Rattle.rl_access.specs.declared.event.Event.{Event}
use Rattle.rl_access.specs.declared.event.Op.{Op}
use Rattle.rl_access.specs.declared.event.Op.TheVariants as op
use Rattle.rl_access.specs.Call.{Scene, IsDone}
use Rattle.rl_access.specs.Gathering.{IsNothingGathered}
use Rattle.rl_access.specs.Model.{ModelData, IsModel}
use Rattle.rl_access.specs.Rules.{grant}
use Rattle.rl_plain.specs.Agree.{IsAsBelieved, Agree, IsReset, KeepsAgreement}
use Rattle.rl_plain.proofs.Agreement.{refused_agree}
use Rattle.rl_plain.proofs.Backdoor.{alone_by, is_field, none_stuck}
use Rattle.rl_plain.specs.Sorts as sort

-- ---- the reset values of a field, among the rows of all fields

abbrev rows_of : ℕ → List Reset → List ResetRow
rows_of field rs = map (λ (r : Reset). let x : ResetRow = record { field = field; kind = r.kind; value = r.value } in x) rs

own_rows : (field kind a : ℕ) (rs : List Reset) (more : List ResetRow) → eqb a field ≡ true → value_in (rows_of a rs ++ more) field kind ≡ option_or (value_for kind rs) (value_in more field kind)
own_rows field kind a [] more e = refl
own_rows field kind a (r ∷ rs) more e =
    ap (λ t. option_map (λ (x : ResetRow). x.value) (cond (t && eqb r.kind kind) (Some (record { field = a; kind = r.kind; value = r.value })) (find (λ (x : ResetRow). eqb x.field field && eqb x.kind
    kind) (rows_of a rs ++ more)))) e
    ∙ by (eqb r.kind kind) (own_rows field kind a rs more e)
  where
    by : (t : Bool) → value_in (rows_of a rs ++ more) field kind ≡ option_or (value_for kind rs) (value_in more field kind) →
        option_map (λ (x : ResetRow). x.value) (cond t (Some (record { field = a; kind = r.kind; value = r.value })) (find (λ (x : ResetRow). eqb x.field field && eqb x.kind kind) (rows_of a rs ++
        more)))
        ≡ option_or (cond t (Some r.value) (value_for kind rs)) (value_in more field kind)
    by true h = refl
    by false h = h

other_rows : (field kind a : ℕ) (rs : List Reset) (more : List ResetRow) → eqb a field ≡ false → value_in (rows_of a rs ++ more) field kind ≡ value_in more field kind
other_rows field kind a [] more e = refl
other_rows field kind a (r ∷ rs) more e =
    ap (λ t. option_map (λ (x : ResetRow). x.value) (cond (t && eqb r.kind kind) (Some (record { field = a; kind = r.kind; value = r.value })) (find (λ (x : ResetRow). eqb x.field field && eqb x.kind
    kind) (rows_of a rs ++ more)))) e
    ∙ other_rows field kind a rs more e

later_rows : (field kind a : ℕ) (fs : List FieldSeen) → field < a → value_in (reset_rows a fs) field kind ≡ None
later_rows field kind a [] l = refl
later_rows field kind a (f ∷ fs) l = other_rows field kind a f.resets (reset_rows (a + 1) fs) (ne_eqb a field (λ e. omega (arith, e, l))) ∙ later_rows field kind (a + 1) fs (omega (arith, l))

or_none : (o : Option ℕ) → option_or o None ≡ o
or_none None = refl
or_none (Some x) = refl

rows_at : (field kind a : ℕ) (fs : List FieldSeen) → a ≤ field → field < a + length fs → value_in (reset_rows a fs) field kind ≡ value_for kind (get_or fs (field - a) no_field).resets
rows_at field kind a [] low high = absurd (omega arith)
rows_at field kind a (f ∷ fs) low high = by (λ from to. rows_at field kind (a + 1) fs from to) (cases_eq a field)
  where
    by : (a + 1 ≤ field → field < a + 1 + length fs → value_in (reset_rows (a + 1) fs) field kind ≡ value_for kind (get_or fs (field - (a + 1)) no_field).resets) → (a ≡ field) ⊎ (a ≡ field → ⊥) →
        value_in (reset_rows a (f ∷ fs)) field kind ≡ value_for kind (get_or (f ∷ fs) (field - a) no_field).resets
    by rest (inl same) =
        let none : field - a ≡ 0 = omega (arith, same) in
        own_rows field kind a f.resets (reset_rows (a + 1) fs) (eq-eqb a field same)
        ∙ ap (option_or (value_for kind f.resets)) (later_rows field kind (a + 1) fs (omega (arith, same)))
        ∙ or_none (value_for kind f.resets)
        ∙ ap (λ j. value_for kind (get_or (f ∷ fs) j no_field).resets) (sym none)
    by rest (inr other) =
        let more : field - a ≡ suc (field - (a + 1)) = omega (arith, low, other) in
        other_rows field kind a f.resets (reset_rows (a + 1) fs) (ne_eqb a field other)
        ∙ rest (omega (arith, low, other)) (omega (arith, high))
        ∙ ap (λ j. value_for kind (get_or (f ∷ fs) j no_field).resets) (sym more)

-- a field's value in a device without flaws is the chip's
reset_value : (c : ChipData) (l : LayoutData) (field kind : ℕ) → field < length c.fields → reset_of (setup_of c l no_flaws) field kind ≡ value_for kind (field_of c field).resets
unfolding setup_of
reset_value c l field kind inside =
    let none : field - 0 ≡ field = omega arith in
    rows_at field kind 0 c.fields (omega arith) (omega (arith, inside)) ∙ ap (λ j. value_for kind (get_or c.fields j no_field).resets) none

row_is : (c : ChipData) (l : LayoutData) (field : ℕ) → field < length c.fields → row_of_field (setup_of c l no_flaws) field ≡ field_row (field_of c field)
unfolding setup_of
row_is c l field inside = get_or-map field_row c.fields field no_field no_row inside

-- ---- the field of a bit, counted through all registers

first_field : (c : ChipData) (l : LayoutData) (reg b n : ℕ) → field_at (setup_of c l no_flaws) reg b ≡ Some n → (n < length c.fields) × (covers_bit (row_of_field (setup_of c l no_flaws) n) reg b ≡
    true)
unfolding setup_of
first_field c l reg b n e =
    let at = position-Some (λ (f : FieldRow). covers_bit f reg b) (map field_row c.fields) n no_row e in
    let inside : n < length c.fields = subst (λ k. n < k) (length-map c.fields field_row) at.0 in
    (inside, at.1)

pub field_found : (c : ChipData) (l : LayoutData) (reg b k : ℕ) → IsSound c → reg < length c.regs → place_at (fields_of c reg) b ≡ Some k
    → field_at (setup_of c l no_flaws) reg b ≡ Some (first_of c reg + k)
field_found c l reg b k sound inside at = by (field_at (setup_of c l no_flaws) reg b) refl
  where
    by : (o : Option ℕ) → field_at (setup_of c l no_flaws) reg b ≡ o → o ≡ Some (first_of c reg + k)
    by None e =
        let no : is_some (field_at (setup_of c l no_flaws) reg b) ≡ false = ap is_some e in
        let yes : is_some (place_at (fields_of c reg) b) ≡ true = ap is_some at in
        let both : false ≡ true = sym no ∙ is_field c l reg b sound inside ∙ yes in
        absurd (cc)
    by (Some n) e =
        let here = place_is (fields_of c reg) b k at in
        let j = first_of c reg + k in
        let found = first_field c l reg b n e in
        let row : covers_bit (field_row (field_of c n)) reg b ≡ true = subst (λ (f : FieldRow). covers_bit f reg b ≡ true) (row_is c l n found.0) found.1 in
        let parts = and_parts (eqb (field_of c n).shape.reg reg) (is_within (field_of c n).shape.lsb (field_of c n).shape.width b) row in
        let own_n : (field_of c n).shape.reg ≡ reg = eqb-true (field_of c n).shape.reg reg parts.0 in
        let all : length (fields_of c reg) ≡ count_of c reg = length-fields_of c reg sound inside in
        let within : j < length c.fields = number_within c reg k sound inside here.0 in
        let own_j : (field_of c j).shape.reg ≡ reg = owner_is c reg j sound inside (omega arith) (omega (arith, all, here.0)) in
        let in_j : covers (field_of c j).shape b ≡ true = subst (λ (f : FieldSeen). covers f.shape b ≡ true) (field_in-fields_of c reg k sound inside here.0) here.1 in
        ap Some (apart_fields c n j b sound found.0 within (own_n ∙ sym own_j) parts.1 in_j)

no_field_found : (c : ChipData) (l : LayoutData) (reg b : ℕ) → IsSound c → reg < length c.regs → place_at (fields_of c reg) b ≡ None → field_at (setup_of c l no_flaws) reg b ≡ None
no_field_found c l reg b sound inside at = by (field_at (setup_of c l no_flaws) reg b) (is_field c l reg b sound inside ∙ ap is_some at)
  where
    by : (o : Option ℕ) → is_some o ≡ false → o ≡ None
    by None e = refl
    by (Some n) e = absurd (cc)

-- ---- the bits of a register

value_bit_is : (o : Option ℕ) (j : ℕ) (x : Bool) → value_bit o j x ≡ option_map_or (λ v. bit v j) o x
value_bit_is None j x = refl
value_bit_is (Some v) j x = refl

field_reset : (c : ChipData) (l : LayoutData) (reg kind m b k : ℕ) → IsSound c → reg < length c.regs → place_at (fields_of c reg) b ≡ Some k →
    device_bit (setup_of c l no_flaws) kind (Some (first_of c reg + k)) b (bit m b) ≡ reset_bit (field_in (fields_of c reg) k) kind b (bit m b)
field_reset c l reg kind m b k sound inside at =
    let t = setup_of c l no_flaws in
    let j = first_of c reg + k in
    let here = place_is (fields_of c reg) b k at in
    let within : j < length c.fields = number_within c reg k sound inside here.0 in
    ap (λ v. value_bit v (b - (row_of_field t j).lsb) (bit m b)) (reset_value c l j kind within)
    ∙ ap (λ (f : FieldRow). value_bit (value_for kind (field_of c j).resets) (b - f.lsb) (bit m b)) (row_is c l j within)
    ∙ value_bit_is (value_for kind (field_of c j).resets) (b - (field_of c j).shape.lsb) (bit m b)
    ∙ ap (λ (f : FieldSeen). reset_bit f kind b (bit m b)) (sym (field_in-fields_of c reg k sound inside here.0))

reset_bits : (c : ChipData) (l : LayoutData) (reg kind m : ℕ) → IsSound c → reg < length c.regs → m ≡ owned (fields_of c reg) m →
    held (setup_of c l no_flaws) reg (λ b. device_bit (setup_of c l no_flaws) kind (field_at (setup_of c l no_flaws) reg b) b (bit m b)) ≡ after_reset (fields_of c reg) kind m
unfolding held after_reset word_by_field
reset_bits c l reg kind m sound inside own =
    let t = setup_of c l no_flaws in
    let fs = fields_of c reg in
    from_bits-same 64 (λ b. or_else (stuck_at t reg b) (device_bit t kind (field_at t reg b) b (bit m b))) (λ b. option_map_or (λ k. reset_bit (field_in fs k) kind b (bit m b)) (place_at fs b) false)
    (λ b low. none_stuck c l reg b (device_bit t kind (field_at t reg b) b (bit m b)) ∙ by b low (place_at fs b) refl)
  where
    by : (b : ℕ) → b < 64 → (o : Option ℕ) → place_at (fields_of c reg) b ≡ o →
        device_bit (setup_of c l no_flaws) kind (field_at (setup_of c l no_flaws) reg b) b (bit m b) ≡ option_map_or (λ k. reset_bit (field_in (fields_of c reg) k) kind b (bit m b)) o false
    by b low None at =
        ap (λ o. device_bit (setup_of c l no_flaws) kind o b (bit m b)) (no_field_found c l reg b sound inside at)
        ∙ owned_bit (fields_of c reg) m b own low
        ∙ ap (λ (o : Option ℕ). option_map_or (λ k. bit m b) o false) at
    by b low (Some k) at =
        ap (λ o. device_bit (setup_of c l no_flaws) kind o b (bit m b)) (field_found c l reg b k sound inside at)
        ∙ field_reset c l reg kind m b k sound inside at

-- a register of the device after a reset
reg_is : (c : ChipData) (l : LayoutData) (d : State) (m : MirrorData) (kind reg : ℕ) → IsSound c → IsMirrorOf c m → IsAsBelieved c l m d → reg < length c.regs → reg_reset d kind reg ≡ after_reset
    (fields_of c reg) kind (mirrored_of m reg)
reg_is c l d m kind reg sound built a inside =
    ap (λ (t : Setup). held t reg (λ b. device_bit t kind (field_at t reg b) b (bit (slice_index d.bits reg) b))) a.ready.setup
    ∙ ap (λ x. held (setup_of c l no_flaws) reg (λ b. device_bit (setup_of c l no_flaws) kind (field_at (setup_of c l no_flaws) reg b) b (bit x b))) (a.holds reg inside).bits
    ∙ reset_bits c l reg kind (mirrored_of m reg) sound inside (built.mirrored reg inside).owned

bits_after : (c : ChipData) (l : LayoutData) (d : State) (m : MirrorData) (kind reg : ℕ) → IsSound c → IsMirrorOf c m → IsAsBelieved c l m d → reg < length c.regs →
    slice_index (reset_by d kind).bits reg ≡ mirrored_of (reset c kind m) reg
unfolding reset_by reset
bits_after c l d m kind reg sound built a inside =
    get_or-map-range_with_len (reg_reset d kind) 0 (length d.bits) reg reg 0 (subst (λ n. reg < n) (sym a.ready.bits) inside) (omega arith)
    ∙ reg_is c l d m kind reg sound built a inside
    ∙ sym (get_or-map-range_with_len (λ reg. after_reset (fields_of c reg) kind (get_or m.mirrored reg 0)) 0 (length m.mirrored) reg reg 0 (subst (λ n. reg < n) (sym built.registers) inside)
    (omega arith))

-- ---- marks: a hard reset clears all of them

cleared : (t : Bool) (count : ℕ) (marks : List ℕ) (q b : ℕ) → q < count → bit (slice_index (cond t (replicate count 0) marks) q) b ≡ cond t false (bit (slice_index marks q) b)
cleared true count marks q b inside = ap (λ n. bit n b) (get_or-replicate count q 0 0 inside) ∙ bit-zero b
cleared false count marks q b inside = refl

unspent : (t : Bool) (count : ℕ) (spent : List Bool) (n : ℕ) → n < count → get_or (cond t (replicate count false) spent) n false ≡ cond t false (get_or spent n false)
unspent true count spent n inside = get_or-replicate count n false false inside
unspent false count spent n inside = refl

kept_false : (t x : Bool) → x ≡ false → cond t false x ≡ false
kept_false true x e = refl
kept_false false x e = e

many_marks : (t : Bool) (marks : List ℕ) → length (cond t (replicate (length marks) 0) marks) ≡ length marks
many_marks true marks = length-replicate (length marks) 0
many_marks false marks = refl

pub after : (c : ChipData) (l : LayoutData) (d : State) (m : MirrorData) (kind : ℕ) → IsSound c → IsMirrorOf c m → IsAsBelieved c l m d → IsAsBelieved c l (reset c kind m) (reset_by d kind)
unfolding reset_by reset
after c l d m kind sound built a =
    let hard = eqb kind 0 in
    record {
      ready = record {
        setup = a.ready.setup;
        beats = λ p x. refl;
        bits = length-map-range_with_len (reg_reset d kind) 0 (length d.bits) ∙ a.ready.bits;
        marks = many_marks hard d.marks ∙ a.ready.marks;
      };
      steady = a.steady;
      holds = λ q inside.
          let here : q < length d.marks = subst (λ n. q < n) (sym a.ready.marks) inside in
          record {
            bits = bits_after c l d m kind q sound built a inside;
            marks = λ b k low at.
                let number : first_of c q + k < length m.spent = subst (λ n. first_of c q + k < n) (sym built.marks) (number_within c q k sound inside (place_is (fields_of c q) b k at).0) in
                cleared hard (length d.marks) d.marks q b here
                ∙ ap (cond hard false) ((a.holds q inside).marks b k low at)
                ∙ sym (unspent hard (length m.spent) m.spent (first_of c q + k) number);
          };
      alone = λ q inside b low e.
          cleared hard (length d.marks) d.marks q b (subst (λ n. q < n) (sym a.ready.marks) inside) ∙ kept_false hard (bit (slice_index d.marks q) b) (a.alone q inside b low e);
    }

-- ---- the call

pub reset_done : (s new : Scene) (op : Op) (event : Event) (place : ℕ) → IsReset op → IsModel s.model → Agree s → IsDone s new op place event → Agree new
reset_done s new (op.Reset kind) event place is ok a done =
    let m = s.model in
    let d = a.device in
    let by = alone_by s new (op.Reset kind) event place d done a.told refl in
    record {
      device = reset_by d kind;
      told = by.told;
      believed_is = subst (λ (x : ModelData). IsAsBelieved x.chip x.layout x.mirror (reset_by d kind)) (sym by.model) (after m.chip m.layout d m.mirror kind ok.chip ok.mirror a.believed_is);
      gathered = subst (λ (x : ModelData). IsNothingGathered x.gathered) (sym by.model) a.gathered;
    }
reset_done s new _ event place is ok a done = absurd is

pub reset_keeps_agreement : KeepsAgreement sort.reset
reset_keeps_agreement s new op event is numbers ok a performs =
    refused_agree s new op event (grant s.model op) a performs (λ place granted done. reset_done s new op event place is ok a done)
