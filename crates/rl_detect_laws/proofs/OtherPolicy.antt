-- A device in which one field has another policy goes as one that is described with it.
use Rattle.std.proofs.Common.{◌≡◌, ℕ, ◌-◌, ◌*◌, ◌<◌, ◌==◌, nat_lt, eqb-true, eq-eqb, Bool, true, false, ◌&&◌, not, if◌then◌else◌, cond, List, [], ◌∷◌, length, map}
use Rattle.std.proofs.Common.{get_or, set, Option, None, Some, option_map, refl, sym, ap, ◌∙◌, subst, inl, inr}
use Rattle.std.specs.List.{position_or_len}
use Rattle.std.specs.Option.{option_map_or}
use Rattle.std.specs.Prelude.{position, slice_index, slice_set}
use Rattle.std.proofs.Math.Path.{fun_ext}
use Rattle.std.proofs.lemmas.Bool.{and_parts, cases_Bool, false≢true}
use Rattle.std.proofs.lemmas.List.{get_or-map, get_or-set_same, get_or-set_other, length-map, length-set}
use Rattle.std.proofs.lemmas.List.Folds.{position_or_len-set}
use Rattle.std.proofs.lemmas.List.Quantifiers.{position-Some}
use Rattle.rl_policy.specs.Access.{bit_written, mark_written, bit_answered, bit_left}
use Rattle.rl_policy.specs.Bits.{bit, from_bits}
use Rattle.rl_policy.specs.declared.policy.Policy.{Policy}
use Rattle.rl_bus.specs.declared.op.BusOp.{BusOp}
use Rattle.rl_bus.specs.declared.table.Cell.{Cell}
use Rattle.rl_bus.specs.declared.table.Cell.TheVariants.{Reg, Loc}
use Rattle.rl_bus.specs.declared.table.FieldRow.{FieldRow}
use Rattle.rl_bus.specs.declared.table.PolicyRow.{PolicyRow}
use Rattle.rl_bus.specs.declared.table.WordRow.{WordRow}
use Rattle.rl_bus.specs.Setup.{Setup, no_field as no_row, covers, field_at, policy_of, policy_at, or_else, mem_of, is_deaf, held}
use Rattle.rl_bus.specs.Spread.{lane_bit, spread_bit, lanes_in}
use Rattle.rl_bus.specs.State.{State, counted, word_at, is_faulty, beats_on, after_reading, after_writing, after_word, after_touch, state_after, answer_of}
use Rattle.rl_model.specs.Rows.{FieldSeen, ChipData}
use Rattle.rl_model.specs.Chip.{IsSound}
use Rattle.rl_model.specs.Fields.{no_field, field_of, first_of, fields_of, field_in, size_of, place_at, covers as covers_bit}
use Rattle.rl_map.specs.Layout.{LayoutData}
use Rattle.rl_map.specs.Tables.{field_row, setup_of}
use Rattle.rl_split.specs.Law.{no_flaws}
use Rattle.rl_split.specs.Runs.{answers_of, state_after_all}
use Rattle.rl_mirror.proofs.FieldLemmas.{field_list, seated}
use Rattle.rl_mirror.proofs.MirrorLemmas.{place_of}
use Rattle.rl_mirror.proofs.PlaceLemmas.{covers_is}
use Rattle.rl_access.specs.Operation.{reg_of}
use Rattle.rl_access.proofs.Setups.{setup-state_after}
use Rattle.rl_plain.proofs.NothingFound.{place_found}
use Rattle.rl_detect_laws.specs.Policies.{other_policy}
use Rattle.rl_detect_laws.proofs.Answering.{answers_as}

-- ---- the setups

-- the field's row, with this policy
abbrev row_with : ChipData → (field : ℕ) → Policy → FieldRow
row_with c field p =
    let f = (field_of c field).shape in
    record { reg = f.reg; lsb = f.lsb; width = f.width; policy = p }

abbrev pub with_policy : ChipData → LayoutData → (field : ℕ) → Policy → Setup
with_policy c l field p = record (setup_of c l no_flaws) { fields = set (map field_row c.fields) field (row_with c field p) }

position_set : {X : Type 0} (test : X → Bool) (xs : List X) (i : ℕ) (y d : X) → test y ≡ test (get_or xs i d)
    → position test (set xs i y) ≡ position test xs
position_set test xs i y d same =
    ap (λ n. cond (nat_lt (position_or_len test (set xs i y)) n) (Some (position_or_len test (set xs i y))) None) (length-set xs i y)
    ∙ ap (λ k. cond (nat_lt k (length xs)) (Some k) None) (position_or_len-set test xs i y d same)

-- each bit belongs to the same field
field_at_with : (c : ChipData) (l : LayoutData) (field : ℕ) (p : Policy) (reg b : ℕ) → field < length c.fields
    → field_at (with_policy c l field p) reg b ≡ field_at (setup_of c l no_flaws) reg b
unfolding setup_of
field_at_with c l field p reg b inside =
    position_set (λ f. covers f reg b) (map field_row c.fields) field (row_with c field p) no_row
    (sym (ap (λ (f : FieldRow). covers f reg b) (get_or-map field_row c.fields field no_field no_row inside)))

-- ---- the policy of a field

by_row : (b : Bool) (r : PolicyRow) (x : Policy)
    → or_else (option_map (λ (y : PolicyRow). y.policy) (if b then Some r else None)) x ≡ (if b then r.policy else x)
by_row true r x = refl
by_row false r x = refl

policy_flawed : (c : ChipData) (l : LayoutData) (field : ℕ) (p : Policy) (f : ℕ)
    → policy_of (setup_of c l (other_policy field p)) f ≡ (if field == f then p else policy_of (setup_of c l no_flaws) f)
unfolding setup_of
policy_flawed c l field p f =
    by_row (field == f) (record { field = field; policy = p }) (get_or (map field_row c.fields) f no_row).policy

policy_with : (c : ChipData) (l : LayoutData) (field : ℕ) (p : Policy) (f : ℕ) → field < length c.fields
    → policy_of (with_policy c l field p) f ≡ (if field == f then p else policy_of (setup_of c l no_flaws) f)
unfolding setup_of
policy_with c l field p f inside =
    elim (cases_Bool (field == f)) [
      | inl on ↦
          let same : field ≡ f = eqb-true field f on in
          ap (λ n. (get_or (set rows field r) n no_row).policy) (sym same) ∙ ap (λ (x : FieldRow). x.policy) (get_or-set_same rows field r no_row within)
          ∙ sym (ap (λ b. if b then p else (get_or rows f no_row).policy) on)
      | inr off ↦
          ap (λ (x : FieldRow). x.policy) (get_or-set_other rows field f r no_row (λ same. false≢true (sym off ∙ eq-eqb field f (sym same))))
          ∙ sym (ap (λ b. if b then p else (get_or rows f no_row).policy) off)
    ]
  where
    rows : List FieldRow
    rows = map field_row c.fields

    r : FieldRow
    r = row_with c field p

    within : field < length (map field_row c.fields)
    within = subst (λ n. field < n) (sym (length-map c.fields field_row)) inside

policy_described : (c : ChipData) (l : LayoutData) (field : ℕ) → field < length c.fields
    → policy_of (setup_of c l no_flaws) field ≡ (field_of c field).shape.policy
unfolding setup_of
policy_described c l field inside = ap (λ (r : FieldRow). r.policy) (get_or-map field_row c.fields field no_field no_row inside)

-- ---- the policy of a bit

same_field : (c : ChipData) (l : LayoutData) (field : ℕ) (p : Policy) (reg b : ℕ)
    → field_at (setup_of c l (other_policy field p)) reg b ≡ field_at (setup_of c l no_flaws) reg b
unfolding setup_of
same_field c l field p reg b = refl

policies_same : (c : ChipData) (l : LayoutData) (field : ℕ) (p : Policy) (reg b : ℕ) → field < length c.fields
    → policy_at (with_policy c l field p) reg b ≡ policy_at (setup_of c l (other_policy field p)) reg b
policies_same c l field p reg b inside =
    ap (option_map (policy_of (with_policy c l field p))) (field_at_with c l field p reg b inside)
    ∙ each (field_at (setup_of c l no_flaws) reg b)
    ∙ ap (option_map (policy_of (setup_of c l (other_policy field p)))) (sym (same_field c l field p reg b))
  where
    each : (o : Option ℕ) → option_map (policy_of (with_policy c l field p)) o ≡ option_map (policy_of (setup_of c l (other_policy field p))) o
    each None = refl
    each (Some f) = ap Some (policy_with c l field p f inside ∙ sym (policy_flawed c l field p f))

-- the bit belongs to the field
abbrev pub is_own : ChipData → LayoutData → (field reg b : ℕ) → Bool
is_own c l field reg b = option_map_or (λ f. field == f) (field_at (setup_of c l no_flaws) reg b) false

-- the policies of a bit as it is described, and with the field's other one
pub record AreBeside (p q : Policy) (own : Bool) (a b : Option Policy) : Type 0 where
  pub others : own ≡ false → a ≡ b
  pub here : own ≡ true → (a ≡ Some p) × (b ≡ Some q)

pub policies_beside : (c : ChipData) (l : LayoutData) (field : ℕ) (p : Policy) (reg b : ℕ) → field < length c.fields
    → AreBeside (field_of c field).shape.policy p (is_own c l field reg b) (policy_at (setup_of c l no_flaws) reg b)
    (policy_at (with_policy c l field p) reg b)
policies_beside c l field p reg b inside =
    subst (λ o. AreBeside (field_of c field).shape.policy p (is_own c l field reg b) (policy_at (setup_of c l no_flaws) reg b)
    (option_map (policy_of (with_policy c l field p)) o)) (sym (field_at_with c l field p reg b inside))
    (by (field_at (setup_of c l no_flaws) reg b))
  where
    by : (o : Option ℕ) → AreBeside (field_of c field).shape.policy p (option_map_or (λ f. field == f) o false)
        (option_map (policy_of (setup_of c l no_flaws)) o) (option_map (policy_of (with_policy c l field p)) o)
    by None = record { others = λ off. refl; here = λ on. absurd (false≢true on) }
    by (Some f) = record {
      others = λ off. ap Some (sym (policy_with c l field p f inside ∙ ap (λ t. if t then p else policy_of (setup_of c l no_flaws) f) off));
      here = λ on. (
        ap (λ n. Some (policy_of (setup_of c l no_flaws) n)) (sym (eqb-true field f on)) ∙ ap Some (policy_described c l field inside),
        ap Some (policy_with c l field p f inside ∙ ap (λ t. if t then p else policy_of (setup_of c l no_flaws) f) on),
      );
    }

-- ---- the bits of the field

own_found : (field : ℕ) (o : Option ℕ) → option_map_or (λ f. field == f) o false ≡ true → o ≡ Some field
own_found field None on = absurd (false≢true on)
own_found field (Some f) on = ap Some (sym (eqb-true field f on))

row_covers : (c : ChipData) (l : LayoutData) (field reg b : ℕ) → field < length c.fields → field_at (setup_of c l no_flaws) reg b ≡ Some field
    → ((reg_of c field == reg) && covers_bit (field_of c field).shape b) ≡ true
unfolding setup_of
row_covers c l field reg b inside is =
    ap (λ (f : FieldRow). covers f reg b) (sym (get_or-map field_row c.fields field no_field no_row inside))
    ∙ (position-Some (λ f. covers f reg b) (map field_row c.fields) field no_row is).1

-- they are bits of its register, and belong to one of that register's fields
pub record IsOwnBit (c : ChipData) (field reg b : ℕ) : Type 0 where
  pub reg_is : reg_of c field ≡ reg
  pub k : ℕ
  pub at : place_at (fields_of c reg) b ≡ Some k

pub own_bit : (c : ChipData) (l : LayoutData) (field reg b : ℕ) → IsSound c → field < length c.fields → is_own c l field reg b ≡ true
    → IsOwnBit c field reg b
own_bit c l field reg b sound inside on =
    let both = and_parts (reg_of c field == reg) (covers_bit (field_of c field).shape b)
    (row_covers c l field reg b inside (own_found field (field_at (setup_of c l no_flaws) reg b) on)) in
    let here : reg_of c field ≡ reg = eqb-true (reg_of c field) reg both.0 in
    let fs = fields_of c (reg_of c field) in
    let at = place_of c field sound inside in
    let list = field_list c (reg_of c field) sound (seated c field sound inside).reg in
    let k = field - first_of c (reg_of c field) in
    let covered : covers_bit (field_in fs k).shape b ≡ true =
    subst (λ (f : FieldSeen). covers_bit f.shape b ≡ true) (sym at.field) both.1 in
    record {
      reg_is = here;
      k = k;
      at = ap (λ r. place_at (fields_of c r) b) (sym here)
          ∙ place_found (place_at fs b) k (sym (covers_is (8 * size_of c (reg_of c field)) fs k b list at.place) ∙ covered);
    }

-- ---- the device goes as one that is described with the policy

abbrev pub as_with : ChipData → LayoutData → (field : ℕ) → Policy → State → State
as_with c l field p d = record d { setup = with_policy c l field p }

module _ (c : ChipData) (l : LayoutData) (field : ℕ) (p : Policy) (inside : field < length c.fields) where
  abbrev as_flawed : State → State
  as_flawed d = record d { setup = setup_of c l (other_policy field p) }

  same_policies : (r : ℕ) → ◌≡◌ {A = ℕ → Option Policy} (λ b. policy_at (with_policy c l field p) r b)
      (λ b. policy_at (setup_of c l (other_policy field p)) r b)
  same_policies r = fun_ext (λ b. policies_same c l field p r b inside)

  reading : (x : State) (lanes : ℕ → Bool) (cell : Cell)
      → after_reading (as_with c l field p x) lanes cell ≡ as_with c l field p (after_reading (as_flawed x) lanes cell)
  unfolding setup_of held
  reading x lanes (Reg r) =
      ap (λ (at : ℕ → Option Policy). let y : State = record (as_with c l field p x) {
        bits = slice_set x.bits r (from_bits 64 (λ b. bit_left (at b) (bit (slice_index x.bits r) b) (lanes b)));
      } in y) (same_policies r)
  reading x lanes (Loc m i) = refl

  by_test : (b : Bool) (x y v w : State) → v ≡ as_with c l field p x → w ≡ as_with c l field p y
      → (if b then v else w) ≡ as_with c l field p (if b then x else y)
  by_test true x y v w h k = h
  by_test false x y v w h k = k

  writing : (x : State) (word lanes : ℕ → Bool) (cell : Cell)
      → after_writing (as_with c l field p x) word lanes cell ≡ as_with c l field p (after_writing (as_flawed x) word lanes cell)
  unfolding setup_of held
  writing x word lanes (Reg r) =
      let v = slice_index x.bits r in
      let m = slice_index x.marks r in
      ap (λ (at : ℕ → Option Policy). let y : State = record (as_with c l field p x) {
        bits = slice_set x.bits r (from_bits 64 (λ b. bit_written (at b) (bit v b) (bit m b) (word b) (lanes b)));
        marks = slice_set x.marks r (from_bits 64 (λ b. mark_written (at b) (bit m b) (lanes b)));
      } in y) (same_policies r)
  writing x word lanes (Loc m i) = by_test (mem_of (setup_of c l no_flaws) m).writable _ (as_flawed x) _ (as_with c l field p x) refl refl

  word_goes : (x : State) (o : BusOp) (w : WordRow)
      → after_word (as_with c l field p x) o w ≡ as_with c l field p (after_word (as_flawed x) o w)
  unfolding setup_of
  word_goes x o w =
      let lanes = lanes_in w.lanes o.lanes in
      let read = λ (y : State). after_reading y (lane_bit lanes) w.cell in
      let wrote = λ (y : State). after_writing y (spread_bit lanes (bit o.word)) (lane_bit lanes) w.cell in
      let deaf = is_deaf (setup_of c l (other_policy field p)) w.cell in
      by_test (not o.write) (read (as_flawed x)) (if deaf then as_flawed x else wrote (as_flawed x))
      (read (as_with c l field p x)) (if deaf then as_with c l field p x else wrote (as_with c l field p x))
      (reading x (lane_bit lanes) w.cell)
      (by_test deaf (as_flawed x) (wrote (as_flawed x)) (as_with c l field p x) (wrote (as_with c l field p x)) refl
      (writing x (spread_bit lanes (bit o.word)) (lane_bit lanes) w.cell))

  touch_goes : (x : State) (port : ℕ) (o : BusOp) (w : Option WordRow)
      → after_touch (as_with c l field p x) port o w ≡ as_with c l field p (after_touch (as_flawed x) port o w)
  unfolding setup_of
  touch_goes x port o None = refl
  touch_goes x port o (Some w) =
      by_test (is_faulty (as_flawed x) port o) _ _ _ _ refl
      (ap (λ (y : State). let z : State = record y { beats = beats_on (as_flawed x) port o } in z) (word_goes x o w))

  item_goes : (x : State) (port : ℕ) (o : BusOp)
      → state_after (as_with c l field p x) port o ≡ as_with c l field p (state_after (as_flawed x) port o)
  unfolding state_after setup_of
  item_goes x port o = touch_goes (counted x) port o (word_at (as_flawed x) port o)

  item_answers : (x : State) (port : ℕ) (o : BusOp) → answer_of (as_with c l field p x) port o ≡ answer_of (as_flawed x) port o
  unfolding answer_of setup_of
  item_answers x port o =
      answers_as (counted (as_flawed x)) (counted (as_with c l field p x)) port o
      (record {
        faulty = refl;
        registers = λ r. ap (λ (at : ℕ → Option Policy). λ b. bit_answered (at b) (bit (slice_index x.bits r) b)) (same_policies r);
        locations = λ m i. refl;
      }) (word_at (as_flawed x) port o)

  goes_so : (d : State) (port : ℕ) (o : BusOp) → d.setup ≡ setup_of c l (other_policy field p)
      → state_after (as_with c l field p d) port o ≡ as_with c l field p (state_after d port o)
  goes_so d port o at =
      subst (λ t. let y : State = record d { setup = t } in state_after (as_with c l field p d) port o ≡ as_with c l field p (state_after y port o))
      (sym at) (item_goes d port o)

  answers_so : (d : State) (port : ℕ) (o : BusOp) → d.setup ≡ setup_of c l (other_policy field p)
      → answer_of (as_with c l field p d) port o ≡ answer_of d port o
  answers_so d port o at =
      subst (λ t. let y : State = record d { setup = t } in answer_of (as_with c l field p d) port o ≡ answer_of y port o)
      (sym at) (item_answers d port o)

  -- operations one after another

  pub all_go : (ops : List BusOp) (d : State) (port : ℕ) → d.setup ≡ setup_of c l (other_policy field p)
      → state_after_all (as_with c l field p d) port ops ≡ as_with c l field p (state_after_all d port ops)
  all_go [] d port at = refl
  all_go (o ∷ ops) d port at =
      ap (λ (x : State). state_after_all x port ops) (goes_so d port o at)
      ∙ all_go ops (state_after d port o) port (setup-state_after d port o ∙ at)

  pub all_answer : (ops : List BusOp) (d : State) (port : ℕ) → d.setup ≡ setup_of c l (other_policy field p)
      → answers_of (as_with c l field p d) port ops ≡ answers_of d port ops
  all_answer [] d port at = refl
  all_answer (o ∷ ops) d port at =
      ap (λ a. a ∷ answers_of (state_after (as_with c l field p d) port o) port ops) (answers_so d port o at)
      ∙ ap (λ (x : State). answer_of d port o ∷ answers_of x port ops) (goes_so d port o at)
      ∙ ap (λ more. answer_of d port o ∷ more) (all_answer ops (state_after d port o) port (setup-state_after d port o ∙ at))
