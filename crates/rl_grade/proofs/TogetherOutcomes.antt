-- What comes of one operation on a register in two worlds in which the register is the same: the same for it, and nothing for any other.
use Rattle.std.proofs.Common.{◌≡◌, ℕ, ◌-◌, ◌^◌, ◌<◌, Bool, true, false, ◌==◌, if◌then◌else◌, List, [], length, Option, Some, None, IfSome, Ok, refl, sym, ap, subst, ◌∙◌}
use Rattle.std.specs.Prelude.{nat_lt, slice_index}
use Rattle.std.specs.List.{position_from}
use Rattle.std.proofs.lemmas.Bool.{ltb-true}
use Rattle.std.proofs.lemmas.Iterator.Adapters.{position_from-zero}
use Rattle.rl_policy.specs.Bits.{bit, from_bits, put_bit}
use Rattle.rl_bus.specs.declared.table.Cell.TheVariants as cell
use Rattle.rl_bus.specs.Setup.{Flaws}
use Rattle.rl_bus.specs.Standing.{Standing}
use Rattle.rl_bus.specs.State.{State, hw_set, peeked, poked}
use Rattle.rl_model.specs.Fields.{field_of, fields_of, first_of, size_of}
use Rattle.rl_model.specs.Rows.{ChipData}
use Rattle.rl_model.specs.declared.rows.Item.TheVariants as item
use Rattle.rl_map.specs.Layout.{LayoutData, place_at}
use Rattle.rl_split.specs.Access.{all_bytes, joined, ops_of}
use Rattle.rl_split.specs.Narrow.{bytes_of_field, is_narrow}
use Rattle.rl_mirror.specs.Compared.{differ}
use Rattle.rl_mirror.specs.Fields.{owned}
use Rattle.rl_mirror.specs.Mirror.{MirrorData, marks_in}
use Rattle.rl_mirror.specs.Prediction.{needs_update, neutral_around, predict_read, predict_write, shown, update_word_of, written}
use Rattle.rl_access.specs.declared.event.End.{End}
use Rattle.rl_access.specs.declared.event.End.TheVariants as end
use Rattle.rl_access.specs.declared.event.Op.{Op}
use Rattle.rl_access.specs.declared.event.Op.TheVariants as op
use Rattle.rl_access.specs.declared.event.Refused.TheVariants.{NotWritable, OutOfRange, TooWide}
use Rattle.rl_access.specs.declared.predictor.Gathered.{Gathered}
use Rattle.rl_access.specs.declared.trace.TraceItem.{TraceItem}
use Rattle.rl_access.specs.Items.{failed_at, items_of, port_for, state_after_all, words_answered}
use Rattle.rl_access.specs.Model.{ModelData}
use Rattle.rl_access.specs.Operation.{location_size, reg_of, register_of}
use Rattle.rl_access.specs.Rules.{Outcome, access_ops, at_location, back_left, back_outcome, back_written, device_after, end_in_field, every_field, field_alone, field_width, forgotten}
use Rattle.rl_access.specs.Rules.{found_by, grant, in_field, is_writable, item_size, location_value, low_bytes, memory_size, or_error, outcome, owned_of, quiet, read_outcome, sends, taking_raw}
use Rattle.rl_access.specs.Rules.{watched_way, way, whole, writable, write_outcome}
use Rattle.rl_access.proofs.Granted.{IsWay, only_ok, watched_way_found, way_found}
use Rattle.rl_grade.proofs.HiddenFlaws.{bare}
use Rattle.rl_grade.proofs.Related.{flawed}
use Rattle.rl_grade.proofs.TogetherAccess.{AreAlikeIn, AreDevices, AreSound, Goes, LeavesRegisters, found_same, goes_nowhere, goes_poked, goes_set, location_same, location_swept, narrow_swept, poke_leaves, poke_same, whole_swept}
use Rattle.rl_grade.proofs.TogetherBeliefs.{HasSize, SameBelief, around_same, differ_same, needs_same, raw_other, raw_same, raw_size, read_other, read_same, read_size, same_belief, set_other, set_same, set_size}
use Rattle.rl_grade.proofs.TogetherBeliefs.{update_same, write_other, write_same, write_size, written_same}
use Rattle.rl_grade.proofs.TogetherItems.{Swept, fails, reg_same}
use Rattle.rl_grade.proofs.TogetherMakeup.{IsCalm, SameMakeup}

-- a model of this chip and layout
abbrev pub modelled : ChipData → LayoutData → MirrorData → List Gathered → ModelData
modelled c l m gathered = record { chip = c; layout = l; mirror = m; gathered = gathered }

-- The outcome and the device are the same for the register in both, and the first's are as before for any other.
pub record Comes (c : ChipData) (l : LayoutData) (q : ℕ) (m : MirrorData) (d : State) (x y : Outcome) (after other : State) : Type 0 where
  pub end : y.end ≡ x.end
  pub differ : y.differ ≡ x.differ
  pub chip : x.model.chip ≡ c
  pub layout : x.model.layout ≡ l
  pub belief : SameBelief c q x.model.mirror y.model.mirror
  pub beside : (r : ℕ) → (r ≡ q → ⊥) → SameBelief c r m x.model.mirror
  pub size : HasSize c x.model.mirror
  pub goes : Goes q d after other

-- the register is the same in both
pub record AreReady (c : ChipData) (l : LayoutData) (g h : Flaws) (q : ℕ) (m n : MirrorData) (d e : State) : Type 0 where
  pub belief : SameBelief c q m n
  pub size : HasSize c m
  pub other_size : HasSize c n
  pub made : SameMakeup (flawed (bare c l) g) (flawed (bare c l) h) q
  pub devices : AreDevices (bare c l) g h d e
  pub bits : slice_index e.bits q ≡ slice_index d.bits q
  pub marks : slice_index e.marks q ≡ slice_index d.marks q

-- The outcome and the memories are the same in both, and all that is no memory's is as before in the first.
pub record Leaves (c : ChipData) (l : LayoutData) (m : MirrorData) (d : State) (x y : Outcome) (after other : State) : Type 0 where
  pub end : y.end ≡ x.end
  pub differ : y.differ ≡ x.differ
  pub chip : x.model.chip ≡ c
  pub layout : x.model.layout ≡ l
  pub mirror : x.model.mirror ≡ m
  pub setup : after.setup ≡ d.setup
  pub size : length after.bits ≡ length d.bits
  pub mark_size : length after.marks ≡ length d.marks
  pub bits : (q : ℕ) → slice_index after.bits q ≡ slice_index d.bits q
  pub marks : (q : ℕ) → slice_index after.marks q ≡ slice_index d.marks q
  pub locations : other.locations ≡ after.locations
  pub beats : (p a : ℕ) → after.beats p a ≡ 0

-- it is of a memory
abbrev pub is_of_memory : Op → Bool
is_of_memory (op.MemWrite mem map index value) = true
is_of_memory (op.MemRead mem map index) = true
is_of_memory (op.MemCheck mem map index value) = true
is_of_memory (op.BurstWrite mem map start count) = true
is_of_memory (op.BurstRead mem map start count) = true
is_of_memory (op.MemPeek mem index) = true
is_of_memory (op.MemPoke mem index value) = true
is_of_memory _ = false

module _ (c : ChipData) (l : LayoutData) (sound : AreSound c l) (g h : Flaws) (first : IsCalm (flawed (bare c l) g)) (second : IsCalm (flawed (bare c l) h))
    (m n : MirrorData) (gathered others : List Gathered) (s z : Standing) (d e : State) where
  abbrev Ready : ℕ → Type 0
  Ready q = AreReady c l g h q m n d e

  abbrev mine : List Gathered → ModelData
  mine words = modelled c l m words

  abbrev its : List Gathered → ModelData
  its words = modelled c l n words

  abbrev Came : ℕ → (x y : Outcome) → (after other : State) → Type 0
  Came q x y after other = Comes c l q m d x y after other

  pub alike_in : (q : ℕ) → Ready q → AreAlikeIn q d e
  alike_in q ready = record {
    made = subst (λ u. SameMakeup u e.setup q) (sym ready.devices.setup) (subst (λ u. SameMakeup (flawed (bare c l) g) u q) (sym ready.devices.other_setup) ready.made);
    size = ready.devices.size;
    bits = ready.bits;
    marks = ready.marks;
    beats = ready.devices.beats;
  }

  -- ---- where no item failed

  good_is : (items : List TraceItem) (model : ModelData) (x : Outcome) → ((k : ℕ) → position_from fails k items ≡ None) → or_error (failed_at items) model x ≡ x
  good_is items model x fine = ap (λ o. or_error o model x) (position_from-zero fails items ∙ fine 0)

  swept_goes : (q : ℕ) (items more : List TraceItem) → Swept (cell.Reg q) d e items more → Goes q d (state_after_all d items) (state_after_all e more)
  swept_goes q items more sw = record { same = sw.same; touches = sw.touches; beats = sw.beats }

  wrote : (reg place chosen fields value : ℕ) (good : End) (words further : List Gathered) (items more : List TraceItem) → Ready reg
      → Swept (cell.Reg reg) d e items more
      → Came reg (write_outcome (mine words) good (record { reg = reg; place = place; chosen = chosen; fields = fields; value = value }) items)
      (write_outcome (its further) good (record { reg = reg; place = place; chosen = chosen; fields = fields; value = value }) more)
      (state_after_all d items) (state_after_all e more)
  wrote reg place chosen fields value good words further items more ready sw =
      let x : Outcome = quiet good (modelled c l (predict_write c reg value fields m) words) in
      let y : Outcome = quiet good (modelled c l (predict_write c reg value fields n) further) in
      let y' = or_error (failed_at more) (its further) y in
      subst (λ u. Came reg u y' (state_after_all d items) (state_after_all e more)) (sym (good_is items (mine words) x sw.fine))
      (subst (λ u. Came reg x u (state_after_all d items) (state_after_all e more)) (sym (good_is more (its further) y sw.other_fine))
      (record {
        end = refl;
        differ = refl;
        chip = refl;
        layout = refl;
        belief = write_same c reg value fields m n sound.chip ready.size ready.other_size ready.belief;
        beside = λ r other. write_other c reg value fields r m other;
        size = write_size c reg value fields m ready.size;
        goes = swept_goes reg items more sw;
      }))

  abbrev read_as : MirrorData → List Gathered → Bool → (reg fields value : ℕ) → Outcome
  read_as mirror words check reg fields value = record {
    end = end.Value value;
    model = modelled c l (predict_read c reg value fields mirror) words;
    differ = if check then differ c reg value mirror else 0;
  }

  read_comes : (check : Bool) (reg fields value : ℕ) (words further : List Gathered) (after other : State) → Ready reg → Goes reg d after other
      → Came reg (read_as m words check reg fields value) (read_as n further check reg fields value) after other
  read_comes check reg fields value words further after other ready goes = record {
    end = refl;
    differ = ap (λ k. if check then k else 0) (differ_same c reg value m n ready.belief);
    chip = refl;
    layout = refl;
    belief = read_same c reg value fields m n ready.size ready.other_size ready.belief;
    beside = λ r apart. read_other c reg value fields r m apart;
    size = read_size c reg value fields m ready.size;
    goes = goes;
  }

  read_came : (check : Bool) (reg place chosen fields sent : ℕ) (words further : List Gathered) (items more : List TraceItem) → Ready reg
      → Swept (cell.Reg reg) d e items more
      → Came reg (read_outcome (mine words) check (record { reg = reg; place = place; chosen = chosen; fields = fields; value = sent }) items)
      (read_outcome (its further) check (record { reg = reg; place = place; chosen = chosen; fields = fields; value = sent }) more)
      (state_after_all d items) (state_after_all e more)
  read_came check reg place chosen fields sent words further items more ready sw =
      let value = joined l place 0 chosen (words_answered items) in
      let value' = joined l place 0 chosen (words_answered more) in
      let x = read_as m words check reg fields value in
      let y' = or_error (failed_at more) (its further) (read_as n further check reg fields value') in
      subst (λ u. Came reg u y' (state_after_all d items) (state_after_all e more)) (sym (good_is items (mine words) x sw.fine))
      (subst (λ u. Came reg x u (state_after_all d items) (state_after_all e more))
      (sym (good_is more (its further) (read_as n further check reg fields value') sw.other_fine
      ∙ ap (λ ws. read_as n further check reg fields (joined l place 0 chosen ws)) sw.words))
      (read_comes check reg fields value words further (state_after_all d items) (state_after_all e more) ready (swept_goes reg items more sw)))

  in_came : (field q : ℕ) (x y : Outcome) (after other : State) → Came q x y after other → Came q (in_field c field x) (in_field c field y) after other
  in_came field q x y after other came = record {
    end = ap (end_in_field (field_of c field).shape) came.end;
    differ = came.differ;
    chip = came.chip;
    layout = came.layout;
    belief = came.belief;
    beside = came.beside;
    size = came.size;
    goes = came.goes;
  }

  pub still : (good : End) (q : ℕ) (words further : List Gathered) (after other : State) → Ready q → Goes q d after other
      → Came q (quiet good (mine words)) (quiet good (its further)) after other
  still good q words further after other ready goes = record {
    end = refl;
    differ = refl;
    chip = refl;
    layout = refl;
    belief = ready.belief;
    beside = λ r apart. same_belief c r m;
    size = ready.size;
    goes = goes;
  }

  raw_came : (good : End) (q v : ℕ) (after other : State) → Ready q → Goes q d after other
      → Came q (quiet good (taking_raw (mine gathered) q v)) (quiet good (taking_raw (its others) q v)) after other
  raw_came good q v after other ready goes = record {
    end = refl;
    differ = refl;
    chip = refl;
    layout = refl;
    belief = raw_same c q v m n ready.size ready.other_size ready.belief;
    beside = λ r apart. raw_other c q v r m apart;
    size = raw_size c q v m ready.size;
    goes = goes;
  }

  -- ---- accesses over the bus

  abbrev items_mine : Op → ℕ → List TraceItem
  items_mine o place = items_of s d (port_for l place) (sends (mine gathered) o place)

  abbrev items_its : Op → ℕ → List TraceItem
  items_its o place = items_of z e (port_for l place) (sends (its others) o place)

  abbrev Done : Op → (place q : ℕ) → Type 0
  Done o place q =
      Ready q → grant (mine gathered) o ≡ Ok place
      → Came q (outcome (mine gathered) o place (found_by d o) (items_mine o place)) (outcome (its others) o place (found_by e o) (items_its o place))
      (device_after (mine gathered) o (found_by d o) (items_mine o place) d) (device_after (its others) o (found_by e o) (items_its o place) e)

  whole_of : (reg place value : ℕ) (write : Bool) → IsWay l (item.Reg reg) write place → Ready reg
      → Swept (cell.Reg reg) d e (items_of s d (place_at l place).port (ops_of l place 0 (all_bytes (size_of c reg)) value write))
      (items_of z e (place_at l place).port (ops_of l place 0 (all_bytes (size_of c reg)) value write))
  whole_of reg place value write at ready =
      whole_swept c l sound g h first second reg place value write s z d e at ready.made ready.devices (reg_same reg d e ready.bits ready.marks)

  narrow_of : (field place value : ℕ) (write : Bool) → IsWay l (item.Reg (reg_of c field)) write place → is_narrow c l field place write ≡ true → Ready (reg_of c field)
      → Swept (cell.Reg (reg_of c field)) d e (items_of s d (place_at l place).port (ops_of l place 0 (bytes_of_field (field_of c field).shape) value write))
      (items_of z e (place_at l place).port (ops_of l place 0 (bytes_of_field (field_of c field).shape) value write))
  narrow_of field place value write at is ready =
      narrow_swept c l sound g h first second field place value write s z d e at is ready.made ready.devices (reg_same (reg_of c field) d e ready.bits ready.marks)

  written_at : (reg place value : ℕ) → IsWay l (item.Reg reg) true place → Ready reg
      → Came reg (write_outcome (mine (forgotten l place gathered)) end.Done (whole (mine gathered) reg place value) (items_of s d (place_at l place).port (access_ops (mine gathered) (whole (mine gathered) reg place value) true)))
      (write_outcome (its (forgotten l place others)) end.Done (whole (its others) reg place value) (items_of z e (place_at l place).port (access_ops (its others) (whole (its others) reg place value) true)))
      (state_after_all d (items_of s d (place_at l place).port (access_ops (mine gathered) (whole (mine gathered) reg place value) true)))
      (state_after_all e (items_of z e (place_at l place).port (access_ops (its others) (whole (its others) reg place value) true)))
  written_at reg place value at ready =
      wrote reg place (all_bytes (size_of c reg)) every_field value end.Done (forgotten l place gathered) (forgotten l place others) _ _ ready
      (whole_of reg place value true at ready)

  read_at : (check : Bool) (reg place : ℕ) → IsWay l (item.Reg reg) false place → Ready reg
      → Came reg (read_outcome (mine (forgotten l place gathered)) check (whole (mine gathered) reg place 0) (items_of s d (place_at l place).port (access_ops (mine gathered) (whole (mine gathered) reg place 0) false)))
      (read_outcome (its (forgotten l place others)) check (whole (its others) reg place 0) (items_of z e (place_at l place).port (access_ops (its others) (whole (its others) reg place 0) false)))
      (state_after_all d (items_of s d (place_at l place).port (access_ops (mine gathered) (whole (mine gathered) reg place 0) false)))
      (state_after_all e (items_of z e (place_at l place).port (access_ops (its others) (whole (its others) reg place 0) false)))
  read_at check reg place at ready =
      read_came check reg place (all_bytes (size_of c reg)) every_field 0 (forgotten l place gathered) (forgotten l place others) _ _ ready
      (whole_of reg place 0 false at ready)

  write_done : (reg : ℕ) (map : Option ℕ) (value place : ℕ) → Done (op.Write reg map value) place reg
  write_done reg map value place ready so =
      let way_is = only_ok (way (mine gathered) (item.Reg reg) map true) (nat_lt value (256 ^ item_size c (item.Reg reg))) TooWide place so in
      written_at reg place value (way_found (mine gathered) (item.Reg reg) map true place way_is.0) ready

  read_done : (reg : ℕ) (map : Option ℕ) (place : ℕ) → Done (op.Read reg map) place reg
  read_done reg map place ready so = read_at false reg place (way_found (mine gathered) (item.Reg reg) map false place so) ready

  mirror_done : (reg : ℕ) (map : Option ℕ) (place : ℕ) → Done (op.Mirror reg map) place reg
  mirror_done reg map place ready so = read_at false reg place (way_found (mine gathered) (item.Reg reg) map false place so) ready

  check_done : (reg : ℕ) (map : Option ℕ) (place : ℕ) → Done (op.Check reg map) place reg
  check_done reg map place ready so = read_at true reg place (way_found (mine gathered) (item.Reg reg) map false place so) ready

  other_write_done : (reg : ℕ) (map : Option ℕ) (value place : ℕ) → Done (op.OtherWrite reg map value) place reg
  other_write_done reg map value place ready so =
      let way_is = only_ok (watched_way (mine gathered) reg map true) (nat_lt value (256 ^ item_size c (item.Reg reg))) TooWide place so in
      written_at reg place value (watched_way_found (mine gathered) reg map true place way_is.0).way ready

  other_read_done : (reg : ℕ) (map : Option ℕ) (place : ℕ) → Done (op.OtherRead reg map) place reg
  other_read_done reg map place ready so = read_at false reg place (watched_way_found (mine gathered) reg map false place so).way ready

  -- ---- of one field

  abbrev kept : Bool → ℕ → List Gathered → List Gathered
  kept k place words = if k then words else forgotten l place words

  -- the bytes of the field, and the value in its place
  abbrev own_bytes : ℕ → ℕ
  own_bytes field = bytes_of_field (field_of c field).shape

  abbrev own_bit : ℕ → ℕ
  own_bit field = 2 ^ (field - first_of c (reg_of c field))

  abbrev own_value : (field value : ℕ) → ℕ
  own_value field value = from_bits 64 (put_bit (field_of c field).shape.lsb (field_of c field).shape.width (bit value) (bit 0))

  abbrev FieldWrote : Bool → (field place value around other : ℕ) → Type 0
  FieldWrote k field place value around other =
      let a = if k then field_alone (mine gathered) field place value else whole (mine gathered) (reg_of c field) place around in
      let b = if k then field_alone (its others) field place value else whole (its others) (reg_of c field) place other in
      let items = items_of s d (place_at l place).port (access_ops (mine gathered) a true) in
      let more = items_of z e (place_at l place).port (access_ops (its others) b true) in
      Came (reg_of c field) (write_outcome (mine (kept k place gathered)) end.Done a items) (write_outcome (its (kept k place others)) end.Done b more)
      (state_after_all d items) (state_after_all e more)

  field_wrote : (k : Bool) (field place value around other : ℕ) → is_narrow c l field place true ≡ k → other ≡ around
      → IsWay l (item.Reg (reg_of c field)) true place → Ready (reg_of c field) → FieldWrote k field place value around other
  field_wrote true field place value around other is same at ready =
      wrote (reg_of c field) place (own_bytes field) (own_bit field) (own_value field value) end.Done gathered others _ _ ready
      (narrow_of field place (own_value field value) true at is ready)
  field_wrote false field place value around other is same at ready =
      subst (FieldWrote false field place value around) (sym same) (written_at (reg_of c field) place around at ready)

  field_write_done : (field : ℕ) (map : Option ℕ) (value place : ℕ) → Done (op.FieldWrite field map value) place (reg_of c field)
  field_write_done field map value place ready so =
      let way_is = only_ok (way (mine gathered) (item.Reg (reg_of c field)) map true) (nat_lt value (2 ^ field_width c field)) TooWide place so in
      field_wrote (is_narrow c l field place true) field place value (neutral_around c field value m) (neutral_around c field value n) refl
      (around_same c field value m n ready.belief) (way_found (mine gathered) (item.Reg (reg_of c field)) map true place way_is.0) ready

  field_came : (k : Bool) (field place : ℕ) → is_narrow c l field place false ≡ k → IsWay l (item.Reg (reg_of c field)) false place → Ready (reg_of c field)
      → let a = if k then field_alone (mine gathered) field place 0 else whole (mine gathered) (reg_of c field) place 0 in
      let b = if k then field_alone (its others) field place 0 else whole (its others) (reg_of c field) place 0 in
      let items = items_of s d (place_at l place).port (access_ops (mine gathered) a false) in
      let more = items_of z e (place_at l place).port (access_ops (its others) b false) in
      Came (reg_of c field) (read_outcome (mine (kept k place gathered)) false a items) (read_outcome (its (kept k place others)) false b more)
      (state_after_all d items) (state_after_all e more)
  field_came true field place is at ready =
      read_came false (reg_of c field) place (own_bytes field) (own_bit field) (own_value field 0) gathered others _ _ ready
      (narrow_of field place 0 false at is ready)
  field_came false field place is at ready = read_at false (reg_of c field) place at ready

  field_read_done : (field : ℕ) (map : Option ℕ) (place : ℕ) → Done (op.FieldRead field map) place (reg_of c field)
  field_read_done field map place ready so =
      in_came field (reg_of c field) _ _ _ _
      (field_came (is_narrow c l field place false) field place refl (way_found (mine gathered) (item.Reg (reg_of c field)) map false place so) ready)

  -- ---- an update

  abbrev Updated : (k j : Bool) → (reg place word other : ℕ) → Type 0
  Updated k j reg place word other =
      let items = items_of s d (place_at l place).port (if k then access_ops (mine gathered) (whole (mine gathered) reg place word) true else []) in
      let more = items_of z e (place_at l place).port (if j then access_ops (its others) (whole (its others) reg place other) true else []) in
      Came reg (if k then write_outcome (mine (forgotten l place gathered)) (end.Sent word) (whole (mine gathered) reg place word) items else quiet end.Nothing (mine gathered))
      (if j then write_outcome (its (forgotten l place others)) (end.Sent other) (whole (its others) reg place other) more else quiet end.Nothing (its others))
      (state_after_all d items) (state_after_all e more)

  updated : (k j : Bool) (reg place word other : ℕ) → j ≡ k → other ≡ word → IsWay l (item.Reg reg) true place → Ready reg → Updated k j reg place word other
  updated true true reg place word other same is at ready =
      subst (Updated true true reg place word) (sym is)
      (wrote reg place (all_bytes (size_of c reg)) every_field word (end.Sent word) (forgotten l place gathered) (forgotten l place others) _ _ ready
      (whole_of reg place word true at ready))
  updated false false reg place word other same is at ready = still end.Nothing reg gathered others d e ready (goes_nowhere reg d e (alike_in reg ready))
  updated true false reg place word other same is at ready = absurd cc
  updated false true reg place word other same is at ready = absurd cc

  update_done : (reg : ℕ) (map : Option ℕ) (place : ℕ) → Done (op.Update reg map) place reg
  update_done reg map place ready so =
      updated (needs_update m reg) (needs_update n reg) reg place (update_word_of c reg m) (update_word_of c reg n) (needs_same c reg m n ready.belief)
      (update_same c reg m n ready.belief) (way_found (mine gathered) (item.Reg reg) map true place so) ready

  -- ---- by the backdoor

  back_write_done : (reg value place : ℕ) → Done (op.BackWrite reg value) place reg
  back_write_done reg value place ready so =
      let fs = fields_of c reg in
      let x = peeked d (cell.Reg reg) in
      let v = back_written (mine gathered) reg value x in
      let same : back_written (its others) reg value (peeked e (cell.Reg reg)) ≡ v =
      ap (λ y. written fs (marks_in c n.spent reg) (owned fs y) value) (found_same reg d e (alike_in reg ready)) ∙ written_same c reg (owned fs x) value m n sound.chip ready.belief in
      subst (λ w. Came reg (quiet end.Done (taking_raw (mine gathered) reg v)) (quiet end.Done (taking_raw (its others) reg w)) (poked d (cell.Reg reg) v) (poked e (cell.Reg reg) w)) (sym same)
      (raw_came end.Done reg v (poked d (cell.Reg reg) v) (poked e (cell.Reg reg) v) ready (goes_poked reg v d e (alike_in reg ready)))

  back_read_at : (check : Bool) (reg : ℕ) → Ready reg
      → Came reg (back_outcome (mine gathered) check reg (peeked d (cell.Reg reg))) (back_outcome (its others) check reg (peeked e (cell.Reg reg)))
      (poked d (cell.Reg reg) (back_left (mine gathered) reg (peeked d (cell.Reg reg)))) (poked e (cell.Reg reg) (back_left (its others) reg (peeked e (cell.Reg reg))))
  back_read_at check reg ready =
      let fs = fields_of c reg in
      let x = peeked d (cell.Reg reg) in
      let left = back_left (mine gathered) reg x in
      subst (λ y. Came reg (back_outcome (mine gathered) check reg x) (back_outcome (its others) check reg y) (poked d (cell.Reg reg) left) (poked e (cell.Reg reg) (back_left (its others) reg y)))
      (sym (found_same reg d e (alike_in reg ready)))
      (read_comes check reg every_field (shown fs (owned fs x)) gathered others (poked d (cell.Reg reg) left) (poked e (cell.Reg reg) left) ready (goes_poked reg left d e (alike_in reg ready)))

  back_read_done : (reg place : ℕ) → Done (op.BackRead reg) place reg
  back_read_done reg place ready so = back_read_at false reg ready

  back_check_done : (reg place : ℕ) → Done (op.BackCheck reg) place reg
  back_check_done reg place ready so = back_read_at true reg ready

  peek_done : (reg place : ℕ) → Done (op.Peek reg) place reg
  peek_done reg place ready so =
      let x = peeked d (cell.Reg reg) in
      let v = owned_of (mine gathered) reg x in
      subst (λ y. Came reg (quiet (end.Value v) (taking_raw (mine gathered) reg v)) (quiet (end.Value (owned_of (its others) reg y)) (taking_raw (its others) reg (owned_of (its others) reg y))) d e)
      (sym (found_same reg d e (alike_in reg ready))) (raw_came (end.Value v) reg v d e ready (goes_nowhere reg d e (alike_in reg ready)))

  poke_done : (reg value place : ℕ) → Done (op.Poke reg value) place reg
  poke_done reg value place ready so =
      raw_came end.Done reg value (poked d (cell.Reg reg) value) (poked e (cell.Reg reg) value) ready (goes_poked reg value d e (alike_in reg ready))

  -- ---- without an item

  set_done : (field value place : ℕ) → Done (op.Set field value) place (reg_of c field)
  set_done field value place ready so = record {
    end = refl;
    differ = refl;
    chip = refl;
    layout = refl;
    belief = set_same c field value m n ready.size ready.other_size ready.belief;
    beside = λ r apart. set_other c field value r m apart;
    size = set_size c field value m ready.size;
    goes = goes_nowhere (reg_of c field) d e (alike_in (reg_of c field) ready);
  }

  show_done : (reg place : ℕ) → Done (op.Show reg) place reg
  show_done reg place ready so = still end.Done reg gathered others d e ready (goes_nowhere reg d e (alike_in reg ready))

  hw_done : (field value place : ℕ) → Done (op.Hw field value) place (reg_of c field)
  hw_done field value place ready so =
      let q = reg_of c field in
      still end.Done q gathered others (hw_set d field value) (hw_set e field value) ready
      (goes_set c l g h field value d e ready.devices.setup ready.devices.other_setup (alike_in q ready))

  -- each operation on a register
  done_in : (o : Op) (place : ℕ) → IfSome (register_of c o) (Done o place)
  done_in (op.Write reg map value) place = write_done reg map value place
  done_in (op.Read reg map) place = read_done reg map place
  done_in (op.Mirror reg map) place = mirror_done reg map place
  done_in (op.Check reg map) place = check_done reg map place
  done_in (op.FieldWrite field map value) place = field_write_done field map value place
  done_in (op.FieldRead field map) place = field_read_done field map place
  done_in (op.Set field value) place = set_done field value place
  done_in (op.Show reg) place = show_done reg place
  done_in (op.Update reg map) place = update_done reg map place
  done_in (op.BackWrite reg value) place = back_write_done reg value place
  done_in (op.BackRead reg) place = back_read_done reg place
  done_in (op.BackCheck reg) place = back_check_done reg place
  done_in (op.Peek reg) place = peek_done reg place
  done_in (op.Poke reg value) place = poke_done reg value place
  done_in (op.MemWrite mem map index value) place = tt
  done_in (op.MemRead mem map index) place = tt
  done_in (op.MemCheck mem map index value) place = tt
  done_in (op.BurstWrite mem map start count) place = tt
  done_in (op.BurstRead mem map start count) place = tt
  done_in (op.MemPeek mem index) place = tt
  done_in (op.MemPoke mem index value) place = tt
  done_in (op.OtherWrite reg map value) place = other_write_done reg map value place
  done_in (op.OtherRead reg map) place = other_read_done reg map place
  done_in (op.Hw field value) place = hw_done field value place
  done_in (op.Reset kind) place = tt

  pub done_on : (o : Op) (place q : ℕ) → register_of c o ≡ Some q → Done o place q
  done_on o place q is = subst (λ r. IfSome r (Done o place)) is (done_in o place)

  -- ---- memories

  abbrev Devices : Type 0
  Devices = AreDevices (bare c l) g h d e

  abbrev Left : (x y : Outcome) → (after other : State) → Type 0
  Left x y after other = Leaves c l m d x y after other

  left_with : (x y : Outcome) (after other : State) → y.end ≡ x.end → y.differ ≡ x.differ → x.model ≡ mine gathered → LeavesRegisters d after
      → other.locations ≡ after.locations → Devices → Left x y after other
  left_with x y after other ends differs model leaves same are = record {
    end = ends;
    differ = differs;
    chip = ap (λ (k : ModelData). k.chip) model;
    layout = ap (λ (k : ModelData). k.layout) model;
    mirror = ap (λ (k : ModelData). k.mirror) model;
    setup = leaves.setup;
    size = ap length leaves.bits;
    mark_size = ap length leaves.marks;
    bits = λ q. ap (λ xs. slice_index xs q) leaves.bits;
    marks = λ q. ap (λ xs. slice_index xs q) leaves.marks;
    locations = same;
    beats = λ p a. leaves.beats p a ∙ are.beats p a;
  }

  left_here : (x y : Outcome) → y.end ≡ x.end → y.differ ≡ x.differ → x.model ≡ mine gathered → e.locations ≡ d.locations → Devices → Left x y d e
  left_here x y ends differs model same are =
      left_with x y d e ends differs model (record { setup = refl; bits = refl; marks = refl; beats = λ p a. refl }) same are

  not_reg : (mem index q : ℕ) → cell.Loc mem index ≡ cell.Reg q → ⊥
  not_reg mem index q is = cc

  left_by : (mem index : ℕ) (x y : Outcome) (items more : List TraceItem) → Swept (cell.Loc mem index) d e items more → y.end ≡ x.end → y.differ ≡ x.differ
      → x.model ≡ mine gathered → Left (or_error (failed_at items) (mine gathered) x) (or_error (failed_at more) (its others) y) (state_after_all d items) (state_after_all e more)
  left_by mem index x y items more sw ends differs model =
      subst (λ u. Left u (or_error (failed_at more) (its others) y) (state_after_all d items) (state_after_all e more)) (sym (good_is items (mine gathered) x sw.fine))
      (subst (λ u. Left x u (state_after_all d items) (state_after_all e more)) (sym (good_is more (its others) y sw.other_fine))
      (record {
        end = ends;
        differ = differs;
        chip = ap (λ (k : ModelData). k.chip) model;
        layout = ap (λ (k : ModelData). k.layout) model;
        mirror = ap (λ (k : ModelData). k.mirror) model;
        setup = sw.touches.setup;
        size = sw.touches.size;
        mark_size = sw.touches.mark_size;
        bits = λ q. sw.touches.bits q (not_reg mem index q);
        marks = λ q. sw.touches.marks q (not_reg mem index q);
        locations = sw.same.locations mem index refl;
        beats = sw.beats;
      }))

  location_of : (mem place index value : ℕ) (write : Bool) → IsWay l (item.Mem mem) write place → index < memory_size c mem → Devices → e.locations ≡ d.locations
      → Swept (cell.Loc mem index) d e (items_of s d (place_at l place).port (ops_of l place index (all_bytes (location_size c mem)) value write))
      (items_of z e (place_at l place).port (ops_of l place index (all_bytes (location_size c mem)) value write))
  location_of mem place index value write at inside are same = location_swept c l sound g h first second mem place index value write s z d e at inside are same

  abbrev OnMemory : Op → ℕ → Type 0
  OnMemory o place =
      Devices → e.locations ≡ d.locations → grant (mine gathered) o ≡ Ok place
      → Left (outcome (mine gathered) o place (found_by d o) (items_mine o place)) (outcome (its others) o place (found_by e o) (items_its o place))
      (device_after (mine gathered) o (found_by d o) (items_mine o place) d) (device_after (its others) o (found_by e o) (items_its o place) e)

  mem_write : (mem : ℕ) (map : Option ℕ) (index value place : ℕ) → OnMemory (op.MemWrite mem map index value) place
  mem_write mem map index value place are same so =
      let along = way (mine gathered) (item.Mem mem) map true in
      let fits = only_ok (at_location (mine gathered) mem index (writable (mine gathered) mem along)) (nat_lt value (256 ^ item_size c (item.Mem mem))) TooWide place so in
      let inside = only_ok (writable (mine gathered) mem along) (nat_lt index (memory_size c mem)) OutOfRange place fits.0 in
      let open_to = only_ok along (is_writable c mem) NotWritable place inside.0 in
      left_by mem index (quiet end.Done (mine gathered)) (quiet end.Done (its others)) _ _
      (location_of mem place index value true (way_found (mine gathered) (item.Mem mem) map true place open_to.0) (ltb-true index (memory_size c mem) inside.1) are same) refl refl refl

  mem_read : (mem : ℕ) (map : Option ℕ) (index place : ℕ) → OnMemory (op.MemRead mem map index) place
  mem_read mem map index place are same so =
      let inside = only_ok (way (mine gathered) (item.Mem mem) map false) (nat_lt index (memory_size c mem)) OutOfRange place so in
      let sw = location_of mem place index 0 false (way_found (mine gathered) (item.Mem mem) map false place inside.0) (ltb-true index (memory_size c mem) inside.1) are same in
      left_by mem index (quiet (end.Value (location_value (mine gathered) mem place index (items_mine (op.MemRead mem map index) place))) (mine gathered))
      (quiet (end.Value (location_value (its others) mem place index (items_its (op.MemRead mem map index) place))) (its others)) _ _ sw
      (ap (λ ws. end.Value (joined l place index (all_bytes (location_size c mem)) ws)) sw.words) refl refl

  abbrev checked : ModelData → (value read : ℕ) → Outcome
  checked model value read = record { end = end.Value read; model = model; differ = if read == value then 0 else 1 }

  mem_check : (mem : ℕ) (map : Option ℕ) (index value place : ℕ) → OnMemory (op.MemCheck mem map index value) place
  mem_check mem map index value place are same so =
      let along = way (mine gathered) (item.Mem mem) map false in
      let fits = only_ok (at_location (mine gathered) mem index along) (nat_lt value (256 ^ item_size c (item.Mem mem))) TooWide place so in
      let inside = only_ok along (nat_lt index (memory_size c mem)) OutOfRange place fits.0 in
      let sw = location_of mem place index 0 false (way_found (mine gathered) (item.Mem mem) map false place inside.0) (ltb-true index (memory_size c mem) inside.1) are same in
      let read = location_value (mine gathered) mem place index (items_mine (op.MemCheck mem map index value) place) in
      let other = location_value (its others) mem place index (items_its (op.MemCheck mem map index value) place) in
      let same_read : other ≡ read = ap (joined l place index (all_bytes (location_size c mem))) sw.words in
      left_by mem index (checked (mine gathered) value read) (checked (its others) value other) _ _ sw
      (ap end.Value same_read) (ap (λ v. if v == value then 0 else 1) same_read) refl

  mem_peek : (mem index place : ℕ) → OnMemory (op.MemPeek mem index) place
  mem_peek mem index place are same so =
      left_here (quiet (end.Value (low_bytes (location_size c mem) (peeked d (cell.Loc mem index)))) (mine gathered))
      (quiet (end.Value (low_bytes (location_size c mem) (peeked e (cell.Loc mem index)))) (its others))
      (ap (λ v. end.Value (low_bytes (location_size c mem) v)) (location_same c l g h mem index d e are.setup are.other_setup same)) refl refl same are

  mem_poke : (mem index value place : ℕ) → OnMemory (op.MemPoke mem index value) place
  mem_poke mem index value place are same so =
      left_with (quiet end.Done (mine gathered)) (quiet end.Done (its others)) (poked d (cell.Loc mem index) value) (poked e (cell.Loc mem index) value) refl refl refl
      (poke_leaves mem index value d) (poke_same c l g h mem index value d e are.setup are.other_setup same) are

  burst : (o : Op) (place : ℕ) → Devices → e.locations ≡ d.locations → Left (quiet end.Done (mine gathered)) (quiet end.Done (its others)) d e
  burst o place are same = left_here (quiet end.Done (mine gathered)) (quiet end.Done (its others)) refl refl refl same are

  -- each operation on a memory
  pub memory_in : (o : Op) (place : ℕ) → is_of_memory o ≡ true → OnMemory o place
  memory_in (op.MemWrite mem map index value) place is = mem_write mem map index value place
  memory_in (op.MemRead mem map index) place is = mem_read mem map index place
  memory_in (op.MemCheck mem map index value) place is = mem_check mem map index value place
  memory_in (op.BurstWrite mem map start count) place is = λ are same so. burst (op.BurstWrite mem map start count) place are same
  memory_in (op.BurstRead mem map start count) place is = λ are same so. burst (op.BurstRead mem map start count) place are same
  memory_in (op.MemPeek mem index) place is = mem_peek mem index place
  memory_in (op.MemPoke mem index value) place is = mem_poke mem index value place
  memory_in _ place is = absurd cc

  pub left_refused : (why : End) → e.locations ≡ d.locations → Devices → Left (quiet why (mine gathered)) (quiet why (its others)) d e
  left_refused why same are = left_here (quiet why (mine gathered)) (quiet why (its others)) refl refl refl same are
