-- What comes of one operation on a register of which no flaw changes a compared field: no field differs, and no item fails.
use Rattle.std.proofs.Common.{◌≡◌, ℕ, ◌-◌, ◌^◌, ◌&&◌, Bool, true, false, if◌then◌else◌, List, [], Option, Some, None, IfSome, Ok, refl, sym, ap, subst, ◌∙◌, arith}
use Rattle.std.specs.Prelude.{nat_lt}
use Rattle.std.specs.List.{position_from}
use Rattle.std.proofs.lemmas.Iterator.Adapters.{position_from-zero}
use Rattle.rl_policy.proofs.BitLemmas.{bit-max}
use Rattle.rl_policy.specs.Bits.{bit, from_bits, put_bit}
use Rattle.rl_bus.specs.declared.table.Cell.TheVariants as cell
use Rattle.rl_bus.specs.Setup.{Flaws}
use Rattle.rl_bus.specs.Standing.{Standing}
use Rattle.rl_bus.specs.State.{State, peeked, poked}
use Rattle.rl_model.specs.declared.rows.Field.{Field}
use Rattle.rl_model.specs.Fields.{field_of, first_of, size_of}
use Rattle.rl_model.specs.Rows.{ChipData}
use Rattle.rl_model.specs.declared.rows.Item.TheVariants as item
use Rattle.rl_map.specs.Layout.{LayoutData, place_at}
use Rattle.rl_mirror.proofs.FieldLemmas.{field_list}
use Rattle.rl_mirror.specs.Compared.{differ}
use Rattle.rl_mirror.specs.Mirror.{MirrorData, mirrored_of}
use Rattle.rl_mirror.specs.Prediction.{needs_update, neutral_around, predict_read, predict_write, set as set_field, update_word_of}
use Rattle.rl_split.specs.Access.{all_bytes, joined, ops_of}
use Rattle.rl_split.specs.Narrow.{bytes_of_field, is_narrow}
use Rattle.rl_access.specs.declared.event.End.{End}
use Rattle.rl_access.specs.declared.event.End.TheVariants as end
use Rattle.rl_access.specs.declared.event.Op.{Op}
use Rattle.rl_access.specs.declared.event.Op.TheVariants as op
use Rattle.rl_access.specs.declared.event.Refused.TheVariants.{NotVolatile, TooWide}
use Rattle.rl_access.specs.declared.predictor.Gathered.{Gathered}
use Rattle.rl_access.specs.declared.trace.TraceItem.{TraceItem}
use Rattle.rl_access.specs.Items.{failed_at, items_of, port_for, state_after_all, words_answered}
use Rattle.rl_access.specs.Model.{ModelData}
use Rattle.rl_access.specs.Operation.{reg_of, register_of}
use Rattle.rl_access.specs.Rules.{Outcome, access_ops, back_left, back_outcome, back_written, device_after, end_in_field, every_field, field_alone, field_width, forgotten}
use Rattle.rl_access.specs.Rules.{found_by, grant, in_field, item_size, only_where, or_error, outcome, quiet, read_outcome, sends, taking_raw, watched_way, way, whole, write_outcome}
use Rattle.rl_access.specs.Tally.{is_bus_error}
use Rattle.rl_access.proofs.Granted.{IsWay, only_ok, watched_way_found, way_found}
use Rattle.rl_grade.proofs.HiddenFlaws.{bare}
use Rattle.rl_grade.proofs.Related.{flawed}
use Rattle.rl_grade.proofs.TogetherAccess.{AreDevices, AreSound, narrow_swept, whole_swept}
use Rattle.rl_grade.proofs.TogetherBeliefs.{HasSize}
use Rattle.rl_grade.proofs.TogetherItems.{fails, reg_same}
use Rattle.rl_grade.proofs.TogetherMakeup.{IsCalm, same_makeup}
use Rattle.rl_grade.proofs.TogetherOutcomes.{modelled}
use Rattle.rl_grade.proofs.UncheckedAccess.{Agrees, IsDevice, IsRead, IsSpared, back_read_agrees, hw_agrees, peek_agrees, poke_agrees, was_read, wrote}
use Rattle.rl_grade.proofs.UncheckedBeliefs.{IsComparedBit, inside_it, nothing_found}
use Rattle.rl_grade.proofs.UncheckedReach.{Reaches, narrow_reaches, whole_reaches}

-- It shows nothing, and what is believed of the compared fields is so in the device.
pub record IsQuiet (c : ChipData) (r : ℕ) (x : Outcome) (after : State) : Type 0 where
  pub differ : x.differ ≡ 0
  pub error : is_bus_error x.end ≡ false
  pub agrees : Agrees c r after x.model.mirror

pub record IsReady (c : ChipData) (l : LayoutData) (g : Flaws) (r : ℕ) (m : MirrorData) (d : State) : Type 0 where
  pub device : IsDevice c l g d
  pub size : HasSize c m
  pub agrees : Agrees c r d m

-- a chosen test finds nothing
if_none : (check : Bool) (n : ℕ) → (check ≡ true → n ≡ 0) → (if check then n else 0) ≡ 0
if_none true n h = h refl
if_none false n h = refl

no_error : (e : End) (f : Field) → is_bus_error e ≡ false → is_bus_error (end_in_field f e) ≡ false
no_error end.Done f h = refl
no_error (end.Value value) f h = refl
no_error (end.Sent word) f h = refl
no_error end.Nothing f h = refl
no_error (end.BusError word) f h = h
no_error (end.Refused why) f h = refl

module _ (c : ChipData) (l : LayoutData) (sound : AreSound c l) (g : Flaws) (calm : IsCalm (flawed (bare c l) g)) (m : MirrorData) (gathered : List Gathered)
    (s : Standing) (d : State) where
  abbrev mine : List Gathered → ModelData
  mine words = modelled c l m words

  abbrev Ready : ℕ → Type 0
  Ready q = IsReady c l g q m d

  abbrev Spared : ℕ → Type 0
  Spared q = IsSpared c l g q

  abbrev Quiet : ℕ → Outcome → State → Type 0
  Quiet q x after = IsQuiet c q x after

  abbrev AreFine : List TraceItem → Type 0
  AreFine items = (k : ℕ) → position_from fails k items ≡ None

  abbrev sent : (place chosen value : ℕ) → Bool → List TraceItem
  sent place chosen value write = items_of s d (place_at l place).port (ops_of l place 0 chosen value write)

  good_is : (items : List TraceItem) (model : ModelData) (x : Outcome) → AreFine items → or_error (failed_at items) model x ≡ x
  good_is items model x fine = ap (λ o. or_error o model x) (position_from-zero fails items ∙ fine 0)

  devices : IsDevice c l g d → AreDevices (bare c l) g g d d
  devices is = record { setup = is.setup; other_setup = is.setup; beats = is.beats; other_beats = is.beats; size = record { bits = refl; marks = refl } }

  -- ---- accesses over the bus

  wrote_quiet : (reg place chosen fields value : ℕ) (good : End) (words : List Gathered) → is_bus_error good ≡ false → Spared reg → Ready reg
      → Reaches c l place reg chosen value true fields → AreFine (sent place chosen value true)
      → Quiet reg (write_outcome (mine words) good (record { reg = reg; place = place; chosen = chosen; fields = fields; value = value }) (sent place chosen value true))
      (state_after_all d (sent place chosen value true))
  wrote_quiet reg place chosen fields value good words ends spared ready reaches fine =
      let items = sent place chosen value true in
      let x : Outcome = quiet good (modelled c l (predict_write c reg value fields m) words) in
      subst (λ u. Quiet reg u (state_after_all d items)) (sym (good_is items (mine words) x fine)) (record {
        differ = refl;
        error = ends;
        agrees = wrote c l sound g calm reg spared place chosen value fields s d m reaches ready.device ready.size ready.agrees;
      })

  abbrev read_as : List Gathered → Bool → (reg fields value : ℕ) → Outcome
  read_as words check reg fields value = record {
    end = end.Value value;
    model = modelled c l (predict_read c reg value fields m) words;
    differ = if check then differ c reg value m else 0;
  }

  -- it is checked only where each field is read
  abbrev ChecksAll : Bool → (reg fields : ℕ) → Type 0
  ChecksAll check reg fields = check ≡ true → (b k : ℕ) → IsComparedBit c reg b k → bit fields k ≡ true

  read_comes : (check : Bool) (reg fields value : ℕ) (words : List Gathered) (after : State) → Spared reg → ChecksAll check reg fields → IsRead c reg fields value m after
      → Quiet reg (read_as words check reg fields value) after
  read_comes check reg fields value words after spared all read = record {
    differ = if_none check (differ c reg value m) (λ on.
        nothing_found c reg value m sound.chip spared.there (λ b k one. read.bits b k one ∙ ap (λ a. a && bit (mirrored_of m reg) b) (all on b k one)));
    error = refl;
    agrees = read.agrees;
  }

  read_quiet : (check : Bool) (reg place chosen fields value : ℕ) (words : List Gathered) → Spared reg → Ready reg → ChecksAll check reg fields
      → Reaches c l place reg chosen 0 false fields → AreFine (sent place chosen 0 false)
      → Quiet reg (read_outcome (mine words) check (record { reg = reg; place = place; chosen = chosen; fields = fields; value = value }) (sent place chosen 0 false))
      (state_after_all d (sent place chosen 0 false))
  read_quiet check reg place chosen fields value words spared ready all reaches fine =
      let items = sent place chosen 0 false in
      let got = joined l place 0 chosen (words_answered items) in
      subst (λ u. Quiet reg u (state_after_all d items)) (sym (good_is items (mine words) (read_as words check reg fields got) fine))
      (read_comes check reg fields got words (state_after_all d items) spared all
      (was_read c l sound g calm reg spared place chosen fields s d m reaches ready.device ready.size ready.agrees))

  -- ---- of the whole register

  whole_fine : (reg place value : ℕ) (write : Bool) → IsWay l (item.Reg reg) write place → Ready reg → AreFine (sent place (all_bytes (size_of c reg)) value write)
  whole_fine reg place value write at ready =
      let sw = whole_swept c l sound g g calm calm reg place value write s s d d at (same_makeup (flawed (bare c l) g) reg) (devices ready.device) (reg_same reg d d refl refl) in
      sw.fine

  narrow_fine : (field place value : ℕ) (write : Bool) → IsWay l (item.Reg (reg_of c field)) write place → is_narrow c l field place write ≡ true → Ready (reg_of c field)
      → AreFine (sent place (bytes_of_field (field_of c field).shape) value write)
  narrow_fine field place value write at is ready =
      let q = reg_of c field in
      let sw = narrow_swept c l sound g g calm calm field place value write s s d d at is (same_makeup (flawed (bare c l) g) q) (devices ready.device) (reg_same q d d refl refl) in
      sw.fine

  written_at : (reg place value : ℕ) (good : End) (words : List Gathered) → is_bus_error good ≡ false → IsWay l (item.Reg reg) true place → Spared reg → Ready reg
      → Quiet reg (write_outcome (mine words) good (whole (mine words) reg place value) (sent place (all_bytes (size_of c reg)) value true))
      (state_after_all d (sent place (all_bytes (size_of c reg)) value true))
  written_at reg place value good words ends at spared ready =
      wrote_quiet reg place (all_bytes (size_of c reg)) every_field value good words ends spared ready (whole_reaches c l reg place value true sound spared.there at)
      (whole_fine reg place value true at ready)

  every : (check : Bool) (reg : ℕ) → Spared reg → ChecksAll check reg every_field
  every check reg spared on b k one = bit-max k (omega (arith, inside_it c reg b k one, (field_list c reg sound.chip spared.there).few))

  read_at : (check : Bool) (reg place : ℕ) (words : List Gathered) → IsWay l (item.Reg reg) false place → Spared reg → Ready reg
      → Quiet reg (read_outcome (mine words) check (whole (mine words) reg place 0) (sent place (all_bytes (size_of c reg)) 0 false))
      (state_after_all d (sent place (all_bytes (size_of c reg)) 0 false))
  read_at check reg place words at spared ready =
      read_quiet check reg place (all_bytes (size_of c reg)) every_field 0 words spared ready (every check reg spared)
      (whole_reaches c l reg place 0 false sound spared.there at) (whole_fine reg place 0 false at ready)

  abbrev items_mine : Op → ℕ → List TraceItem
  items_mine o place = items_of s d (port_for l place) (sends (mine gathered) o place)

  abbrev Done : Op → (place q : ℕ) → Type 0
  Done o place q =
      Spared q → Ready q → grant (mine gathered) o ≡ Ok place
      → Quiet q (outcome (mine gathered) o place (found_by d o) (items_mine o place)) (device_after (mine gathered) o (found_by d o) (items_mine o place) d)

  write_done : (reg : ℕ) (map : Option ℕ) (value place : ℕ) → Done (op.Write reg map value) place reg
  write_done reg map value place spared ready so =
      let way_is = only_ok (way (mine gathered) (item.Reg reg) map true) (nat_lt value (256 ^ item_size c (item.Reg reg))) TooWide place so in
      written_at reg place value end.Done (forgotten l place gathered) refl (way_found (mine gathered) (item.Reg reg) map true place way_is.0) spared ready

  read_done : (reg : ℕ) (map : Option ℕ) (place : ℕ) → Done (op.Read reg map) place reg
  read_done reg map place spared ready so =
      read_at false reg place (forgotten l place gathered) (way_found (mine gathered) (item.Reg reg) map false place so) spared ready

  mirror_done : (reg : ℕ) (map : Option ℕ) (place : ℕ) → Done (op.Mirror reg map) place reg
  mirror_done reg map place spared ready so =
      read_at false reg place (forgotten l place gathered) (way_found (mine gathered) (item.Reg reg) map false place so) spared ready

  check_done : (reg : ℕ) (map : Option ℕ) (place : ℕ) → Done (op.Check reg map) place reg
  check_done reg map place spared ready so =
      read_at true reg place (forgotten l place gathered) (way_found (mine gathered) (item.Reg reg) map false place so) spared ready

  other_write_done : (reg : ℕ) (map : Option ℕ) (value place : ℕ) → Done (op.OtherWrite reg map value) place reg
  other_write_done reg map value place spared ready so =
      let way_is = only_ok (watched_way (mine gathered) reg map true) (nat_lt value (256 ^ item_size c (item.Reg reg))) TooWide place so in
      written_at reg place value end.Done (forgotten l place gathered) refl (watched_way_found (mine gathered) reg map true place way_is.0).way spared ready

  other_read_done : (reg : ℕ) (map : Option ℕ) (place : ℕ) → Done (op.OtherRead reg map) place reg
  other_read_done reg map place spared ready so =
      read_at false reg place (forgotten l place gathered) (watched_way_found (mine gathered) reg map false place so).way spared ready

  -- ---- of one field

  abbrev kept : Bool → ℕ → List Gathered → List Gathered
  kept k place words = if k then words else forgotten l place words

  abbrev own_value : (field value : ℕ) → ℕ
  own_value field value = from_bits 64 (put_bit (field_of c field).shape.lsb (field_of c field).shape.width (bit value) (bit 0))

  field_wrote : (k : Bool) (field place value around : ℕ) → is_narrow c l field place true ≡ k → IsWay l (item.Reg (reg_of c field)) true place
      → Spared (reg_of c field) → Ready (reg_of c field)
      → let a = if k then field_alone (mine gathered) field place value else whole (mine gathered) (reg_of c field) place around in
      let items = items_of s d (place_at l place).port (access_ops (mine gathered) a true) in
      Quiet (reg_of c field) (write_outcome (mine (kept k place gathered)) end.Done a items) (state_after_all d items)
  field_wrote true field place value around is at spared ready =
      wrote_quiet (reg_of c field) place (bytes_of_field (field_of c field).shape) (2 ^ (field - first_of c (reg_of c field))) (own_value field value) end.Done gathered refl spared ready
      (narrow_reaches c l field place (own_value field value) true sound at is) (narrow_fine field place (own_value field value) true at is ready)
  field_wrote false field place value around is at spared ready =
      written_at (reg_of c field) place around end.Done (forgotten l place gathered) refl at spared ready

  field_write_done : (field : ℕ) (map : Option ℕ) (value place : ℕ) → Done (op.FieldWrite field map value) place (reg_of c field)
  field_write_done field map value place spared ready so =
      let way_is = only_ok (way (mine gathered) (item.Reg (reg_of c field)) map true) (nat_lt value (2 ^ field_width c field)) TooWide place so in
      field_wrote (is_narrow c l field place true) field place value (neutral_around c field value m) refl
      (way_found (mine gathered) (item.Reg (reg_of c field)) map true place way_is.0) spared ready

  in_quiet : (field q : ℕ) (x : Outcome) (after : State) → Quiet q x after → Quiet q (in_field c field x) after
  in_quiet field q x after came = record { differ = came.differ; error = no_error x.end (field_of c field).shape came.error; agrees = came.agrees }

  field_came : (k : Bool) (field place : ℕ) → is_narrow c l field place false ≡ k → IsWay l (item.Reg (reg_of c field)) false place
      → Spared (reg_of c field) → Ready (reg_of c field)
      → let a = if k then field_alone (mine gathered) field place 0 else whole (mine gathered) (reg_of c field) place 0 in
      let items = items_of s d (place_at l place).port (access_ops (mine gathered) a false) in
      Quiet (reg_of c field) (read_outcome (mine (kept k place gathered)) false a items) (state_after_all d items)
  field_came true field place is at spared ready =
      read_quiet false (reg_of c field) place (bytes_of_field (field_of c field).shape) (2 ^ (field - first_of c (reg_of c field))) (own_value field 0) gathered spared ready (λ on. absurd cc)
      (narrow_reaches c l field place 0 false sound at is) (narrow_fine field place 0 false at is ready)
  field_came false field place is at spared ready = read_at false (reg_of c field) place (forgotten l place gathered) at spared ready

  field_read_done : (field : ℕ) (map : Option ℕ) (place : ℕ) → Done (op.FieldRead field map) place (reg_of c field)
  field_read_done field map place spared ready so =
      in_quiet field (reg_of c field) _ _
      (field_came (is_narrow c l field place false) field place refl (way_found (mine gathered) (item.Reg (reg_of c field)) map false place so) spared ready)

  -- ---- an update

  still : (good : End) (q : ℕ) → is_bus_error good ≡ false → Ready q → Quiet q (quiet good (mine gathered)) d
  still good q ends ready = record { differ = refl; error = ends; agrees = ready.agrees }

  updated : (k : Bool) (reg place word : ℕ) → IsWay l (item.Reg reg) true place → Spared reg → Ready reg
      → let items = items_of s d (place_at l place).port (if k then access_ops (mine gathered) (whole (mine gathered) reg place word) true else []) in
      Quiet reg (if k then write_outcome (mine (forgotten l place gathered)) (end.Sent word) (whole (mine gathered) reg place word) items else quiet end.Nothing (mine gathered))
      (state_after_all d items)
  updated true reg place word at spared ready = written_at reg place word (end.Sent word) (forgotten l place gathered) refl at spared ready
  updated false reg place word at spared ready = still end.Nothing reg refl ready

  update_done : (reg : ℕ) (map : Option ℕ) (place : ℕ) → Done (op.Update reg map) place reg
  update_done reg map place spared ready so =
      updated (needs_update m reg) reg place (update_word_of c reg m) (way_found (mine gathered) (item.Reg reg) map true place so) spared ready

  -- ---- by the backdoor

  raw_quiet : (good : End) (q v : ℕ) → is_bus_error good ≡ false → Spared q → Ready q → Quiet q (quiet good (taking_raw (mine gathered) q v)) (poked d (cell.Reg q) v)
  raw_quiet good q v ends spared ready =
      record { differ = refl; error = ends; agrees = poke_agrees c l sound g calm q spared v d m ready.device ready.size ready.agrees }

  back_write_done : (reg value place : ℕ) → Done (op.BackWrite reg value) place reg
  back_write_done reg value place spared ready so = raw_quiet end.Done reg (back_written (mine gathered) reg value (peeked d (cell.Reg reg))) refl spared ready

  back_read_at : (check : Bool) (reg : ℕ) → Spared reg → Ready reg
      → Quiet reg (back_outcome (mine gathered) check reg (peeked d (cell.Reg reg))) (poked d (cell.Reg reg) (back_left (mine gathered) reg (peeked d (cell.Reg reg))))
  back_read_at check reg spared ready =
      read_comes check reg every_field _ gathered _ spared (every check reg spared) (back_read_agrees c l sound g calm reg spared d m ready.device ready.size ready.agrees)

  back_read_done : (reg place : ℕ) → Done (op.BackRead reg) place reg
  back_read_done reg place spared ready so = back_read_at false reg spared ready

  back_check_done : (reg place : ℕ) → Done (op.BackCheck reg) place reg
  back_check_done reg place spared ready so = back_read_at true reg spared ready

  peek_done : (reg place : ℕ) → Done (op.Peek reg) place reg
  peek_done reg place spared ready so =
      record { differ = refl; error = refl; agrees = peek_agrees c l sound g calm reg spared d m ready.size ready.agrees }

  poke_done : (reg value place : ℕ) → Done (op.Poke reg value) place reg
  poke_done reg value place spared ready so = raw_quiet end.Done reg value refl spared ready

  -- ---- without an item

  set_agrees : (field value q : ℕ) → Agrees c q d m → Agrees c q d (set_field c field value m)
  unfolding set_field
  set_agrees field value q agrees = record { bits = agrees.bits; marks = agrees.marks }

  set_done : (field value place : ℕ) → Done (op.Set field value) place (reg_of c field)
  set_done field value place spared ready so = record { differ = refl; error = refl; agrees = set_agrees field value (reg_of c field) ready.agrees }

  show_done : (reg place : ℕ) → Done (op.Show reg) place reg
  show_done reg place spared ready so = still end.Done reg refl ready

  hw_done : (field value place : ℕ) → Done (op.Hw field value) place (reg_of c field)
  hw_done field value place spared ready so =
      let fits = only_ok (only_where (Ok 0) (field_of c field).shape.volatile NotVolatile) (nat_lt value (2 ^ field_width c field)) TooWide place so in
      let moves = only_ok (Ok 0) (field_of c field).shape.volatile NotVolatile place fits.0 in
      record { differ = refl; error = refl; agrees = hw_agrees c l sound g calm (reg_of c field) spared field value d m ready.device refl moves.1 ready.agrees }

  -- each operation on a register
  done_in : (o : Op) (place : ℕ) → IfSome (register_of c o) (Done o place)
  done_in (op.Write reg map value) place = write_done reg map value place
  done_in (op.Read reg map) place = read_done reg map place
  done_in (op.Mirror reg map) place = mirror_done reg map place
  done_in (op.Check reg map) place = check_done reg map place
  done_in (op.FieldWrite field map value) place = field_write_done field map value place
  done_in (op.FieldRead field map) place = field_read_done field map place
  done_in (op.Set field value) place = set_done field value place
  done_in (op.Show reg) place = show_done reg place
  done_in (op.Update reg map) place = update_done reg map place
  done_in (op.BackWrite reg value) place = back_write_done reg value place
  done_in (op.BackRead reg) place = back_read_done reg place
  done_in (op.BackCheck reg) place = back_check_done reg place
  done_in (op.Peek reg) place = peek_done reg place
  done_in (op.Poke reg value) place = poke_done reg value place
  done_in (op.MemWrite mem map index value) place = tt
  done_in (op.MemRead mem map index) place = tt
  done_in (op.MemCheck mem map index value) place = tt
  done_in (op.BurstWrite mem map start count) place = tt
  done_in (op.BurstRead mem map start count) place = tt
  done_in (op.MemPeek mem index) place = tt
  done_in (op.MemPoke mem index value) place = tt
  done_in (op.OtherWrite reg map value) place = other_write_done reg map value place
  done_in (op.OtherRead reg map) place = other_read_done reg map place
  done_in (op.Hw field value) place = hw_done field value place
  done_in (op.Reset kind) place = tt

  pub quiet_on : (o : Op) (place q : ℕ) → register_of c o ≡ Some q → Done o place q
  quiet_on o place q is = subst (λ r. IfSome r (Done o place)) is (done_in o place)
