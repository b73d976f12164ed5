-- An access to a field is one step of its register.
use Rattle.std.proofs.Common.{◌≡◌, ◌<◌, ℕ, ap, Option, None, Bool, true, List, length, refl, false}
use Rattle.std.specs.Prelude.{if◌then◌else◌}
use Rattle.rl_bus.specs.State.{State}
use Rattle.rl_model.specs.Fields.{fields_of, field_of}
use Rattle.rl_split.specs.Law.{IsWrite, IsRead}
use Rattle.rl_split.specs.Step.{Register, every}
use Rattle.rl_split.proofs.Accesses.{narrow_write_is_step, narrow_read_is_step}
use Rattle.rl_mirror.specs.Fields.{part_of}
use Rattle.rl_mirror.specs.Prediction.{neutral_around}
use Rattle.rl_mirror.proofs.FieldLemmas.{seated}
use Rattle.rl_access.specs.Call.{Scene, IsDone}
use Rattle.rl_access.specs.Items.{failed_at, words_answered}
use Rattle.rl_access.specs.Model.{ModelData, IsModel}
use Rattle.rl_access.specs.Operation.{reg_of}
use Rattle.rl_access.specs.Rules.{whole, is_alone, forgetting_field, access_ops, sends, outcome, field_alone, write_outcome, every_field, read_outcome, Outcome, end_in_field}
use Rattle.rl_access.specs.declared.event.Event.{Event}
use Rattle.rl_access.specs.declared.trace.TraceItem.{TraceItem}
use Rattle.rl_plain.specs.OneStep.{Meets, own_field, reached_fields, field_word}
use Rattle.rl_plain.proofs.Accesses.{IsStepped, writes, end_in, model_in, differ_of, whole_written, reads, whole_shown}
use Rattle.rl_plain.proofs.Answered.{IsOverBus}
use Rattle.rl_plain.proofs.Followed.{write_follows, field_entry, own_chosen, all_chosen, read_follows}
use Rattle.rl_plain.proofs.Granted.{IsWay, place_for}
use Rattle.rl_plain.proofs.Outcomes.{good_write, narrow_word, narrow_fields, narrow_write_is, whole_write_is, narrow_value, good_read, narrow_read_is, whole_value, whole_read_is}
use Rattle.rl_plain.proofs.Registers.{AreChosen}
use Rattle.rl_access.specs.declared.event.End.TheVariants as end
use Rattle.rl_access.specs.declared.event.Op.TheVariants as op
use Rattle.rl_model.specs.declared.rows.Item.TheVariants as item

-- ---- alone, or with the whole register

-- the fields that the access names
abbrev named_fields : ModelData → ℕ → Bool → ℕ
named_fields m field alone = if alone then narrow_fields m field else every_field

-- they are those that it reaches
fields_chosen : (m : ModelData) (field : ℕ) (alone : Bool) → IsModel m → field < length m.chip.fields →
    AreChosen (fields_of m.chip (reg_of m.chip field)) (if alone then own_field m.chip field else every) (named_fields m field alone)
fields_chosen m field true ok inside = own_chosen m field (fields_of m.chip (reg_of m.chip field))
fields_chosen m field false ok inside = all_chosen m.chip (reg_of m.chip field) ok.chip (seated m.chip field ok.chip inside).reg

-- ---- a write

abbrev word_by : ModelData → (field place value : ℕ) → Bool → ℕ
word_by m field place value alone = if alone then (field_alone m field place value).value else neutral_around m.chip field value m.mirror

written_is : (m entry : ModelData) (field place value : ℕ) (alone : Bool) (items : List TraceItem) → failed_at items ≡ None →
    write_outcome entry end.Done (if alone then field_alone m field place value else whole m (reg_of m.chip field) place (neutral_around m.chip field value m.mirror)) items
    ≡ good_write entry end.Done (reg_of m.chip field) (word_by m field place value alone) (named_fields m field alone)
written_is m entry field place value true items none = narrow_write_is m entry end.Done field place value items none
written_is m entry field place value false items none = whole_write_is m entry end.Done (reg_of m.chip field) place (neutral_around m.chip field value m.mirror) items none

written_step : (s : Scene) (field place value : ℕ) (d : State) (r : Register) (alone : Bool) → is_alone s.model field place true ≡ alone → field < length s.model.chip.fields →
    Meets s d (reg_of s.model.chip field) r → IsWay s.model.layout (item.Reg (reg_of s.model.chip field)) true place →
    let m = s.model in
    IsWrite m.chip m.layout d place (reg_of m.chip field) (if alone then own_field m.chip field else every) (word_by m field place value alone) r
    (access_ops m (if alone then field_alone m field place value else whole m (reg_of m.chip field) place (neutral_around m.chip field value m.mirror)) true)
written_step s field place value d r true is inside meets at =
    let m = s.model in
    narrow_write_is_step m.chip m.layout d place field (narrow_word m field value) r inside is (place_for m (reg_of m.chip field) place true meets.model at) meets.ready meets.holds
written_step s field place value d r false is inside meets at =
    whole_written s place (reg_of s.model.chip field) (neutral_around s.model.chip field value s.model.mirror) d r meets at

pub field_write_is_step : (s new : Scene) (field : ℕ) (map : Option ℕ) (value : ℕ) (event : Event) (place : ℕ) (d : State) (r : Register) → let o = op.FieldWrite field map value in
    field < length s.model.chip.fields → Meets s d (reg_of s.model.chip field) r → IsWay s.model.layout (item.Reg (reg_of s.model.chip field)) true place → IsDone s new o place event →
    IsOverBus s.model o place (reg_of s.model.chip field) (sends s.model o place) (outcome s.model o place 0) → IsStepped s new o event place (reg_of s.model.chip field) d r
field_write_is_step s new field map value event place d r inside meets at done over =
    let m = s.model in
    let o = op.FieldWrite field map value in
    let reg = reg_of m.chip field in
    let entry = forgetting_field m field place true in
    let alone = is_alone m field place true in
    let word = field_word m field place value in
    let fields = named_fields m field alone in
    writes s new o event place reg d r (sends m o place) (outcome m o place 0) end.Done (good_write entry end.Done reg word fields).model (reached_fields m field place true) word done meets
    (record {
      over = over;
      ends = λ items none. ap end_in (written_is m entry field place value alone items none);
      leaves = λ items none. ap model_in (written_is m entry field place value alone items none);
      finds = λ items none. ap differ_of (written_is m entry field place value alone items none);
    })
    (written_step s field place value d r alone refl inside meets at) refl refl refl
    (λ v e. write_follows m entry reg word fields (reached_fields m field place true) r v (field_entry m field place true) (fields_chosen m field alone meets.model inside) e) refl

-- ---- a read

abbrev value_by : ModelData → (field place : ℕ) → Bool → List ℕ → ℕ
value_by m field place alone = if alone then narrow_value m field place else whole_value m (reg_of m.chip field) place

shown_is : (m entry : ModelData) (field place : ℕ) (alone : Bool) (items : List TraceItem) → entry.layout ≡ m.layout → failed_at items ≡ None →
    read_outcome entry false (if alone then field_alone m field place 0 else whole m (reg_of m.chip field) place 0) items
    ≡ good_read entry false (reg_of m.chip field) (value_by m field place alone (words_answered items)) (named_fields m field alone)
shown_is m entry field place true items same none = narrow_read_is m entry false field place 0 items same none
shown_is m entry field place false items same none = whole_read_is m entry false (reg_of m.chip field) place items same none

shown_step : (s : Scene) (field place : ℕ) (d : State) (r : Register) (alone : Bool) → is_alone s.model field place false ≡ alone → field < length s.model.chip.fields →
    Meets s d (reg_of s.model.chip field) r → IsWay s.model.layout (item.Reg (reg_of s.model.chip field)) false place →
    let m = s.model in
    IsRead m.chip m.layout d place (reg_of m.chip field) (if alone then own_field m.chip field else every) r
    (access_ops m (if alone then field_alone m field place 0 else whole m (reg_of m.chip field) place 0) false) (value_by m field place alone)
shown_step s field place d r true is inside meets at =
    let m = s.model in
    narrow_read_is_step m.chip m.layout d place field r inside is (place_for m (reg_of m.chip field) place false meets.model at) meets.ready meets.holds
shown_step s field place d r false is inside meets at = whole_shown s place (reg_of s.model.chip field) d r meets at

pub field_read_is_step : (s new : Scene) (field : ℕ) (map : Option ℕ) (event : Event) (place : ℕ) (d : State) (r : Register) → let o = op.FieldRead field map in
    field < length s.model.chip.fields → Meets s d (reg_of s.model.chip field) r → IsWay s.model.layout (item.Reg (reg_of s.model.chip field)) false place → IsDone s new o place event →
    IsOverBus s.model o place (reg_of s.model.chip field) (sends s.model o place) (outcome s.model o place 0) → IsStepped s new o event place (reg_of s.model.chip field) d r
field_read_is_step s new field map event place d r inside meets at done over =
    let m = s.model in
    let o = op.FieldRead field map in
    let reg = reg_of m.chip field in
    let f = (field_of m.chip field).shape in
    let entry = forgetting_field m field place false in
    let alone = is_alone m field place false in
    let fields = named_fields m field alone in
    reads s new o event place reg d r (sends m o place) (outcome m o place 0) (value_by m field place alone) (λ v. end.Value (part_of f v)) (λ v. (good_read entry false reg v fields).model) (λ v. 0)
    (reached_fields m field place false) done meets
    (record {
      over = over;
      ends = λ items none. ap (λ (o : Outcome). end_in_field f o.end) (shown_is m entry field place alone items refl none);
      leaves = λ items none. ap model_in (shown_is m entry field place alone items refl none);
      finds = λ items none. ap differ_of (shown_is m entry field place alone items refl none);
    })
    (shown_step s field place d r alone refl inside meets at) refl refl (λ v. refl)
    (λ v e. read_follows m entry reg fields (reached_fields m field place false) r v (field_entry m field place false) (fields_chosen m field alone meets.model inside) e) refl
