-- The operations that are one write or one read of a register over the bus.
use Rattle.std.proofs.Common.{◌≡◌, ℕ, List, [], Bool, true, false, if◌then◌else◌, Option, None, Some, Ok, refl, sym, ap, ◌∙◌, subst}
use Rattle.rl_bus.specs.Account.{Account}
use Rattle.rl_bus.specs.Standing.{Standing}
use Rattle.rl_bus.specs.State.{State}
use Rattle.rl_model.specs.declared.rows.Field.{Field}
use Rattle.rl_model.specs.Fields.{field_of}
use Rattle.rl_mirror.specs.Prediction.{predict_read, set, needs_update, update_word_of, neutral_around}
use Rattle.rl_access.specs.declared.access.Access.{Access}
use Rattle.rl_access.specs.declared.event.End.{End}
use Rattle.rl_access.specs.declared.event.End.TheVariants as end
use Rattle.rl_access.specs.declared.event.Event.{Event}
use Rattle.rl_access.specs.declared.event.Op.{Op}
use Rattle.rl_access.specs.declared.event.Op.TheVariants as op
use Rattle.rl_access.specs.declared.trace.TraceItem.{TraceItem}
use Rattle.rl_access.specs.Call.{scene, Performs}
use Rattle.rl_access.specs.Items.{AreSent, failed_at, port_for, adapter_for}
use Rattle.rl_access.specs.Model.{ModelData, IsSameChip}
use Rattle.rl_access.specs.Operation.{reg_of}
use Rattle.rl_access.specs.Rules.{grant, named, forgetting, forgetting_field, whole, field_written, field_read}
use Rattle.rl_access.specs.Rules.{field_alone, is_alone, access_ops, Outcome, or_error, write_outcome, read_outcome, value_of, end_in_field, in_field, register_event, quiet}
use Rattle.rl_access.proofs.Performed.{IsOverBus, IsAccessOf, IsWriteOf, IsReadOf, IsQuiet, sent_over_bus}

-- what is forgotten around a field's access leaves the chip and the layout
pub parts_around : (m entry new : ModelData) (field place : ℕ) (write : Bool) → entry ≡ forgetting_field m field place write → IsSameChip entry new → IsSameChip m new
parts_around m entry new field place write is same = record {
  chip = same.chip ∙ ap (λ (x : ModelData). x.chip) is;
  layout = same.layout ∙ ap (λ (x : ModelData). x.layout) is;
}

-- an access at the place, which begins by forgetting what was gathered there
begun : {m : ModelData} {op : Op} {reg place value : ℕ} {write : Bool} {o : List TraceItem → Outcome} →
    IsOverBus m op place reg (access_ops (forgetting m place) (whole m reg place value) write) o → IsAccessOf m op place (forgetting m place) (whole m reg place value) write o
begun is = record { over_bus = is; layout_is = refl; place_is = refl }

-- ---- writes

pub whole_write : (m : ModelData) (reg : ℕ) (map : Option ℕ) (value place : ℕ) → IsWriteOf m (op.Write reg map value) place (forgetting m place) (whole m reg place value) end.Done
whole_write m reg map value place = begun (record { sends_are = refl; outcome_is = λ items. refl; register = refl; sampled = λ d. refl; device = λ items d. refl; asks = λ items. refl })

pub other_whole_write : (m : ModelData) (reg : ℕ) (map : Option ℕ) (value place : ℕ) → IsWriteOf m (op.OtherWrite reg map value) place (forgetting m place) (whole m reg place value) end.Done
other_whole_write m reg map value place = begun (record { sends_are = refl; outcome_is = λ items. refl; register = refl; sampled = λ d. refl; device = λ items d. refl; asks = λ items. refl })

-- ---- reads

pub whole_read : (m : ModelData) (reg : ℕ) (map : Option ℕ) (place : ℕ) → IsReadOf m (op.Read reg map) place (forgetting m place) (whole m reg place 0) false
whole_read m reg map place = begun (record { sends_are = refl; outcome_is = λ items. refl; register = refl; sampled = λ d. refl; device = λ items d. refl; asks = λ items. refl })

whole_mirror : (m : ModelData) (reg : ℕ) (map : Option ℕ) (place : ℕ) → IsReadOf m (op.Mirror reg map) place (forgetting m place) (whole m reg place 0) false
whole_mirror m reg map place = begun (record { sends_are = refl; outcome_is = λ items. refl; register = refl; sampled = λ d. refl; device = λ items d. refl; asks = λ items. refl })

whole_check : (m : ModelData) (reg : ℕ) (map : Option ℕ) (place : ℕ) → IsReadOf m (op.Check reg map) place (forgetting m place) (whole m reg place 0) true
whole_check m reg map place = begun (record { sends_are = refl; outcome_is = λ items. refl; register = refl; sampled = λ d. refl; device = λ items d. refl; asks = λ items. refl })

pub other_whole_read : (m : ModelData) (reg : ℕ) (map : Option ℕ) (place : ℕ) → IsReadOf m (op.OtherRead reg map) place (forgetting m place) (whole m reg place 0) false
other_whole_read m reg map place = begun (record { sends_are = refl; outcome_is = λ items. refl; register = refl; sampled = λ d. refl; device = λ items d. refl; asks = λ items. refl })

-- a read to learn the value, or a check
abbrev pub mirroring : Bool → (reg : ℕ) → Option ℕ → Op
mirroring check reg map = if check then op.Check reg map else op.Mirror reg map

pub whole_mirroring : (m : ModelData) (reg : ℕ) (map : Option ℕ) (place : ℕ) (check : Bool)
    → IsReadOf m (mirroring check reg map) place (forgetting m place) (whole m reg place 0) check
whole_mirroring m reg map place true = whole_check m reg map place
whole_mirroring m reg map place false = whole_mirror m reg map place

-- ---- an update

update_write : (m : ModelData) (reg : ℕ) (map : Option ℕ) (place : ℕ) → needs_update m.mirror reg ≡ true → IsWriteOf m (op.Update reg map) place (forgetting m place) (whole m reg place
    (update_word_of m.chip reg m.mirror)) (end.Sent (update_word_of m.chip reg m.mirror))
update_write m reg map place needed =
    let word = update_word_of m.chip reg m.mirror in
    record {
      over_bus = record {
        sends_are = ap (λ b. if b then access_ops m (whole m reg place word) true else []) needed;
        outcome_is = λ items. ap (λ b. if b then write_outcome (forgetting m place) (end.Sent word) (whole m reg place word) items else quiet end.Nothing m) needed;
        register = refl;
        sampled = λ d. refl;
        device = λ items d. refl;
        asks = λ items. refl;
      };
      layout_is = refl;
      place_is = refl;
    }

pub whole_update : (m : ModelData) (reg : ℕ) (map : Option ℕ) (place word : ℕ) → needs_update m.mirror reg ≡ true →
    word ≡ update_word_of m.chip reg m.mirror → IsWriteOf m (op.Update reg map) place (forgetting m place) (whole m reg place word) (end.Sent word)
whole_update m reg map place word needed word_is =
    subst (λ w. IsWriteOf m (op.Update reg map) place (forgetting m place) (whole m reg place w) (end.Sent w)) (sym word_is)
    (update_write m reg map place needed)

-- nothing to send
pub is_no_update : (m : ModelData) (reg : ℕ) (map : Option ℕ) (place : ℕ) → needs_update m.mirror reg ≡ false → IsQuiet m (op.Update reg map) place reg end.Nothing m
is_no_update m reg map place nothing =
    let word = update_word_of m.chip reg m.mirror in
    record {
      sends_are = ap (λ b. if b then access_ops m (whole m reg place word) true else []) nothing;
      outcome_is = ap (λ b. if b then write_outcome (forgetting m place) (end.Sent word) (whole m reg place word) [] else quiet end.Nothing m) nothing;
      register = refl;
      sampled = λ d. refl;
      device = λ d. refl;
      asks = refl;
    }

-- ---- desired values

pub is_set : (m new : ModelData) (field value place : ℕ) → new ≡ record m { mirror = set m.chip field value m.mirror } → IsQuiet m (op.Set field value) place (reg_of m.chip field) end.Done new
is_set m new field value place is = record {
  sends_are = refl;
  outcome_is = ap (quiet end.Done) (sym is);
  register = refl;
  sampled = λ d. refl;
  device = λ d. refl;
  asks = refl;
}

pub is_show : (m : ModelData) (reg : ℕ) → IsQuiet m (op.Show reg) 0 reg end.Done m
is_show m reg = record { sends_are = refl; outcome_is = refl; register = refl; sampled = λ d. refl; device = λ d. refl; asks = refl }

-- ---- one field

written_reg : (m : ModelData) (field place value word : ℕ) (alone : Bool) → let a : Access = if alone then field_alone m field place value else whole m (reg_of m.chip field) place word in a.reg ≡
    reg_of m.chip field
written_reg m field place value word true = refl
written_reg m field place value word false = refl

written_place : (m : ModelData) (field place value word : ℕ) (alone : Bool) → let a : Access = if alone then field_alone m field place value else whole m (reg_of m.chip field) place word in a.place ≡
    place
written_place m field place value word true = refl
written_place m field place value word false = refl

pub field_write_done : (m : ModelData) (field : ℕ) (map : Option ℕ) (value place : ℕ) → IsWriteOf m (op.FieldWrite field map value) place (forgetting_field m field place true) (field_written m field
    place value) end.Done
field_write_done m field map value place =
    let word = neutral_around m.chip field value m.mirror in
    record {
      over_bus = record {
        sends_are = refl;
        outcome_is = λ items. refl;
        register = ap Some (sym (written_reg m field place value word (is_alone m field place true)));
        sampled = λ d. refl;
        device = λ items d. refl;
        asks = λ items. refl;
      };
      layout_is = refl;
      place_is = written_place m field place value word (is_alone m field place true);
    }

error_differs : (failed : Option ℕ) (m : ModelData) (good : Outcome) → good.differ ≡ 0 → (or_error failed m good).differ ≡ 0
error_differs None m good none = none
error_differs (Some k) m good none = refl

field_read_outcome : (m new : ModelData) (field : ℕ) (a : Access) (items : List TraceItem) (e : End) → e ≡ end_in_field (field_of m.chip field).shape (read_outcome m false a items).end →
    new ≡ (read_outcome m false a items).model →
    ◌≡◌ {A = Outcome} (record { end = e; model = new; differ = 0 }) (in_field m.chip field (read_outcome m false a items))
field_read_outcome m new field a items e end_is model =
    let good : Outcome = record {
      end = end.Value (value_of m a items);
      model = record m { mirror = predict_read m.chip a.reg (value_of m a items) a.fields m.mirror };
      differ = 0;
    } in
    ap (λ x. let o : Outcome = record { end = x; model = new; differ = 0 } in o) end_is
    ∙ ap (λ x. let o : Outcome = record { end = end_in_field (field_of m.chip field).shape (read_outcome m false a items).end; model = x; differ = 0 } in o) model
    ∙ ap (λ x. let o : Outcome = record { end = end_in_field (field_of m.chip field).shape (read_outcome m false a items).end; model = (read_outcome m false a items).model; differ = x } in o)
    (sym (error_differs (failed_at items) m good refl))

field_read_over_bus : (m : ModelData) (field : ℕ) (map : Option ℕ) (place : ℕ) →
    IsOverBus m (op.FieldRead field map) place (reg_of m.chip field) (access_ops (forgetting_field m field place false) (field_read m field place) false) (λ items. in_field m.chip field (read_outcome
    (forgetting_field m field place false) false (field_read m field place) items))
field_read_over_bus m field map place = record { sends_are = refl; outcome_is = λ items. refl; register = refl; sampled = λ d. refl; device = λ items d. refl; asks = λ items. refl }

first_read : (m new : ModelData) (field : ℕ) (map : Option ℕ) (told : Op) (place : ℕ) (items : List TraceItem) (e : End) (event : Event) (before now : List Standing) (account later : Account)
    (state after : Option State) →
    grant m (op.FieldRead field map) ≡ Ok place → told ≡ named m (op.FieldRead field map) →
    AreSent (adapter_for m.layout (field_read m field place).place) (port_for m.layout (field_read m field place).place) (access_ops m (field_read m field place) false) items before now account later
    state after →
    e ≡ end_in_field (field_of m.chip field).shape (read_outcome (forgetting_field m field place false) false (field_read m field place) items).end →
    new ≡ (read_outcome (forgetting_field m field place false) false (field_read m field place) items).model →
    event ≡ register_event told (reg_of m.chip field) items (record { end = e; model = new; differ = 0 }) →
    Performs (scene m before account state) (scene new now later after) (op.FieldRead field map) event
first_read m new field map told place items e event before now account later state after granted names sent end_is model event_is =
    let entry = forgetting_field m field place false in
    let a = field_read m field place in
    let out = in_field m.chip field (read_outcome entry false a items) in
    let all : event ≡ register_event told (reg_of m.chip field) items out = event_is ∙ ap (register_event told (reg_of m.chip field) items) (field_read_outcome entry new field a items e end_is model)
    in
    subst (λ ev. Performs (scene m before account state) (scene new now later after) (op.FieldRead field map) ev) (sym all)
    (sent_over_bus m new (op.FieldRead field map) told place (reg_of m.chip field) (access_ops entry a false) (λ all. in_field m.chip field (read_outcome entry false a all)) (register_event told
    (reg_of m.chip field) items out) before now account later state after granted names
    (field_read_over_bus m field map place)
    (subst (λ p. AreSent (adapter_for m.layout p) (port_for m.layout p) (access_ops entry a false) items before now account later state after) (written_place m field place 0 0 (is_alone m field place
    false)) sent)
    refl model)

-- what a read of a field's access did, as its parts promise it
record IsFieldRead (m new : ModelData) (told : Op) (field : ℕ) (a : Access) (items : List TraceItem) (e : End) (event : Event) (before now : List Standing) (account later : Account) (state after : Option
    State) : Type 0 where
  sent : AreSent (adapter_for m.layout a.place) (port_for m.layout a.place) (access_ops m a false) items before now account later state after
  end_is : e ≡ end_in_field (field_of m.chip field).shape (read_outcome m false a items).end
  model : new ≡ (read_outcome m false a items).model

pub field_read_performs : {before now : List Standing} {account later : Account} {state after : Option State} (m entry new : ModelData) (field : ℕ) (shape : Field) (map : Option ℕ) (told : Op) (place : ℕ)
    (a : Access) (items : List TraceItem) (read e : End) (event : Event) →
    grant m (op.FieldRead field map) ≡ Ok place → told ≡ named m (op.FieldRead field map) → shape ≡ (field_of m.chip field).shape → entry ≡ forgetting_field m field place false →
    a ≡ field_read m field place →
    AreSent (adapter_for entry.layout a.place) (port_for entry.layout a.place) (access_ops entry a false) items before now account later state after →
    read ≡ (read_outcome entry false a items).end → new ≡ (read_outcome entry false a items).model → e ≡ end_in_field shape read → event ≡ register_event told shape.reg items
    (record { end = e; model = new; differ = 0 }) →
    Performs (scene m before account state) (scene new now later after) (op.FieldRead field map) event
field_read_performs {before} {now} {account} {later} {state} {after} m entry new field shape map told place a items read e event granted names shape_is from same sent read_is model end_is event_is =
    let first = forgetting_field m field place false in
    let chip : entry.chip ≡ m.chip = ap (λ (x : ModelData). x.chip) from in
    let here : IsFieldRead entry new told field a items e event before now account later state after = record {
      sent = sent;
      end_is = end_is ∙ ap (λ (s : Field). end_in_field s read) (shape_is ∙ ap (λ c. (field_of c field).shape) (sym chip)) ∙ ap (end_in_field (field_of entry.chip field).shape) read_is;
      model = model;
    } in
    let there : IsFieldRead first new told field (field_read m field place) items e event before now account later state after =
    subst (λ (x : Access). IsFieldRead first new told field x items e event before now account later state after) same
    (subst (λ (x : ModelData). IsFieldRead x new told field a items e event before now account later state after) from here)
    in
    first_read m new field map told place items e event before now account later state after granted names there.sent there.end_is there.model
    (event_is ∙ ap (λ (s : Field). let o : Outcome = record { end = e; model = new; differ = 0 } in register_event told s.reg items o) shape_is)
