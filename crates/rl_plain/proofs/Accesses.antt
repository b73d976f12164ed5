-- A whole access is one step of its register.
use Rattle.std.proofs.Common.{◌≡◌, ◌<◌, ◌∙◌, List, map, ap, All, false, subst, sym, refl, ℕ, None, Some, Bool, length, true}
use Rattle.std.specs.Prelude.{if◌then◌else◌}
use Rattle.std.proofs.lemmas.List.Elements.{All-map}
use Rattle.rl_bus.specs.State.{State}
use Rattle.rl_bus.specs.declared.op.Answer.{Answer}
use Rattle.rl_bus.specs.declared.op.BusOp.{BusOp}
use Rattle.rl_model.specs.Fields.{fields_of, size_of}
use Rattle.rl_model.specs.Rows.{ChipData}
use Rattle.rl_map.specs.Layout.{place_at}
use Rattle.rl_split.specs.Access.{ops_of, all_bytes, joined}
use Rattle.rl_split.specs.Law.{written_answer, IsWrite, after_wstep, Holds, IsRead, after_rstep}
use Rattle.rl_split.specs.Runs.{answers_of, state_after_all as ops_after}
use Rattle.rl_split.specs.Step.{Register, ranswer, every, wstep, rstep}
use Rattle.rl_split.proofs.Accesses.{whole_write_is_step, whole_read_is_step}
use Rattle.rl_mirror.specs.Compared.{differ}
use Rattle.rl_mirror.specs.Mirror.{MirrorData}
use Rattle.rl_access.specs.Call.{Scene, IsDone}
use Rattle.rl_access.specs.Items.{failed_at, words_answered, port_for}
use Rattle.rl_access.specs.Model.{ModelData, IsModel}
use Rattle.rl_access.specs.Operation.{register_of}
use Rattle.rl_access.specs.Rules.{Outcome, register_event, named, sends, outcome, whole, access_ops, write_outcome, forgetting, every_field, read_outcome}
use Rattle.rl_access.specs.Tally.{is_bus_error}
use Rattle.rl_access.specs.declared.event.End.{End}
use Rattle.rl_access.specs.declared.event.Event.{Event}
use Rattle.rl_access.specs.declared.event.Op.{Op}
use Rattle.rl_access.specs.declared.trace.TraceItem.{TraceItem}
use Rattle.rl_access.proofs.Places.{place_size}
use Rattle.rl_plain.specs.OneStep.{IsOneStep, IsAccess, step_of, Meets, write_step, end_of, device_after, register_after, read_step}
use Rattle.rl_plain.proofs.Answered.{IsOverBus, has_run}
use Rattle.rl_plain.proofs.Followed.{Followed, write_follows, whole_entry, all_chosen, read_follows}
use Rattle.rl_plain.proofs.Granted.{IsWay, place_for}
use Rattle.rl_plain.proofs.Outcomes.{whole_write_is, whole_read_is, good_write, whole_value, good_read}
use Rattle.rl_access.specs.declared.event.End.TheVariants as end
use Rattle.rl_access.specs.declared.event.Op.TheVariants as op
use Rattle.rl_model.specs.declared.rows.Item.TheVariants as item

-- ---- a write, and a read, of an access

-- no written operation failed
pub all_written : (answers : List Answer) (ops : List BusOp) → answers ≡ map written_answer ops → All (λ a. a.failed ≡ false) answers
all_written answers ops e = subst (All (λ a. a.failed ≡ false)) (sym e) (All-map (λ a. a.failed ≡ false) written_answer ops (λ k d low. refl))

-- what an access sends, and what becomes of it
pub over_bus : (m : ModelData) (op : Op) (place reg : ℕ) → IsAccess op → register_of m.chip op ≡ Some reg → IsOverBus m op place reg (sends m op place) (outcome m op place 0)
over_bus m (op.Write n map value) place reg is register = record { sends_are = refl; outcome_is = λ sampled items. refl; register = register; goes = λ sampled items d. refl }
over_bus m (op.Read n map) place reg is register = record { sends_are = refl; outcome_is = λ sampled items. refl; register = register; goes = λ sampled items d. refl }
over_bus m (op.Mirror n map) place reg is register = record { sends_are = refl; outcome_is = λ sampled items. refl; register = register; goes = λ sampled items d. refl }
over_bus m (op.Check n map) place reg is register = record { sends_are = refl; outcome_is = λ sampled items. refl; register = register; goes = λ sampled items d. refl }
over_bus m (op.FieldWrite field map value) place reg is register = record { sends_are = refl; outcome_is = λ sampled items. refl; register = register; goes = λ sampled items d. refl }
over_bus m (op.FieldRead field map) place reg is register = record { sends_are = refl; outcome_is = λ sampled items. refl; register = register; goes = λ sampled items d. refl }
over_bus m (op.Update n map) place reg is register = record { sends_are = refl; outcome_is = λ sampled items. refl; register = register; goes = λ sampled items d. refl }
over_bus m (op.OtherWrite n map value) place reg is register = record { sends_are = refl; outcome_is = λ sampled items. refl; register = register; goes = λ sampled items d. refl }
over_bus m (op.OtherRead n map) place reg is register = record { sends_are = refl; outcome_is = λ sampled items. refl; register = register; goes = λ sampled items d. refl }
over_bus m _ place reg is register = absurd is

-- what a done operation sends, how it ends where no item failed, and the model that it then leaves
pub record IsAccessBy (s : Scene) (op : Op) (place reg : ℕ) (ops : List BusOp) (o : List TraceItem → Outcome) (e : List ℕ → End) (x : List ℕ → ModelData) (f : List ℕ → ℕ) : Type 0 where
  pub over : IsOverBus s.model op place reg ops o
  pub ends : (items : List TraceItem) → failed_at items ≡ None → (o items).end ≡ e (words_answered items)
  pub leaves : (items : List TraceItem) → failed_at items ≡ None → (o items).model ≡ x (words_answered items)
  pub finds : (items : List TraceItem) → failed_at items ≡ None → (o items).differ ≡ f (words_answered items)

-- an event by its parts
abbrev pub event_by : Op → (reg : ℕ) → List TraceItem → End → ModelData → ℕ → Event
event_by told reg items e m difference = register_event told reg items (record { end = e; model = m; differ = difference })

pub by_parts : (told : Op) (reg : ℕ) (event : Event) (new : ModelData) (o : Outcome) → event ≡ register_event told reg event.trace o → new ≡ o.model → event ≡ event_by told reg event.trace event.end
    new event.differ
by_parts told reg event new o is model =
    is
    ∙ ap (λ e. event_by told reg event.trace e o.model o.differ) (sym (ap (λ (e : Event). e.end) is))
    ∙ ap (λ m. event_by told reg event.trace event.end m o.differ) (sym model)
    ∙ ap (event_by told reg event.trace event.end new) (sym (ap (λ (e : Event). e.differ) is))

-- the fields that a check finds, where the register answers so
abbrev pub differ_in : ChipData → Op → (reg : ℕ) → Register → MirrorData → ℕ
differ_in c (op.Check n map) reg r m = differ c reg (ranswer (fields_of c reg) every r) m
differ_in c _ reg r m = 0

-- it is one step of its register, what is then believed follows, and the event tells of both
pub record IsStepped (s new : Scene) (op : Op) (event : Event) (place reg : ℕ) (d : State) (r : Register) : Type 0 where
  pub stepped : IsOneStep s new op event place reg d r
  pub follows : Followed s.model new.model reg (step_of s.model op place) r
  pub event_is : event ≡ event_by (named s.model op) reg event.trace event.end new.model event.differ
  pub finds : event.differ ≡ differ_in s.model.chip op reg r s.model.mirror

pub writes : (s new : Scene) (op : Op) (event : Event) (place reg : ℕ) (d : State) (r : Register) (ops : List BusOp) (o : List TraceItem → Outcome) (good : End) (left : ModelData) (chosen : ℕ →
    Bool) (word : ℕ) →
    IsDone s new op place event → Meets s d reg r → IsAccessBy s op place reg ops o (λ words. good) (λ words. left) (λ words. 0) → IsWrite s.model.chip s.model.layout d place reg chosen word r ops →
    step_of s.model op place ≡ write_step chosen word → good ≡ end_of s.model op place r → is_bus_error good ≡ false → ((v : ModelData) → v ≡ left → Followed s.model v reg (write_step chosen word) r)
    → 0 ≡ differ_in s.model.chip op reg r s.model.mirror →
    IsStepped s new op event place reg d r
writes s new op event place reg d r ops o good left chosen word done meets by w step ends fine follow silent =
    let c = s.model.chip in
    let run = has_run s new op event place reg d ops o done meets.told by.over (all_written (answers_of d (port_for s.model.layout place) ops) ops w.answers) in
    let ended : event.end ≡ good = ap (λ (e : Event). e.end) run.event_is ∙ by.ends event.trace run.none in
    record {
      stepped = record {
        after = ops_after d (port_for s.model.layout place) ops;
        told = run.told;
        step = w.state ∙ ap (after_wstep c d reg (wstep (fields_of c reg) chosen word r)) (sym run.count) ∙ ap (λ st. device_after c d reg st r (length event.trace)) (sym step);
        ready = w.ready;
        holds = subst (λ st. Holds c (ops_after d (port_for s.model.layout place) ops) reg (register_after (fields_of c reg) st r)) (sym step) w.holds;
        ends = ended ∙ ends;
        no_error = ap is_bus_error ended ∙ fine;
      };
      follows = subst (λ st. Followed s.model new.model reg st r) (sym step) (follow new.model (run.model ∙ by.leaves event.trace run.none));
      event_is = by_parts (named s.model op) reg event new.model (o event.trace) run.event_is run.model;
      finds = ap (λ (e : Event). e.differ) run.event_is ∙ by.finds event.trace run.none ∙ silent;
    }

pub reads : (s new : Scene) (op : Op) (event : Event) (place reg : ℕ) (d : State) (r : Register) (ops : List BusOp) (o : List TraceItem → Outcome) (value : List ℕ → ℕ) (good : ℕ → End) (left : ℕ →
    ModelData) (found : ℕ → ℕ) (chosen : ℕ → Bool) →
    IsDone s new op place event → Meets s d reg r → IsAccessBy s op place reg ops o (λ words. good (value words)) (λ words. left (value words)) (λ words. found (value words)) →
    IsRead s.model.chip s.model.layout d place reg chosen r ops value →
    step_of s.model op place ≡ read_step chosen → good (ranswer (fields_of s.model.chip reg) chosen r) ≡ end_of s.model op place r → ((v : ℕ) → is_bus_error (good v) ≡ false) →
    ((v : ModelData) → v ≡ left (ranswer (fields_of s.model.chip reg) chosen r) → Followed s.model v reg (read_step chosen) r) → found (ranswer (fields_of s.model.chip reg) chosen r) ≡ differ_in
    s.model.chip op reg r s.model.mirror →
    IsStepped s new op event place reg d r
reads s new op event place reg d r ops o value good left found chosen done meets by w step ends fine follow seen =
    let c = s.model.chip in
    let run = has_run s new op event place reg d ops o done meets.told by.over w.answers in
    let ended : event.end ≡ good (ranswer (fields_of c reg) chosen r) = ap (λ (e : Event). e.end) run.event_is ∙ by.ends event.trace run.none ∙ ap good (ap value run.words ∙ w.value_is) in
    record {
      stepped = record {
        after = ops_after d (port_for s.model.layout place) ops;
        told = run.told;
        step = w.state ∙ ap (after_rstep d reg (rstep (fields_of c reg) chosen r)) (sym run.count) ∙ ap (λ st. device_after c d reg st r (length event.trace)) (sym step);
        ready = w.ready;
        holds = subst (λ st. Holds c (ops_after d (port_for s.model.layout place) ops) reg (register_after (fields_of c reg) st r)) (sym step) w.holds;
        ends = ended ∙ ends;
        no_error = ap is_bus_error ended ∙ fine (ranswer (fields_of c reg) chosen r);
      };
      follows = subst (λ st. Followed s.model new.model reg st r) (sym step) (follow new.model (run.model ∙ by.leaves event.trace run.none ∙ ap left (ap value run.words ∙ w.value_is)));
      event_is = by_parts (named s.model op) reg event new.model (o event.trace) run.event_is run.model;
      finds = ap (λ (e : Event). e.differ) run.event_is ∙ by.finds event.trace run.none ∙ ap found (ap value run.words ∙ w.value_is) ∙ seen;
    }

-- ---- whole accesses

-- a place has its register's bytes
whole_size : (m : ModelData) (reg place : ℕ) (write : Bool) → IsModel m → IsWay m.layout (item.Reg reg) write place → (place_at m.layout place).bytes ≡ size_of m.chip reg
whole_size m reg place write ok at = place_size m (item.Reg reg) place ok at.there

pub whole_written : (s : Scene) (place reg value : ℕ) (d : State) (r : Register) → Meets s d reg r → IsWay s.model.layout (item.Reg reg) true place →
    IsWrite s.model.chip s.model.layout d place reg every value r (ops_of s.model.layout place 0 (all_bytes (size_of s.model.chip reg)) value true)
whole_written s place reg value d r meets at =
    subst (λ n. IsWrite s.model.chip s.model.layout d place reg every value r (ops_of s.model.layout place 0 (all_bytes n) value true)) (whole_size s.model reg place true meets.model at)
    (whole_write_is_step s.model.chip s.model.layout d place reg value r (place_for s.model reg place true meets.model at) meets.ready meets.holds)

pub whole_shown : (s : Scene) (place reg : ℕ) (d : State) (r : Register) → Meets s d reg r → IsWay s.model.layout (item.Reg reg) false place →
    let chosen = all_bytes (size_of s.model.chip reg) in
    IsRead s.model.chip s.model.layout d place reg every r (ops_of s.model.layout place 0 chosen 0 false) (joined s.model.layout place 0 chosen)
whole_shown s place reg d r meets at =
    subst (λ n. IsRead s.model.chip s.model.layout d place reg every r (ops_of s.model.layout place 0 (all_bytes n) 0 false) (joined s.model.layout place 0 (all_bytes n))) (whole_size s.model reg
    place false meets.model at)
    (whole_read_is_step s.model.chip s.model.layout d place reg r (place_for s.model reg place false meets.model at) meets.ready meets.holds)

abbrev pub end_in : Outcome → End
end_in o = o.end

abbrev pub model_in : Outcome → ModelData
model_in o = o.model

abbrev pub differ_of : Outcome → ℕ
differ_of o = o.differ

pub write_is_step : (s new : Scene) (op : Op) (event : Event) (place reg value : ℕ) (d : State) (r : Register) (good : End) → IsDone s new op place event → Meets s d reg r →
    IsWay s.model.layout (item.Reg reg) true place →
    IsOverBus s.model op place reg (access_ops s.model (whole s.model reg place value) true) (λ items. write_outcome (forgetting s.model place) good (whole s.model reg place value) items) →
    step_of s.model op place ≡ write_step every value → good ≡ end_of s.model op place r → is_bus_error good ≡ false → reg < length s.model.chip.regs →
    0 ≡ differ_in s.model.chip op reg r s.model.mirror →
    IsStepped s new op event place reg d r
write_is_step s new op event place reg value d r good done meets at over step ends fine inside silent =
    let m = s.model in
    writes s new op event place reg d r (access_ops m (whole m reg place value) true) (λ items. write_outcome (forgetting m place) good (whole m reg place value) items) good (good_write
    (forgetting m place) good reg value every_field).model every value done meets
    (record {
      over = over;
      ends = λ items none. ap end_in (whole_write_is m (forgetting m place) good reg place value items none);
      leaves = λ items none. ap model_in (whole_write_is m (forgetting m place) good reg place value items none);
      finds = λ items none. ap differ_of (whole_write_is m (forgetting m place) good reg place value items none);
    })
    (whole_written s place reg value d r meets at) step ends fine
    (λ v e. write_follows m (forgetting m place) reg value every_field every r v (whole_entry m place) (all_chosen m.chip reg meets.model.chip inside) e) silent

pub read_is_step : (s new : Scene) (op : Op) (event : Event) (place reg : ℕ) (check : Bool) (d : State) (r : Register) → IsDone s new op place event → Meets s d reg r →
    IsWay s.model.layout (item.Reg reg) false place →
    IsOverBus s.model op place reg (access_ops s.model (whole s.model reg place 0) false) (λ items. read_outcome (forgetting s.model place) check (whole s.model reg place 0) items) →
    step_of s.model op place ≡ read_step every → end.Value (ranswer (fields_of s.model.chip reg) every r) ≡ end_of s.model op place r → reg < length s.model.chip.regs →
    (if check then differ s.model.chip reg (ranswer (fields_of s.model.chip reg) every r) s.model.mirror else 0) ≡ differ_in s.model.chip op reg r s.model.mirror →
    IsStepped s new op event place reg d r
read_is_step s new op event place reg check d r done meets at over step ends inside seen =
    let m = s.model in
    reads s new op event place reg d r (access_ops m (whole m reg place 0) false) (λ items. read_outcome (forgetting m place) check (whole m reg place 0) items) (whole_value m reg place) end.Value
    (λ v. (good_read (forgetting m place) check reg v every_field).model) (λ v. if check then differ m.chip reg v m.mirror else 0) every done meets
    (record {
      over = over;
      ends = λ items none. ap end_in (whole_read_is m (forgetting m place) check reg place items refl none);
      leaves = λ items none. ap model_in (whole_read_is m (forgetting m place) check reg place items refl none);
      finds = λ items none. ap differ_of (whole_read_is m (forgetting m place) check reg place items refl none);
    })
    (whole_shown s place reg d r meets at) step ends (λ v. refl)
    (λ v e. read_follows m (forgetting m place) reg every_field every r v (whole_entry m place) (all_chosen m.chip reg meets.model.chip inside) e) seen
