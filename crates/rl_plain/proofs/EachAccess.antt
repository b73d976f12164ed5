-- Each access over the bus is one step of its register.
use Rattle.std.proofs.Common.{◌≡◌, ◌<◌, ◌∙◌, ℕ, ap, Option, Bool, true, length, [], refl, sym, false, arith, subst, Some, Ok}
use Rattle.std.specs.Prelude.{if◌then◌else◌}
use Rattle.rl_bus.specs.State.{State}
use Rattle.rl_model.specs.Fields.{fields_of}
use Rattle.rl_split.specs.Law.{Holds}
use Rattle.rl_split.specs.Step.{Register, every}
use Rattle.rl_mirror.specs.Prediction.{needs_update, update_word_of}
use Rattle.rl_access.specs.Call.{Scene, IsDone}
use Rattle.rl_access.specs.Operation.{HasNumbers, register_of, reg_of}
use Rattle.rl_access.specs.Model.{ModelData}
use Rattle.rl_access.specs.Rules.{forgetting, access_ops, whole, sends, outcome, write_outcome, quiet, named, grant}
use Rattle.rl_access.specs.Tally.{is_bus_error}
use Rattle.rl_access.specs.declared.event.Event.{Event}
use Rattle.rl_access.specs.declared.event.Op.{Op}
use Rattle.rl_plain.specs.OneStep.{Meets, write_step, no_step, step_of, device_after, register_after, IsAccess, AccessIsStep}
use Rattle.rl_plain.proofs.Accesses.{IsStepped, over_bus, write_is_step, by_parts, read_is_step}
use Rattle.rl_plain.proofs.Answered.{IsOverBus, has_run, done_of}
use Rattle.rl_plain.proofs.FieldAccesses.{field_write_is_step, field_read_is_step}
use Rattle.rl_plain.proofs.Followed.{Followed, nothing_follows}
use Rattle.rl_plain.proofs.Granted.{IsWay, way_found, watched_way_found}
use Rattle.rl_plain.proofs.Ways.{write_way, other_write_way, field_write_way}
use Rattle.rl_access.specs.declared.event.End.TheVariants as end
use Rattle.rl_access.specs.declared.event.Op.TheVariants as op
use Rattle.rl_model.specs.declared.rows.Item.TheVariants as item

-- ---- an update

-- where it is needed it is a write, else it sends nothing
update_over : (m : ModelData) (reg : ℕ) (map : Option ℕ) (place : ℕ) (needed : Bool) → needs_update m.mirror reg ≡ needed →
    let by = whole m reg place (update_word_of m.chip reg m.mirror) in
    IsOverBus m (op.Update reg map) place reg (if needed then access_ops m by true else [])
    (λ items. if needed then write_outcome (forgetting m place) (end.Sent by.value) by items else quiet end.Nothing m)
update_over m reg map place needed is =
    let by = whole m reg place (update_word_of m.chip reg m.mirror) in
    record {
      sends_are = ap (λ b. if b then access_ops m by true else []) is;
      outcome_is = λ sampled items. ap (λ b. if b then write_outcome (forgetting m place) (end.Sent by.value) by items else quiet end.Nothing m) is;
      register = refl;
      goes = λ sampled items d. refl;
    }

update_by : (s new : Scene) (reg : ℕ) (map : Option ℕ) (event : Event) (place : ℕ) (d : State) (r : Register) (needed : Bool) → needs_update s.model.mirror reg ≡ needed → Meets s d reg r →
    IsWay s.model.layout (item.Reg reg) true place → IsDone s new (op.Update reg map) place event → reg < length s.model.chip.regs → IsStepped s new (op.Update reg map) event place reg d r
update_by s new reg map event place d r true is meets at done inside =
    let word = update_word_of s.model.chip reg s.model.mirror in
    write_is_step s new (op.Update reg map) event place reg word d r (end.Sent word) done meets at (update_over s.model reg map place true is)
    (ap (λ b. if b then write_step every word else no_step) is)
    (ap (λ b. if b then end.Sent word else end.Nothing) (sym is)) refl inside refl
update_by s new reg map event place d r false is meets at done inside =
    let m = s.model in
    let c = m.chip in
    let word = update_word_of c reg m.mirror in
    let step : step_of m (op.Update reg map) place ≡ no_step = ap (λ b. if b then write_step every word else no_step) is in
    let run = has_run s new (op.Update reg map) event place reg d [] (λ items. quiet end.Nothing m) done meets.told (update_over m reg map place false is) (λ k x l. absurd (omega (arith, l))) in
    let ended : event.end ≡ end.Nothing = ap (λ (e : Event). e.end) run.event_is in
    record {
      stepped = record {
        after = d;
        told = run.told;
        step = ap (λ st. device_after c d reg st r (length event.trace)) (sym step);
        ready = meets.ready;
        holds = subst (λ st. Holds c d reg (register_after (fields_of c reg) st r)) (sym step) meets.holds;
        ends = ended ∙ ap (λ b. if b then end.Sent word else end.Nothing) (sym is);
        no_error = ap is_bus_error ended;
      };
      follows = subst (λ st. Followed m new.model reg st r) (sym step) (nothing_follows m reg r new.model run.model);
      event_is = by_parts (named m (op.Update reg map)) reg event new.model (quiet end.Nothing m) run.event_is run.model;
      finds = ap (λ (e : Event). e.differ) run.event_is;
    }

-- ---- each operation

-- on the register that it reaches
at_register : (s new : Scene) (op : Op) (event : Event) (place n reg : ℕ) (d : State) (r : Register) →
    IsAccess op → register_of s.model.chip op ≡ Some n → register_of s.model.chip op ≡ Some reg → Meets s d reg r →
    (Meets s d n r → IsOverBus s.model op place n (sends s.model op place) (outcome s.model op place 0) → IsStepped s new op event place n d r) →
    IsStepped s new op event place reg d r
at_register s new op event place n reg d r is own register meets step =
    let same : n ≡ reg = cc in
    subst (λ k. Meets s d k r → IsStepped s new op event place k d r) same (λ it. step it (over_bus s.model op place n is own)) meets

pub one_step : (s new : Scene) (op : Op) (event : Event) (place reg : ℕ) (d : State) (r : Register) →
    IsAccess op → HasNumbers s.model.chip (length s.model.layout.maps) op → register_of s.model.chip op ≡ Some reg → Meets s d reg r → grant s.model op ≡ Ok place → IsDone s new op place event →
    IsStepped s new op event place reg d r
one_step s new (op.Write n map value) event place reg d r is numbers register meets granted done =
    at_register s new (op.Write n map value) event place n reg d r is refl register meets
    (λ it over. write_is_step s new (op.Write n map value) event place n value d r end.Done done it (write_way s.model n map value place granted) over refl refl refl numbers.0 refl)
one_step s new (op.OtherWrite n map value) event place reg d r is numbers register meets granted done =
    at_register s new (op.OtherWrite n map value) event place n reg d r is refl register meets
    (λ it over. write_is_step s new (op.OtherWrite n map value) event place n value d r end.Done done it (other_write_way s.model n map value place granted) over refl refl refl numbers.0 refl)
one_step s new (op.Read n map) event place reg d r is numbers register meets granted done =
    at_register s new (op.Read n map) event place n reg d r is refl register meets
    (λ it over. read_is_step s new (op.Read n map) event place n false d r done it (way_found s.model (item.Reg n) map false place granted) over refl refl numbers.0 refl)
one_step s new (op.Mirror n map) event place reg d r is numbers register meets granted done =
    at_register s new (op.Mirror n map) event place n reg d r is refl register meets
    (λ it over. read_is_step s new (op.Mirror n map) event place n false d r done it (way_found s.model (item.Reg n) map false place granted) over refl refl numbers.0 refl)
one_step s new (op.Check n map) event place reg d r is numbers register meets granted done =
    at_register s new (op.Check n map) event place n reg d r is refl register meets
    (λ it over. read_is_step s new (op.Check n map) event place n true d r done it (way_found s.model (item.Reg n) map false place granted) over refl refl numbers.0 refl)
one_step s new (op.OtherRead n map) event place reg d r is numbers register meets granted done =
    at_register s new (op.OtherRead n map) event place n reg d r is refl register meets
    (λ it over. read_is_step s new (op.OtherRead n map) event place n false d r done it (watched_way_found s.model n map false place granted) over refl refl numbers.0 refl)
one_step s new (op.FieldWrite field map value) event place reg d r is numbers register meets granted done =
    at_register s new (op.FieldWrite field map value) event place (reg_of s.model.chip field) reg d r is refl register meets
    (λ it over. field_write_is_step s new field map value event place d r numbers.0 it (field_write_way s.model field map value place granted) done over)
one_step s new (op.FieldRead field map) event place reg d r is numbers register meets granted done =
    at_register s new (op.FieldRead field map) event place (reg_of s.model.chip field) reg d r is refl register meets
    (λ it over. field_read_is_step s new field map event place d r numbers.0 it (way_found s.model (item.Reg (reg_of s.model.chip field)) map false place granted) done over)
one_step s new (op.Update n map) event place reg d r is numbers register meets granted done =
    at_register s new (op.Update n map) event place n reg d r is refl register meets
    (λ it over. update_by s new n map event place d r (needs_update s.model.mirror n) refl it (way_found s.model (item.Reg n) map true place granted) done numbers.0)
one_step s new _ event place reg d r is numbers register meets granted done = absurd is

pub access_is_step : AccessIsStep
access_is_step s new op event place reg d r is numbers register meets granted performs =
    (one_step s new op event place reg d r is numbers register meets granted (done_of s new op place event granted performs)).stepped
