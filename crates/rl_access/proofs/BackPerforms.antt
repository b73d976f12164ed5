-- A call that sent nothing performed its operation.
use Rattle.std.proofs.Common.{◌≡◌, ℕ, ◌*◌, ◌^◌, ◌<◌, length, Bool, true, false, if◌then◌else◌, List, [], ◌∷◌, Option, None, Some, option_map, Ok, Err, refl, sym, ap, ◌∙◌, subst}
use Rattle.std.proofs.lemmas.List.{set-get_or}
use Rattle.rl_bus.specs.Account.{Account, Asks, AsksAll}
use Rattle.rl_bus.specs.Account as ask
use Rattle.rl_bus.proofs.Asking.{asks_one}
use Rattle.rl_bus.specs.Standing.{Standing, standing_at, nobody}
use Rattle.rl_bus.specs.State.{State, peeked, poked, hw_set, reset_by}
use Rattle.rl_bus.specs.declared.op.BusOp.{BusOp}
use Rattle.rl_bus.specs.declared.table.Cell.TheVariants as cell
use Rattle.rl_mirror.specs.Compared.{differ}
use Rattle.rl_model.specs.Fields.{fields_of, size_of}
use Rattle.rl_model.specs.Rows.{ChipData}
use Rattle.rl_mirror.specs.Mirror.{marks_in}
use Rattle.rl_mirror.specs.Prediction.{written, shown, left_by_read, predict_read, reset}
use Rattle.rl_access.specs.declared.event.End.{End}
use Rattle.rl_access.specs.declared.event.End.TheVariants as end
use Rattle.rl_access.specs.declared.event.Event.{Event}
use Rattle.rl_access.specs.declared.event.Op.{Op}
use Rattle.rl_access.specs.declared.event.Op.TheVariants as op
use Rattle.rl_access.specs.declared.event.Refused.{Refused}
use Rattle.rl_access.specs.declared.trace.TraceItem.{TraceItem}
use Rattle.rl_model.specs.declared.rows.Item.TheVariants as item
use Rattle.rl_access.specs.Backdoor.{IsFound, IsReadBehind}
use Rattle.rl_access.specs.Items.{AreItemsOf, items_of, state_after_all, moved_on_by_all, port_for, adapter_for}
use Rattle.rl_access.specs.Model.{ModelData}
use Rattle.rl_access.specs.Event.{IsEndWithin}
use Rattle.rl_access.specs.Operation.{HasNumbers, digits_of, has_end, reg_of, register_of}
use Rattle.rl_access.specs.Rules.{Grant, quiet, taking_raw, every_field, owned_of, back_written, back_value, back_left, back_outcome, grant, named, sends, outcome, Outcome, register_event}
use Rattle.rl_access.specs.Rules.{memory_event, event_at, event_of, refused_event, found_by, device_after, deposited, asks_of, by_backdoor}
use Rattle.rl_access.specs.Call.{scene, Performs}
use Rattle.rl_access.proofs.Performed.{goes_on, performs_done, performs_refused}

-- ---- done

trace_at : (reg : Option ℕ) (op : Op) (items : List TraceItem) (o : Outcome) → (event_at reg op items o).trace ≡ items
trace_at None op items o = refl
trace_at (Some reg) op items o = refl

no_items : (s : Standing) (d : State) (port : ℕ) (ops : List BusOp) (items : List TraceItem) → ops ≡ [] → items ≡ [] → items ≡ items_of s d port ops
no_items s d port ops items none empty = empty ∙ sym (ap (items_of s d port) none)

are_none : (s : Standing) (port : ℕ) (ops : List BusOp) (items : List TraceItem) → ops ≡ [] → items ≡ [] → AreItemsOf s port ops items
are_none s port ops items none empty = subst (λ os. AreItemsOf s port os items) (sym none) (subst (AreItemsOf s port []) (sym empty) tt)

stand_still : (all : List Standing) (which : ℕ) (items : List TraceItem) → items ≡ [] → all ≡ moved_on_by_all all which items
stand_still all which items empty = sym (ap (moved_on_by_all all which) empty ∙ set-get_or all which nobody)

-- one that sends nothing: adapters stay as they are
pub quiet_performs : (m new : ModelData) (account later : Account) (told after : Option State) (op : Op) (place sampled : ℕ) (event : Event) → grant m op ≡ Ok place → sends m op place ≡ []
    → event ≡ event_of m (named m op) [] (outcome m op place sampled []) → new ≡ (outcome m op place sampled []).model → AsksAll account (asks_of op (deposited m op sampled) []) later
    → ((d : State) → told ≡ Some d → sampled ≡ found_by d op) → after ≡ option_map (device_after m op sampled []) told
    → (adapters : List Standing) → Performs (scene m adapters account told) (scene new adapters later after) op event
quiet_performs m new account later told after op place sampled event granted nothing is_event is_model asked found goes adapters =
    let empty : event.trace ≡ [] = ap (λ (e : Event). e.trace) is_event ∙ trace_at _ (named m op) [] (outcome m op place sampled []) in
    performs_done (scene m adapters account told) (scene new adapters later after) op place event granted (record {
      sampled = sampled;
      items = are_none (standing_at adapters (adapter_for m.layout place)) (port_for m.layout place) (sends m op place) event.trace nothing empty;
      adapters = stand_still adapters (adapter_for m.layout place) event.trace empty;
      asked = subst (λ t. AsksAll account (asks_of op (deposited m op sampled) t) later) (sym empty) asked;
      event_is = subst (λ t. event ≡ event_of m (named m op) t (outcome m op place sampled t)) (sym empty) is_event;
      model = subst (λ t. new ≡ (outcome m op place sampled t).model) (sym empty) is_model;
      found = found;
      answers = λ d at. no_items (standing_at adapters (adapter_for m.layout place)) d (port_for m.layout place) (sends m op place) event.trace nothing empty;
      goes = subst (λ t. after ≡ option_map (device_after m op sampled t) told) (sym empty) goes;
    })

-- ---- one condition after another

pub then_only : (next : Grant → Grant) (first before now r : Grant) → before ≡ first → now ≡ next before → now ≡ r → next first ≡ r
then_only next first before now r e more is = ap next (sym e) ∙ sym more ∙ is

-- ---- the event of an operation that sent nothing

told_event : (op : Op) (reg : ℕ) (items : List TraceItem) (o good : Outcome) (event : Event) → event ≡ register_event op reg items o → items ≡ [] → o ≡ good → event ≡ register_event op reg [] good
told_event op reg items o good event e empty same = e ∙ ap (λ t. register_event op reg t o) empty ∙ ap (register_event op reg []) same

pub told_memory_event : (op : Op) (items : List TraceItem) (o good : Outcome) (event : Event) → event ≡ memory_event op items o → items ≡ [] → o ≡ good → event ≡ memory_event op [] good
told_memory_event op items o good event e empty same = e ∙ ap (λ t. memory_event op t o) empty ∙ ap (memory_event op []) same

ended_with : (end : End) (m new : ModelData) → m ≡ new → quiet end m ≡ quiet end new
ended_with end m new e = ap (quiet end) e

as_it_was : (told : Option State) → told ≡ option_map (λ d. state_after_all d []) told
as_it_was None = refl
as_it_was (Some d) = refl

-- ---- the backdoor of a register

pub poke_performs : (m new : ModelData) (account later : Account) (told after : Option State) (reg value place : ℕ) (items : List TraceItem) (event : Event) → grant m (op.Poke reg value) ≡ Ok place
    → after ≡ option_map (λ d. poked d (cell.Reg reg) value) told → new ≡ taking_raw m reg value → items ≡ [] → event ≡ register_event (op.Poke reg value) reg items (quiet end.Done new) →
    Asks account later (ask.poke (cell.Reg reg) value)
    → (adapters : List Standing) → Performs (scene m adapters account told) (scene new adapters later after) (op.Poke reg value) event
poke_performs m new account later told after reg value place items event granted goes taken empty is_event asked =
    quiet_performs m new account later told after (op.Poke reg value) place 0 event granted refl
    (told_event (op.Poke reg value) reg items (quiet end.Done new) (quiet end.Done (taking_raw m reg value)) event is_event empty (ended_with end.Done new (taking_raw m reg value) taken))
    taken (asks_one account later (ask.poke (cell.Reg reg) value) asked) (λ d at. refl) goes

pub peek_performs : (m new : ModelData) (account : Account) (told : Option State) (reg value place : ℕ) (items : List TraceItem) (event : Event) → grant m (op.Peek reg) ≡ Ok place
    → IsFound m told reg value → new ≡ taking_raw m reg value → items ≡ [] → event ≡ register_event (op.Peek reg) reg items (quiet (end.Value value) new)
    → (adapters : List Standing) → Performs (scene m adapters account told) (scene new adapters account told) (op.Peek reg) event
peek_performs m new account told reg value place items event granted f taken empty is_event =
    let now : new ≡ taking_raw m reg (owned_of m reg f.sampled) = taken ∙ ap (taking_raw m reg) f.value_is in
    let same : quiet (end.Value value) new ≡ quiet (end.Value (owned_of m reg f.sampled)) (taking_raw m reg (owned_of m reg f.sampled)) =
    ap (λ v. quiet (end.Value v) new) f.value_is ∙ ended_with (end.Value (owned_of m reg f.sampled)) new (taking_raw m reg (owned_of m reg f.sampled)) now in
    quiet_performs m new account account told told (op.Peek reg) place f.sampled event granted refl
    (told_event (op.Peek reg) reg items (quiet (end.Value value) new) (quiet (end.Value (owned_of m reg f.sampled)) (taking_raw m reg (owned_of m reg f.sampled))) event is_event empty same)
    now refl f.found (as_it_was told)

pub back_write_performs : (m new : ModelData) (account later : Account) (told after : Option State) (reg value found word place : ℕ) (items : List TraceItem) (event : Event) →
    grant m (op.BackWrite reg value) ≡ Ok place
    → IsFound m told reg found → word ≡ written (fields_of m.chip reg) (marks_in m.chip m.mirror.spent reg) found value
    → after ≡ option_map (λ d. poked d (cell.Reg reg) word) told → new ≡ taking_raw m reg word → items ≡ [] → event ≡ register_event (op.BackWrite reg value) reg items (quiet end.Done new) →
    Asks account later (ask.poke (cell.Reg reg) word)
    → (adapters : List Standing) → Performs (scene m adapters account told) (scene new adapters later after) (op.BackWrite reg value) event
back_write_performs m new account later told after reg value found word place items event granted f is_word goes taken empty is_event asked =
    let is : word ≡ back_written m reg value f.sampled = is_word ∙ ap (λ b. written (fields_of m.chip reg) (marks_in m.chip m.mirror.spent reg) b value) f.value_is in
    let now : new ≡ taking_raw m reg (back_written m reg value f.sampled) = taken ∙ ap (taking_raw m reg) is in
    quiet_performs m new account later told after (op.BackWrite reg value) place f.sampled event granted refl
    (told_event (op.BackWrite reg value) reg items (quiet end.Done new) (quiet end.Done (taking_raw m reg (back_written m reg value f.sampled))) event is_event empty (ended_with end.Done new
    (taking_raw m reg (back_written m reg value f.sampled)) now))
    now (asks_one account later (ask.poke (cell.Reg reg) (back_written m reg value f.sampled)) (subst (λ w. Asks account later (ask.poke (cell.Reg reg) w)) is asked)) f.found (subst (λ w. after ≡ option_map (λ d. poked d (cell.Reg reg) w) told) is goes)

-- what is read is shown, and what the read leaves is deposited
pub read_behind : (m new : ModelData) (account later : Account) (told after : Option State) (check : Bool) (reg bits value left marked : ℕ) → IsFound m told reg bits → value ≡ shown (fields_of m.chip reg) bits →
    left ≡ left_by_read (fields_of m.chip reg) bits
    → after ≡ option_map (λ d. poked d (cell.Reg reg) left) told → marked ≡ (if check then differ m.chip reg value m.mirror else 0) → new ≡ record m {
      mirror = predict_read m.chip reg value
          every_field m.mirror;
    }
    → Asks account later (ask.poke (cell.Reg reg) left)
    → IsReadBehind m new account later told after check reg value marked
read_behind m new account later told after check reg bits value left marked f is_value is_left goes is_marked is_new asked =
    let made : ℕ → Outcome = λ v. record {
      end = end.Value v;
      model = record m { mirror = predict_read m.chip reg v every_field m.mirror };
      differ = if check then differ m.chip reg v m.mirror else 0;
    } in
    let now : value ≡ back_value m reg f.sampled = is_value ∙ ap (shown (fields_of m.chip reg)) f.value_is in
    let after_it : left ≡ back_left m reg f.sampled = is_left ∙ ap (left_by_read (fields_of m.chip reg)) f.value_is in
    record {
      sampled = f.sampled;
      found = f.found;
      outcome = ap (λ x. record { end = end.Value value; model = x; differ = marked }) is_new
          ∙ ap (λ x. record { end = end.Value value; model = record m { mirror = predict_read m.chip reg value every_field m.mirror }; differ = x }) is_marked
          ∙ ap made now;
      goes = subst (λ w. after ≡ option_map (λ d. poked d (cell.Reg reg) w) told) after_it goes;
      asked = subst (λ w. Asks account later (ask.poke (cell.Reg reg) w)) after_it asked;
    }

-- a read, or a check
abbrev pub reading : Bool → (reg : ℕ) → Op
reading check reg = if check then op.BackCheck reg else op.BackRead reg

-- what the two have alike
record IsReading (m : ModelData) (check : Bool) (reg place : ℕ) (read : Op) : Type 0 where
  nothing : sends m read place ≡ []
  event_is : (o : Outcome) → register_event read reg [] o ≡ event_of m (named m read) [] o
  outcome_is : (sampled : ℕ) → back_outcome m check reg sampled ≡ outcome m read place sampled []
  finds : (d : State) → peeked d (cell.Reg reg) ≡ found_by d read
  leaves : (sampled : ℕ) (d : State) → poked d (cell.Reg reg) (back_left m reg sampled) ≡ device_after m read sampled [] d
  asks : (sampled : ℕ) → ask.poke (cell.Reg reg) (back_left m reg sampled) ∷ [] ≡ asks_of read (deposited m read sampled) []

is_reading : (m : ModelData) (check : Bool) (reg place : ℕ) → IsReading m check reg place (reading check reg)
is_reading m true reg place = record { nothing = refl; event_is = λ o. refl; outcome_is = λ sampled. refl; finds = λ d. refl; leaves = λ sampled d. refl; asks = λ sampled. refl }
is_reading m false reg place = record { nothing = refl; event_is = λ o. refl; outcome_is = λ sampled. refl; finds = λ d. refl; leaves = λ sampled d. refl; asks = λ sampled. refl }

-- its event tells of the register, and may end with such a value or refused
pub record IsReadingTold (c : ChipData) (maps reg value : ℕ) (read : Op) : Type 0 where
  pub register : register_of c read ≡ Some reg
  pub numbers : HasNumbers c maps read
  pub ends : has_end read (end.Value value) ≡ true
  pub refuses : (why : Refused) → has_end read (end.Refused why) ≡ true
  pub within : IsEndWithin (digits_of c read) (end.Value value)

reading_told_of : (c : ChipData) (maps reg value : ℕ) (check : Bool) → reg < length c.regs → value < 16 ^ (2 * size_of c reg) → IsReadingTold c maps reg value (reading check reg)
reading_told_of c maps reg value true inside fits = record { register = refl; numbers = inside; ends = refl; refuses = λ why. refl; within = fits }
reading_told_of c maps reg value false inside fits = record { register = refl; numbers = inside; ends = refl; refuses = λ why. refl; within = fits }

pub reading_told : (c : ChipData) (maps reg value : ℕ) (check : Bool) (read : Op) → read ≡ reading check reg → reg < length c.regs → value < 16 ^ (2 * size_of c reg) →
    IsReadingTold c maps reg value read
reading_told c maps reg value check read is inside fits = subst (IsReadingTold c maps reg value) (sym is) (reading_told_of c maps reg value check inside fits)

reading_granted : (m : ModelData) (check : Bool) (reg : ℕ) → grant m (reading check reg) ≡ by_backdoor m (item.Reg reg)
reading_granted m true reg = refl
reading_granted m false reg = refl

pub reading_performs : (check : Bool) (m new : ModelData) (account later : Account) (told after : Option State) (named_as : Op) (reg value differ place : ℕ)
    (items : List TraceItem) (event : Event) → named_as ≡ reading check reg → by_backdoor m (item.Reg reg) ≡ Ok place
    → IsReadBehind m new account later told after check reg value differ → items ≡ []
    → event ≡ register_event named_as reg items (record { end = end.Value value; model = new; differ = differ })
    → (adapters : List Standing) → Performs (scene m adapters account told) (scene new adapters later after) (reading check reg) event
reading_performs check m new account later told after named_as reg value differ place items event names granted r empty is_event =
    let is = is_reading m check reg place in
    let o : Outcome = record { end = end.Value value; model = new; differ = differ } in
    let good = outcome m (reading check reg) place r.sampled [] in
    let done : o ≡ good = r.outcome ∙ is.outcome_is r.sampled in
    quiet_performs m new account later told after (reading check reg) place r.sampled event (reading_granted m check reg ∙ granted) is.nothing
    (told_event (reading check reg) reg items o good event (is_event ∙ ap (λ x. register_event x reg items o) names) empty done ∙ is.event_is good)
    (ap (λ (x : Outcome). x.model) done)
    (subst (λ xs. AsksAll account xs later) (is.asks r.sampled) (asks_one account later (ask.poke (cell.Reg reg) (back_left m reg r.sampled)) r.asked)) (λ d at. r.found d at ∙ is.finds d) (r.goes ∙ goes_on _ _ (is.leaves r.sampled) told)

reading_refused : (m : ModelData) (check : Bool) (reg : ℕ) (why : Refused) →
    register_event (reading check reg) reg [] (quiet (end.Refused why) m) ≡ refused_event m (named m (reading check reg)) why
reading_refused m true reg why = refl
reading_refused m false reg why = refl

-- a refused one
pub no_reading_performs : (check : Bool) (m : ModelData) (account : Account) (told : Option State) (named_as : Op) (reg : ℕ) (why : Refused) (event : Event)
    → named_as ≡ reading check reg → by_backdoor m (item.Reg reg) ≡ Err why → event ≡ register_event named_as reg [] (quiet (end.Refused why) m)
    → (adapters : List Standing) → Performs (scene m adapters account told) (scene m adapters account told) (reading check reg) event
no_reading_performs check m account told named_as reg why event names refused is_event adapters =
    performs_refused (scene m adapters account told) (reading check reg) why event (reading_granted m check reg ∙ refused)
    (is_event ∙ ap (λ x. register_event x reg [] (quiet (end.Refused why) m)) names ∙ reading_refused m check reg why)

-- ---- the hardware and a reset

pub hw_performs : (m : ModelData) (account later : Account) (told after : Option State) (field value reg place : ℕ) (items : List TraceItem) (event : Event) → grant m (op.Hw field value) ≡ Ok place
    → after ≡ option_map (λ d. hw_set d field value) told → reg ≡ reg_of m.chip field → items ≡ [] → event ≡ register_event (op.Hw field value) reg items (quiet end.Done m) → Asks account later (ask.hw field value)
    → (adapters : List Standing) → Performs (scene m adapters account told) (scene m adapters later after) (op.Hw field value) event
hw_performs m account later told after field value reg place items event granted goes is_reg empty is_event asked =
    quiet_performs m m account later told after (op.Hw field value) place 0 event granted refl
    (told_event (op.Hw field value) (reg_of m.chip field) items (quiet end.Done m) (quiet end.Done m) event (is_event ∙ ap (λ r. register_event (op.Hw field value) r items (quiet end.Done m)) is_reg)
    empty refl)
    refl (asks_one account later (ask.hw field value) asked) (λ d at. refl) goes

pub reset_performs : (m new : ModelData) (account later : Account) (told after : Option State) (kind : ℕ) (items : List TraceItem) (event : Event)
    → after ≡ option_map (λ d. reset_by d kind) told → new ≡ record m { mirror = reset m.chip kind m.mirror } → items ≡ [] → event ≡ memory_event (op.Reset kind) items (quiet end.Done new) →
    Asks account later (ask.reset kind)
    → (adapters : List Standing) → Performs (scene m adapters account told) (scene new adapters later after) (op.Reset kind) event
reset_performs m new account later told after kind items event goes taken empty is_event asked =
    quiet_performs m new account later told after (op.Reset kind) 0 0 event refl refl
    (told_memory_event (op.Reset kind) items (quiet end.Done new) (quiet end.Done new) event is_event empty refl)
    taken (asks_one account later (ask.reset kind) asked) (λ d at. refl) goes
