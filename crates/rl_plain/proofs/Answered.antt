-- Operations of which a device fails none, as the items of a call.
use Rattle.std.proofs.Common.{◌≡◌, ℕ, suc, ◌+◌, Bool, false, cond, List, [], ◌∷◌, length, map, All, Option, None, Some, option_map, Ok, MatchResult, refl, ap, ◌∙◌, subst}
use Rattle.std.specs.List.{position_from}
use Rattle.std.proofs.lemmas.Iterator.Adapters.{position_from-zero}
use Rattle.std.proofs.lemmas.List.Elements.{All-head, All-tail}
use Rattle.rl_bus.specs.declared.op.Answer.{Answer}
use Rattle.rl_bus.specs.declared.op.BusOp.{BusOp}
use Rattle.rl_bus.specs.Standing.{Standing, standing_at}
use Rattle.rl_bus.specs.State.{State, answer_of, state_after}
use Rattle.rl_split.specs.Runs.{state_after_all as ops_after, answers_of}
use Rattle.rl_access.specs.declared.event.Event.{Event}
use Rattle.rl_access.specs.declared.event.Op.{Op}
use Rattle.rl_access.specs.declared.trace.TraceItem.{TraceItem}
use Rattle.rl_access.specs.Call.{Scene, IsDone, IsRefused, Performs}
use Rattle.rl_access.specs.Items.{took_item, item_of, items_of, failed_at, words_answered, state_after_all as items_after, port_for, adapter_for}
use Rattle.rl_access.specs.Model.{ModelData}
use Rattle.rl_access.specs.Operation.{register_of}
use Rattle.rl_access.specs.Rules.{Grant, Outcome, grant, named, sends, outcome, event_at, device_after}

abbrev fails : TraceItem → Bool
fails item = item.answer.failed

abbrev fine : Answer → Type 0
fine a = a.failed ≡ false

-- each operation has its item, and none failed
pub record AreAnswered (s : Standing) (d : State) (port : ℕ) (ops : List BusOp) : Type 0 where
  pub none : (k : ℕ) → position_from fails k (items_of s d port ops) ≡ None
  pub words : words_answered (items_of s d port ops) ≡ map (λ a. a.word) (answers_of d port ops)
  pub state : items_after d (items_of s d port ops) ≡ ops_after d port ops
  pub count : length (items_of s d port ops) ≡ length ops

pub answered : (s : Standing) (d : State) (port : ℕ) (ops : List BusOp) → All (λ a. a.failed ≡ false) (answers_of d port ops) → AreAnswered s d port ops
answered s d port [] h = record { none = λ k. refl; words = refl; state = refl; count = refl }
answered s d port (op ∷ ops) h =
    let a : Answer = answer_of d port op in
    let here : a.failed ≡ false = All-head fine a (answers_of (state_after d port op) port ops) h in
    let item : TraceItem = item_of s port op a in
    let more : List TraceItem = items_of (took_item s item) (state_after d port op) port ops in
    let rest = answered (took_item s item) (state_after d port op) port ops (All-tail fine a (answers_of (state_after d port op) port ops) h) in
    let is : items_of s d port (op ∷ ops) ≡ item ∷ more = ap (λ b. item ∷ cond b [] more) here in
    record {
      none = λ k. ap (position_from fails k) is ∙ ap (λ b. cond b (Some k) (position_from fails (k + 1) more)) here ∙ rest.none (k + 1);
      words = ap words_answered is ∙ ap (λ ws. a.word ∷ ws) rest.words;
      state = ap (items_after d) is ∙ rest.state;
      count = ap length is ∙ ap suc rest.count;
    }

pub none_failed : (s : Standing) (d : State) (port : ℕ) (ops : List BusOp) → AreAnswered s d port ops → failed_at (items_of s d port ops) ≡ None
none_failed s d port ops h = position_from-zero fails (items_of s d port ops) ∙ h.none 0

-- ---- an operation that was granted and done

pub done_of : (s new : Scene) (op : Op) (place : ℕ) (event : Event) → grant s.model op ≡ Ok place → Performs s new op event → IsDone s new op place event
done_of s new op place event granted performs = subst (λ (g : Grant). MatchResult g (λ p. IsDone s new op p event) (λ why. IsRefused s new op why event)) granted performs

-- what an operation over the bus sends, and what becomes of it; the event is on this register, or on none
pub record IsSentAs (m : ModelData) (op : Op) (place : ℕ) (on : Option ℕ) (ops : List BusOp) (o : List TraceItem → Outcome) : Type 0 where
  pub sends_are : sends m op place ≡ ops
  pub outcome_is : (sampled : ℕ) (items : List TraceItem) → outcome m op place sampled items ≡ o items
  pub register : register_of m.chip (named m op) ≡ on
  pub goes : (sampled : ℕ) (items : List TraceItem) (d : State) → device_after m op sampled items d ≡ items_after d items

-- what it then did
pub record HasRunAs (s new : Scene) (op : Op) (event : Event) (place : ℕ) (on : Option ℕ) (d : State) (ops : List BusOp) (o : List TraceItem → Outcome) : Type 0 where
  pub none : failed_at event.trace ≡ None
  pub words : words_answered event.trace ≡ map (λ a. a.word) (answers_of d (port_for s.model.layout place) ops)
  pub count : length event.trace ≡ length ops
  pub told : new.device ≡ Some (ops_after d (port_for s.model.layout place) ops)
  pub event_is : event ≡ event_at on (named s.model op) event.trace (o event.trace)
  pub model : new.model ≡ (o event.trace).model

pub has_run_as : (s new : Scene) (op : Op) (event : Event) (place : ℕ) (on : Option ℕ) (d : State) (ops : List BusOp) (o : List TraceItem → Outcome) →
    IsDone s new op place event → s.device ≡ Some d → IsSentAs s.model op place on ops o → All (λ a. a.failed ≡ false) (answers_of d (port_for s.model.layout place) ops) →
    HasRunAs s new op event place on d ops o
has_run_as s new op event place on d ops o done told over fine_all =
    let m = s.model in
    let port = port_for m.layout place in
    let st : Standing = standing_at s.adapters (adapter_for m.layout place) in
    let all = answered st d port ops fine_all in
    let trace : event.trace ≡ items_of st d port ops = done.answers d told ∙ ap (items_of st d port) over.sends_are in
    let out : outcome m op place done.sampled event.trace ≡ o event.trace = over.outcome_is done.sampled event.trace in
    record {
      none = ap failed_at trace ∙ none_failed st d port ops all;
      words = ap words_answered trace ∙ all.words;
      count = ap length trace ∙ all.count;
      told =
          done.goes
          ∙ ap (option_map (device_after m op done.sampled event.trace)) told
          ∙ ap Some (over.goes done.sampled event.trace d ∙ ap (items_after d) trace ∙ all.state);
      event_is =
          done.event_is
          ∙ ap (λ r. event_at r (named m op) event.trace (outcome m op place done.sampled event.trace)) over.register
          ∙ ap (event_at on (named m op) event.trace) out;
      model = done.model ∙ ap (λ (x : Outcome). x.model) out;
    }

-- the same of an operation on a register
abbrev pub IsOverBus : ModelData → Op → (place reg : ℕ) → List BusOp → (List TraceItem → Outcome) → Type 0
IsOverBus m op place reg ops o = IsSentAs m op place (Some reg) ops o

abbrev pub HasRun : (s new : Scene) → Op → Event → (place reg : ℕ) → State → List BusOp → (List TraceItem → Outcome) → Type 0
HasRun s new op event place reg d ops o = HasRunAs s new op event place (Some reg) d ops o

pub has_run : (s new : Scene) (op : Op) (event : Event) (place reg : ℕ) (d : State) (ops : List BusOp) (o : List TraceItem → Outcome) →
    IsDone s new op place event → s.device ≡ Some d → IsOverBus s.model op place reg ops o → All (λ a. a.failed ≡ false) (answers_of d (port_for s.model.layout place) ops) →
    HasRun s new op event place reg d ops o
has_run s new op event place reg d ops o done told over fine_all = has_run_as s new op event place (Some reg) d ops o done told over fine_all
