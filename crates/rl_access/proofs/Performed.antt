-- From what a call's parts promise to what the call performs.
use Rattle.std.proofs.Common.{◌≡◌, ℕ, List, [], map, Bool, true, false, Option, None, Some, option_map, Ok, Err, MatchResult, refl, sym, ap, ◌∙◌, subst}
use Rattle.std.proofs.lemmas.List.{set-get_or}
use Rattle.rl_bus.specs.Account.{Account, AsksAll}
use Rattle.rl_bus.specs.Standing.{Standing, nobody, standing_at}
use Rattle.rl_bus.specs.State.{State}
use Rattle.rl_bus.specs.declared.op.BusOp.{BusOp}
use Rattle.rl_access.specs.declared.access.Access.{Access}
use Rattle.rl_access.specs.declared.event.End.{End}
use Rattle.rl_access.specs.declared.event.Event.{Event}
use Rattle.rl_access.specs.declared.event.Op.{Op}
use Rattle.rl_access.specs.declared.event.Refused.{Refused}
use Rattle.rl_access.specs.declared.trace.TraceItem.{TraceItem}
use Rattle.rl_access.specs.Call.{Scene, scene, Does, IsAccessed, IsRefused, IsDone, Performs, WereSent}
use Rattle.rl_access.specs.Event.{EventFits}
use Rattle.rl_access.specs.Items.{AreItemsOf, AreSent, asked_by, items_of, state_after_all, port_for, adapter_for}
use Rattle.rl_access.specs.Model.{ModelData, IsReady, IsSameChip}
use Rattle.rl_access.specs.Operation.{register_of}
use Rattle.rl_access.specs.Rules.{Grant, Outcome, grant, named, sends, outcome, event_at, event_of, register_event, quiet, access_ops, write_outcome, read_outcome, refused_event, found_by}
use Rattle.rl_access.specs.Rules.{device_after, deposited, asks_of}

-- ---- by the grant

pub performs_done : (s new : Scene) (op : Op) (place : ℕ) (event : Event) → grant s.model op ≡ Ok place → IsDone s new op place event → Performs s new op event
performs_done s new op place event granted done =
    subst (λ (g : Grant). MatchResult g (λ p. IsDone s new op p event) (λ why. IsRefused s new op why event)) (sym granted) done

pub performs_refused : (s : Scene) (op : Op) (why : Refused) (event : Event) → grant s.model op ≡ Err why →
    event ≡ refused_event s.model (named s.model op) why → Performs s s op event
performs_refused s op why event refused event_is =
    subst (λ (g : Grant). MatchResult g (λ p. IsDone s s op p event) (λ r. IsRefused s s op r event)) (sym refused)
    (record { event_is = event_is; unchanged = refl })

-- ---- what an operation over the bus sends, and what becomes of it

pub record IsOverBus (m : ModelData) (op : Op) (place : ℕ) (reg : ℕ) (ops : List BusOp) (o : List TraceItem → Outcome) : Type 0 where
  pub sends_are : sends m op place ≡ ops
  pub outcome_is : (items : List TraceItem) → outcome m op place 0 items ≡ o items
  pub register : register_of m.chip (named m op) ≡ Some reg
  pub sampled : (d : State) → 0 ≡ found_by d op
  pub device : (items : List TraceItem) (d : State) → device_after m op 0 items d ≡ state_after_all d items
  pub asks : (items : List TraceItem) → asks_of op (deposited m op 0) items ≡ map asked_by items

pub goes_on : (f g : State → State) → ((d : State) → f d ≡ g d) → (state : Option State) → option_map f state ≡ option_map g state
goes_on f g same None = refl
goes_on f g same (Some d) = ap Some (same d)

pub sent_over_bus : (m new : ModelData) (op told : Op) (place reg : ℕ) (ops : List BusOp) (o : List TraceItem → Outcome) (event : Event) (before now : List Standing) (account later : Account)
    (state after : Option State) →
    grant m op ≡ Ok place → told ≡ named m op → IsOverBus m op place reg ops o →
    AreSent (adapter_for m.layout place) (port_for m.layout place) ops event.trace before now account later state after →
    event ≡ register_event told reg event.trace (o event.trace) → new ≡ (o event.trace).model →
    Performs (scene m before account state) (scene new now later after) op event
sent_over_bus m new op told place reg ops o event before now account later state after granted names is sent event_is model =
    performs_done (scene m before account state) (scene new now later after) op place event granted (record {
      sampled = 0;
      items = subst (λ all. AreItemsOf (standing_at before (adapter_for m.layout place)) (port_for m.layout place) all event.trace) (sym is.sends_are) sent.items_are;
      adapters = sent.adapters;
      asked = subst (λ xs. AsksAll account xs later) (sym (is.asks event.trace)) sent.asked;
      event_is =
          event_is
          ∙ ap (λ t. register_event t reg event.trace (o event.trace)) names
          ∙ ap (λ r. event_at r (named m op) event.trace (o event.trace)) (sym is.register)
          ∙ ap (λ out. event_of m (named m op) event.trace out) (sym (is.outcome_is event.trace));
      model = model ∙ ap (λ (out : Outcome). out.model) (sym (is.outcome_is event.trace));
      found = λ d _. is.sampled d;
      answers = λ d e. sent.run.answers d e ∙ ap (λ all. items_of (standing_at before (adapter_for m.layout place)) d (port_for m.layout place) all) (sym is.sends_are);
      goes = sent.run.goes ∙ goes_on (λ d. state_after_all d event.trace) (device_after m op 0 event.trace) (λ d. sym (is.device event.trace d)) state;
    })

-- ---- a write, and a read, of an access

-- what an access from a model with this layout sent went out at the place
sent_there : (m entry new : ModelData) (a : Access) (write : Bool) (place : ℕ) (items : List TraceItem) (before now : List Standing) (account later : Account)
    (state after : Option State) → entry.layout ≡ m.layout → a.place ≡ place →
    WereSent (scene entry before account state) (scene new now later after) a write items →
    AreSent (adapter_for m.layout place) (port_for m.layout place) (access_ops entry a write) items before now account later state after
sent_there m entry new a write place items before now account later state after layout_is place_is sent =
    subst (λ p. AreSent (adapter_for m.layout p) (port_for m.layout p) (access_ops entry a write) items before now account later state after) place_is
    (subst (λ l. AreSent (adapter_for l a.place) (port_for l a.place) (access_ops entry a write) items before now account later state after) layout_is sent)

-- the operation is this access, begun from this model, and what is made of its items is this
pub record IsAccessOf (m : ModelData) (op : Op) (place : ℕ) (entry : ModelData) (a : Access) (write : Bool) (o : List TraceItem → Outcome) : Type 0 where
  pub over_bus : IsOverBus m op place a.reg (access_ops entry a write) o
  pub layout_is : entry.layout ≡ m.layout
  pub place_is : a.place ≡ place

access_performs : {before now : List Standing} {account later : Account} {state after : Option State} (m entry new : ModelData) (op told : Op) (place : ℕ)
    (a : Access) (write : Bool) (o : List TraceItem → Outcome) (event : Event) →
    grant m op ≡ Ok place → told ≡ named m op → IsAccessOf m op place entry a write o →
    IsAccessed (scene entry before account state) (scene new now later after) told a write o event →
    Performs (scene m before account state) (scene new now later after) op event
access_performs {before} {now} {account} {later} {state} {after} m entry new op told place a write o event granted names is done =
    sent_over_bus m new op told place a.reg (access_ops entry a write) o event before now account later state after granted names is.over_bus
    (sent_there m entry new a write place event.trace before now account later state after is.layout_is is.place_is done.sent) done.event_is done.model

-- and what it leaves for the next call
pub access_does : {before now : List Standing} {account later : Account} {state after : Option State} (m entry new : ModelData) (op told : Op) (place : ℕ)
    (a : Access) (write : Bool) (o : List TraceItem → Outcome) (event : Event) →
    grant m op ≡ Ok place → told ≡ named m op → IsAccessOf m op place entry a write o →
    IsAccessed (scene entry before account state) (scene new now later after) told a write o event →
    IsReady new now after → IsSameChip m new → EventFits new event →
    Does (scene m before account state) (scene new now later after) op event
access_does m entry new op told place a write o event granted names is done ready parts fits = record {
  performs = access_performs m entry new op told place a write o event granted names is done;
  ready = ready;
  parts = parts;
  fits = fits;
}

-- a write that ends so where no item failed
abbrev pub IsWriteOf : ModelData → Op → (place : ℕ) → (entry : ModelData) → Access → (good : End) → Type 0
IsWriteOf m op place entry a good = IsAccessOf m op place entry a true (write_outcome entry good a)

-- a read, or a check
abbrev pub IsReadOf : ModelData → Op → (place : ℕ) → (entry : ModelData) → Access → (check : Bool) → Type 0
IsReadOf m op place entry a check = IsAccessOf m op place entry a false (read_outcome entry check a)

-- the same from an equal model, by an equal access
pub accessed_so : {before now : List Standing} {account later : Account} {state after : Option State} (o : ModelData → Access → List TraceItem → Outcome)
    (entry first new : ModelData) (op : Op) (a it : Access) (write : Bool) (event : Event) → entry ≡ first → a ≡ it →
    IsAccessed (scene entry before account state) (scene new now later after) op a write (o entry a) event →
    IsAccessed (scene first before account state) (scene new now later after) op it write (o first it) event
accessed_so {before} {now} {account} {later} {state} {after} o entry first new op a it write event from same done =
    subst (λ (x : Access). IsAccessed (scene first before account state) (scene new now later after) op x write (o first x) event) same
    (subst (λ (x : ModelData). IsAccessed (scene x before account state) (scene new now later after) op a write (o x a) event) from done)

-- ---- an operation that sends nothing, and leaves the device

pub record IsQuiet (m : ModelData) (op : Op) (place reg : ℕ) (e : End) (new : ModelData) : Type 0 where
  pub sends_are : sends m op place ≡ []
  pub outcome_is : outcome m op place 0 [] ≡ quiet e new
  pub register : register_of m.chip (named m op) ≡ Some reg
  pub sampled : (d : State) → 0 ≡ found_by d op
  pub device : (d : State) → device_after m op 0 [] d ≡ d
  pub asks : asks_of op (deposited m op 0) [] ≡ []

no_items : (s : Standing) (port : ℕ) (ops : List BusOp) → ops ≡ [] → AreItemsOf s port ops []
no_items s port ops none = subst (λ all. AreItemsOf s port all []) (sym none) tt

none_of : (s : Standing) (d : State) (port : ℕ) (ops : List BusOp) → ops ≡ [] → items_of s d port ops ≡ []
none_of s d port ops none = ap (items_of s d port) none

stays : (f : State → State) → ((d : State) → f d ≡ d) → (state : Option State) → state ≡ option_map f state
stays f same None = refl
stays f same (Some d) = ap Some (sym (same d))

quiet_event : (m new : ModelData) (op : Op) (place reg : ℕ) (e : End) (before : List Standing) (account : Account) (state : Option State) → IsQuiet m op place reg e new →
    IsDone (scene m before account state) (scene new before account state) op place (register_event (named m op) reg [] (quiet e new))
quiet_event m new op place reg e before account state is =
    record {
      sampled = 0;
      items = no_items (standing_at before (adapter_for m.layout place)) (port_for m.layout place) (sends m op place) is.sends_are;
      adapters = sym (set-get_or before (adapter_for m.layout place) nobody);
      asked = subst (λ xs. AsksAll account xs account) (sym is.asks) refl;
      event_is = ap (λ r. event_at r (named m op) [] (quiet e new)) (sym is.register) ∙ ap (λ out. event_of m (named m op) [] out) (sym is.outcome_is);
      model = ap (λ (out : Outcome). out.model) (sym is.outcome_is);
      found = λ d _. is.sampled d;
      answers = λ d _. sym (none_of (standing_at before (adapter_for m.layout place)) d (port_for m.layout place) (sends m op place) is.sends_are);
      goes = stays (device_after m op 0 []) is.device state;
    }

pub quiet_performs : (m new : ModelData) (op told : Op) (place reg register : ℕ) (e : End) (items : List TraceItem) (event : Event) (before : List Standing) (account : Account) (state : Option State) →
    grant m op ≡ Ok place → told ≡ named m op → IsQuiet m op place reg e new → register ≡ reg → items ≡ [] → event ≡ register_event told register items (quiet e new) →
    Performs (scene m before account state) (scene new before account state) op event
quiet_performs m new op told place reg register e items event before account state granted names is same none event_is =
    let all : event ≡ register_event (named m op) reg [] (quiet e new) =
    event_is
    ∙ ap (λ t. register_event t register items (quiet e new)) names
    ∙ ap (λ r. register_event (named m op) r items (quiet e new)) same
    ∙ ap (λ it. register_event (named m op) reg it (quiet e new)) none
    in
    subst (λ ev. Performs (scene m before account state) (scene new before account state) op ev) (sym all)
    (performs_done (scene m before account state) (scene new before account state) op place (register_event (named m op) reg [] (quiet e new)) granted (quiet_event m new op place reg e before account
    state is))
