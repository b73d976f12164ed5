-- A call on a location of a memory performed its operation.
use Rattle.std.proofs.Common.{◌≡◌, ◌⊎◌, ℕ, ◌==◌, map, true, false, if◌then◌else◌, List, [], Option, None, Some, option_map, Ok, refl, sym, ap, ◌∙◌, subst, inl, inr}
use Rattle.rl_bus.specs.Account.{Account, Asks, AsksAll}
use Rattle.rl_bus.specs.Account as ask
use Rattle.rl_bus.proofs.Asking.{asks_one}
use Rattle.rl_bus.specs.Standing.{Standing}
use Rattle.rl_bus.specs.State.{State, poked}
use Rattle.rl_bus.specs.declared.op.BusOp.{BusOp}
use Rattle.rl_bus.specs.declared.table.Cell.TheVariants as cell
use Rattle.rl_model.specs.declared.rows.Item.TheVariants as item
use Rattle.rl_split.specs.Access.{ops_of}
use Rattle.rl_access.specs.declared.event.End.{End}
use Rattle.rl_access.specs.declared.event.End.TheVariants as end
use Rattle.rl_access.specs.declared.event.Event.{Event}
use Rattle.rl_access.specs.declared.event.Op.{Op}
use Rattle.rl_access.specs.declared.event.Op.TheVariants as op
use Rattle.rl_access.specs.declared.trace.TraceItem.{TraceItem}
use Rattle.rl_access.specs.Items.{AreSent, asked_by, failed_at, state_after_all, port_for, adapter_for}
use Rattle.rl_access.specs.Model.{ModelData}
use Rattle.rl_access.specs.Rules.{marked, Outcome, quiet, or_error, grant, named, sends, outcome, memory_event, event_of, map_used, location_bytes, location_value, value_differs}
use Rattle.rl_access.specs.Rules.{found_by, device_after, deposited, asks_of}
use Rattle.rl_access.specs.Call.{scene, Performs}
use Rattle.rl_access.proofs.BackPerforms.{quiet_performs, told_memory_event}
use Rattle.rl_access.proofs.Performed.{performs_done}

-- ---- one whose items were sent

mapped_same : (f g : State → State) (told : Option State) → ((d : State) → f d ≡ g d) → option_map g told ≡ option_map f told
mapped_same f g None same = refl
mapped_same f g (Some d) same = ap Some (sym (same d))

pub sent_performs : (m new : ModelData) (before now : List Standing) (account later : Account) (told after : Option State) (op : Op) (place : ℕ) (event : Event) → grant m op ≡ Ok place
    → AreSent (adapter_for m.layout place) (port_for m.layout place) (sends m op place) event.trace before now account later told after
    → event ≡ event_of m (named m op) event.trace (outcome m op place 0 event.trace) → new ≡ (outcome m op place 0 event.trace).model
    → ((d : State) → 0 ≡ found_by d op) → ((items : List TraceItem) (d : State) → device_after m op 0 items d ≡ state_after_all d items)
    → ((items : List TraceItem) → asks_of op (deposited m op 0) items ≡ map asked_by items)
    → Performs (scene m before account told) (scene new now later after) op event
sent_performs m new before now account later told after op place event granted sent is_event is_model found steps asks =
    performs_done (scene m before account told) (scene new now later after) op place event granted (record {
      sampled = 0;
      items = sent.items_are;
      adapters = sent.adapters;
      asked = subst (λ xs. AsksAll account xs later) (sym (asks event.trace)) sent.asked;
      event_is = is_event;
      model = is_model;
      found = λ d at. found d;
      answers = sent.run.answers;
      goes = sent.run.goes ∙ mapped_same (device_after m op 0 event.trace) (λ d. state_after_all d event.trace) told (steps event.trace);
    })

-- ---- the frontdoor of a memory

ended_as : (f : Option ℕ) (m : ModelData) (good : End) (e : End) → e ≡ (or_error f m (quiet good m)).end → quiet e m ≡ or_error f m (quiet good m)
ended_as None m good e is = ap (λ x. quiet x m) is
ended_as (Some k) m good e is = ap (λ x. quiet x m) is

-- the mark of a check
checked_as : (f : Option ℕ) (m : ModelData) (read value : ℕ) (e : End) → e ≡ (or_error f m (quiet (end.Value read) m)).end
    → record { end = e; model = m; differ = value_differs e value } ≡ or_error f m (record { end = end.Value read; model = m; differ = if read == value then 0 else 1 })
checked_as None m read value e is = ap (λ x. record { end = x; model = m; differ = value_differs x value }) is
checked_as (Some k) m read value e is = ap (λ x. record { end = x; model = m; differ = value_differs x value }) is

stays : (f : Option ℕ) (m : ModelData) (good : Outcome) → good.model ≡ m → m ≡ (or_error f m good).model
stays None m good e = sym e
stays (Some k) m good e = refl

-- the event of the call, with the map used
told_as : (o good : Outcome) (op named : Op) (items : List TraceItem) (event : Event) → event ≡ memory_event op items o → op ≡ named → o ≡ good → (event.trace ≡ items) × (event ≡ memory_event named
    event.trace good)
told_as o good op named items event e same is =
    let t : event.trace ≡ items = ap (λ (x : Event). x.trace) e in
    (t, e ∙ ap (λ x. memory_event x items o) same ∙ ap (memory_event named items) is ∙ ap (λ x. memory_event named x good) (sym t))

-- a read of a location, or a check of it
abbrev pub IsLocationRead : Op → (mem index : ℕ) → Type 0
IsLocationRead o mem index = ((map : Option ℕ) × (o ≡ op.MemRead mem map index)) ⊎ ((map : Option ℕ) × (value : ℕ) × (o ≡ op.MemCheck mem map index value))

module _ (m : ModelData) (before now : List Standing) (account later : Account) (told after : Option State) where
  -- the items of the operations through the adapter of a place
  abbrev WereSent : (place : ℕ) → List BusOp → List TraceItem → Type 0
  WereSent place ops items = AreSent (adapter_for m.layout place) (port_for m.layout place) ops items before now account later told after

  abbrev Done : Op → Event → Type 0
  Done op event = Performs (scene m before account told) (scene m now later after) op event

  -- the event by the name of an operation
  told_of : (o asked told_op : Op) (items : List TraceItem) (e : End) (event : Event) → o ≡ asked → told_op ≡ named m o →
      event ≡ memory_event told_op items (record { end = e; model = m; differ = marked o e }) → event ≡ memory_event (named m asked) items (record { end = e; model = m; differ = marked asked e })
  told_of o asked told_op items e event is names is_event =
      is_event
      ∙ ap (λ t. memory_event t items (record { end = e; model = m; differ = marked o e })) names
      ∙ ap (λ x. memory_event (named m x) items (record { end = e; model = m; differ = marked x e })) is

  pub mem_write_performs : (mem index value place : ℕ) (map used : Option ℕ) (e : End) (items : List TraceItem) (event : Event) → grant m (op.MemWrite mem map index value) ≡ Ok place →
      used ≡ map_used m (item.Mem mem) map
      → WereSent place (ops_of m.layout place index (location_bytes m mem) value true) items → e ≡ (or_error (failed_at items) m (quiet end.Done m)).end
      → event ≡ memory_event (op.MemWrite mem used index value) items (quiet e m) → Done (op.MemWrite mem map index value) event
  mem_write_performs mem index value place map used e items event granted is_map sent is_end is_event =
      let good = λ (x : List TraceItem). or_error (failed_at x) m (quiet end.Done m) in
      let t = told_as (quiet e m) (good items) (op.MemWrite mem used index value) (op.MemWrite mem (map_used m (item.Mem mem) map) index value) items event is_event (ap (λ u. op.MemWrite mem u index
      value) is_map) (ended_as (failed_at items) m end.Done e is_end) in
      sent_performs m m before now account later told after (op.MemWrite mem map index value) place event granted
      (subst (WereSent place (ops_of m.layout place index (location_bytes m mem) value true)) (sym t.0) sent)
      (subst (λ x. event ≡ memory_event (op.MemWrite mem (map_used m (item.Mem mem) map) index value) event.trace (good x)) (sym t.0) t.1)
      (stays (failed_at event.trace) m (quiet end.Done m) refl) (λ d. refl) (λ x d. refl) (λ x. refl)

  pub mem_read_performs : (mem index place : ℕ) (map used : Option ℕ) (e : End) (items : List TraceItem) (event : Event) → grant m (op.MemRead mem map index) ≡ Ok place →
      used ≡ map_used m (item.Mem mem) map
      → WereSent place (ops_of m.layout place index (location_bytes m mem) 0 false) items → e ≡ (or_error (failed_at items) m (quiet (end.Value (location_value m mem place index items)) m)).end
      → event ≡ memory_event (op.MemRead mem used index) items (quiet e m) → Done (op.MemRead mem map index) event
  mem_read_performs mem index place map used e items event granted is_map sent is_end is_event =
      let good = λ (x : List TraceItem). or_error (failed_at x) m (quiet (end.Value (location_value m mem place index x)) m) in
      let t = told_as (quiet e m) (good items) (op.MemRead mem used index) (op.MemRead mem (map_used m (item.Mem mem) map) index) items event is_event (ap (λ u. op.MemRead mem u index) is_map)
      (ended_as (failed_at items) m (end.Value (location_value m mem place index items)) e is_end) in
      sent_performs m m before now account later told after (op.MemRead mem map index) place event granted
      (subst (WereSent place (ops_of m.layout place index (location_bytes m mem) 0 false)) (sym t.0) sent)
      (subst (λ x. event ≡ memory_event (op.MemRead mem (map_used m (item.Mem mem) map) index) event.trace (good x)) (sym t.0) t.1)
      (stays (failed_at event.trace) m (quiet (end.Value (location_value m mem place index event.trace)) m) refl) (λ d. refl) (λ x d. refl) (λ x. refl)

  pub mem_check_performs : (mem index value place : ℕ) (map used : Option ℕ) (e : End) (differ : ℕ) (items : List TraceItem) (event : Event) → grant m (op.MemCheck mem map index value) ≡ Ok place →
      used ≡ map_used m (item.Mem mem) map
      → WereSent place (ops_of m.layout place index (location_bytes m mem) 0 false) items → e ≡ (or_error (failed_at items) m (quiet (end.Value (location_value m mem place index items)) m)).end →
      differ ≡ value_differs e value
      → event ≡ memory_event (op.MemCheck mem used index value) items (record { end = e; model = m; differ = differ }) → Done (op.MemCheck mem map index value) event
  mem_check_performs mem index value place map used e differ items event granted is_map sent is_end is_mark is_event =
      let good = λ (x : List TraceItem). or_error (failed_at x) m (record {
        end = end.Value (location_value m mem place index x);
        model = m;
        differ = if location_value m mem place index x == value
            then 0 else 1;
      }) in
      let t = told_as (record { end = e; model = m; differ = differ }) (good items) (op.MemCheck mem used index value) (op.MemCheck mem (map_used m (item.Mem mem) map) index value) items event
      is_event (ap (λ u. op.MemCheck mem u index value) is_map) (ap (λ x. record { end = e; model = m; differ = x }) is_mark ∙ checked_as (failed_at items) m (location_value m mem place index
      items) value e is_end) in
      sent_performs m m before now account later told after (op.MemCheck mem map index value) place event granted
      (subst (WereSent place (ops_of m.layout place index (location_bytes m mem) 0 false)) (sym t.0) sent)
      (subst (λ x. event ≡ memory_event (op.MemCheck mem (map_used m (item.Mem mem) map) index value) event.trace (good x)) (sym t.0) t.1)
      (stays (failed_at event.trace) m (record {
        end = end.Value (location_value m mem place index event.trace);
        model = m;
        differ = if location_value m mem place index event.trace == value then 0
            else 1;
      }) refl) (λ d. refl) (λ x d. refl) (λ x. refl)

  -- a read of a location, or a check of it
  pub location_read_performs : (o told_op : Op) (mem index place : ℕ) (e : End) (items : List TraceItem) (event : Event) → IsLocationRead o mem index → grant m o ≡ Ok place → told_op ≡ named m o
      → WereSent place (ops_of m.layout place index (location_bytes m mem) 0 false) items → e ≡ (or_error (failed_at items) m (quiet (end.Value (location_value m mem place index items)) m)).end
      → event ≡ memory_event told_op items (record { end = e; model = m; differ = marked o e }) → Done o event
  location_read_performs o told_op mem index place e items event (inl is) granted names sent is_end is_event =
      subst (λ x. Done x event) (sym is.1)
      (mem_read_performs mem index place is.0 (map_used m (item.Mem mem) is.0) e items event (sym (ap (grant m) is.1) ∙ granted) refl sent is_end
      (told_of o (op.MemRead mem is.0 index) told_op items e event is.1 names is_event))
  location_read_performs o told_op mem index place e items event (inr is) granted names sent is_end is_event =
      subst (λ x. Done x event) (sym is.2)
      (mem_check_performs mem index is.1 place is.0 (map_used m (item.Mem mem) is.0) e (value_differs e is.1) items event (sym (ap (grant m) is.2) ∙ granted) refl sent is_end refl
      (told_of o (op.MemCheck mem is.0 index is.1) told_op items e event is.2 names is_event))

-- ---- the backdoor of a memory

pub mem_poke_performs : (m : ModelData) (account later : Account) (told after : Option State) (mem index value place : ℕ) (items : List TraceItem) (event : Event) → grant m (op.MemPoke mem index value) ≡ Ok
    place
    → after ≡ option_map (λ d. poked d (cell.Loc mem index) value) told → items ≡ [] → event ≡ memory_event (op.MemPoke mem index value) items (quiet end.Done m) → Asks account later (ask.poke (cell.Loc mem index) value)
    → (adapters : List Standing) → Performs (scene m adapters account told) (scene m adapters later after) (op.MemPoke mem index value) event
mem_poke_performs m account later told after mem index value place items event granted goes empty is_event asked =
    quiet_performs m m account later told after (op.MemPoke mem index value) place 0 event granted refl
    (told_memory_event (op.MemPoke mem index value) items (quiet end.Done m) (quiet end.Done m) event is_event empty refl)
    refl (asks_one account later (ask.poke (cell.Loc mem index) value) asked) (λ d at. refl) goes
