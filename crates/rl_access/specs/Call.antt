-- One call: from what there is before it to what there is after it.
use Rattle.std.specs.Prelude.{◌≡◌, ◌≤◌, ℕ, Bool, true, false, List, map, Option, Some, option_map, MatchResult}
use Rattle.rl_bus.specs.Account.{Account, AsksAll}
use Rattle.rl_bus.specs.Standing.{Standing, standing_at}
use Rattle.rl_bus.specs.State.{State}
use Rattle.rl_access.specs.declared.access.Access.{Access}
use Rattle.rl_access.specs.declared.event.End.{End}
use Rattle.rl_access.specs.declared.event.Event.{Event}
use Rattle.rl_access.specs.declared.event.Op.{Op}
use Rattle.rl_access.specs.declared.event.Refused.{Refused}
use Rattle.rl_access.specs.declared.trace.TraceItem.{TraceItem}
use Rattle.rl_access.specs.Items.{AreItemsOf, AreSent, items_of, moved_on_by_all, port_for, adapter_for}
use Rattle.rl_access.specs.Event.{EventFits}
use Rattle.rl_access.specs.Model.{ModelData, IsDeviceOf, IsReady, IsSameChip}
use Rattle.rl_access.specs.Rules.{grant, named, sends, Outcome, outcome, event_of, refused_event, found_by, device_after, deposited, asks_of, access_ops, register_event, write_outcome, read_outcome}

-- what a call meets and leaves
pub record Scene : Type 0 where
  pub model : ModelData
  pub adapters : List Standing
  pub account : Account
  pub device : Option State

abbrev pub scene : ModelData → List Standing → Account → Option State → Scene
scene model adapters account device =
    record { model = model; adapters = adapters; account = account; device = device }

-- a model, adapters as their callers see them, and a device with its account and the state that it tells
abbrev pub scene_of : {A D : Type 0} → (A → Standing) → (D → Account) → (D → Option State) → ModelData → List A → D → Scene
scene_of standing account state model adapters device =
    scene model (map standing adapters) (account device) (state device)

-- a refused operation changes nothing
pub record IsRefused (s new : Scene) (op : Op) (why : Refused) (event : Event) : Type 0 where
  pub event_is : event ≡ refused_event s.model (named s.model op) why
  pub unchanged : new ≡ s

-- what a granted operation does
pub record IsDone (s new : Scene) (op : Op) (place : ℕ) (event : Event) : Type 0 where
  -- the bits that the device was found to have, where the backdoor reads them
  pub sampled : ℕ
  -- the items are those of its operations, and each adapter moves by them
  pub items :
      AreItemsOf (standing_at s.adapters (adapter_for s.model.layout place)) (port_for s.model.layout place)
      (sends s.model op place) event.trace
  pub adapters : new.adapters ≡ moved_on_by_all s.adapters (adapter_for s.model.layout place) event.trace
  -- the device was asked exactly this; an item failed only where its count of errors rose
  pub asked : AsksAll s.account (asks_of op (deposited s.model op sampled) event.trace) new.account
  -- the event and the model are what the rules make of these
  pub event_is : event ≡ event_of s.model (named s.model op) event.trace (outcome s.model op place sampled event.trace)
  pub model : new.model ≡ (outcome s.model op place sampled event.trace).model
  -- the device, where it tells its state
  pub found : (d : State) → s.device ≡ Some d → sampled ≡ found_by d op
  pub answers : (d : State)
      → s.device ≡ Some d
      → event.trace
      ≡ items_of (standing_at s.adapters (adapter_for s.model.layout place)) d (port_for s.model.layout place)
      (sends s.model op place)
  pub goes : new.device ≡ option_map (device_after s.model op sampled event.trace) s.device

-- ---- one access to a register, in an operation that has this name

-- the operations of a write, or of a read, of this access went out at its place
abbrev pub WereSent : Scene → Scene → Access → Bool → List TraceItem → Type 0
WereSent s new a write items =
    AreSent (adapter_for s.model.layout a.place) (port_for s.model.layout a.place) (access_ops s.model a write) items
    s.adapters new.adapters s.account new.account s.device new.device

-- it was written, or read, and this was made of its items
pub record IsAccessed (s new : Scene) (op : Op) (a : Access) (write : Bool) (o : List TraceItem → Outcome)
    (event : Event) : Type 0 where
  pub sent : WereSent s new a write event.trace
  pub event_is : event ≡ register_event op a.reg event.trace (o event.trace)
  pub model : new.model ≡ (o event.trace).model

-- it was written, and where no item failed the operation ended so
abbrev pub IsWrittenBy : Scene → Scene → Op → Access → (good : End) → Event → Type 0
IsWrittenBy s new op a good event = IsAccessed s new op a true (write_outcome s.model good a) event

-- it was read
abbrev pub IsReadBy : Scene → Scene → Op → Access → (check : Bool) → Event → Type 0
IsReadBy s new op a check event = IsAccessed s new op a false (read_outcome s.model check a) event

-- ---- one operation

-- the operation is refused by its first cause, or done
abbrev pub Performs : Scene → Scene → Op → Event → Type 0
Performs s new op event =
    MatchResult (grant s.model op) (λ place. IsDone s new op place event) (λ why. IsRefused s new op why event)

-- What a call over the bus does, and what it leaves for the next one: the next call may follow,
-- the chip and the layout are the same, and the event can be told of the model.
pub record Does (s new : Scene) (op : Op) (event : Event) : Type 0 where
  pub performs : Performs s new op event
  pub ready : IsReady new.model new.adapters new.device
  pub parts : IsSameChip s.model new.model
  pub fits : EventFits new.model event

-- an operation that meets no adapter and no device, beside any of them
abbrev pub PerformsAlone : ModelData → ModelData → Op → Event → Type 0
PerformsAlone m new op event =
    (adapters : List Standing) (account : Account) (device : Option State)
    → Performs (scene m adapters account device) (scene new adapters account device) op event

-- an operation that goes round the bus, beside any adapters
abbrev pub PerformsOffBus :
    {D : Type 0} → (D → Account) → (D → Option State) → (m new : ModelData) → (before after : D) → Op → Event → Type 0
PerformsOffBus account state m new before after op event =
    (adapters : List Standing)
    → Performs (scene m adapters (account before) (state before))
    (scene new adapters (account after) (state after)) op event

-- what such an operation leaves for the next call: the device goes with the model,
-- the chip and the layout are the same, and the event can be told of the model
pub record StaysOffBus {D : Type 0} (account : D → Account) (state : D → Option State) (m new : ModelData)
    (before after : D) (event : Event) : Type 0 where
  pub device : IsDeviceOf new (state after)
  pub parts : IsSameChip m new
  pub fits : EventFits new event
  pub later : (account before).errors ≤ (account after).errors
