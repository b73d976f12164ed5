-- One operation over a device that reports its state: its event, and what there is after it, by what was before it.
use Rattle.std.specs.Prelude.{◌≡◌, ℕ, List, Option, Some, Ok, Err}
use Rattle.rl_bus.specs.Account.{Account, without_peer}
use Rattle.rl_bus.specs.Standing.{Standing, standing_at}
use Rattle.rl_bus.specs.State.{State}
use Rattle.rl_access.specs.declared.event.Event.{Event}
use Rattle.rl_access.specs.declared.event.Op.{Op}
use Rattle.rl_access.specs.declared.event.Refused.{Refused}
use Rattle.rl_access.specs.declared.trace.TraceItem.{TraceItem}
use Rattle.rl_access.specs.Call.{Scene, scene, Performs}
use Rattle.rl_access.specs.Items.{items_of, moved_on_by_all, port_for, adapter_for}
use Rattle.rl_access.specs.Model.{ModelData}
use Rattle.rl_access.specs.Rules.{Grant, grant, named, sends, Outcome, outcome, event_of, refused_event, found_by, device_after}

pub record World : Type 0 where
  pub model : ModelData
  pub adapters : List Standing
  pub device : State

abbrev pub world : ModelData → List Standing → State → World
world model adapters device = record { model = model; adapters = adapters; device = device }

-- these are the world's
pub record IsAt (model : ModelData) (adapters : List Standing) (device : Option State) (w : World) : Type 0 where
  pub model_is : model ≡ w.model
  pub adapters_are : adapters ≡ w.adapters
  pub device_is : device ≡ Some w.device

-- ---- the step

-- an event, and what stands after it
pub record Step : Type 0 where
  pub event : Event
  pub world : World

-- the items of an operation at its place, as the device answers them
abbrev pub items_at : World → Op → (place : ℕ) → List TraceItem
items_at w op place =
    let adapter = standing_at w.adapters (adapter_for w.model.layout place) in
    items_of adapter w.device (port_for w.model.layout place) (sends w.model op place)

abbrev pub done_with : World → Op → (place : ℕ) → List TraceItem → Outcome → Step
done_with w op place items o = record {
  event = event_of w.model (named w.model op) items o;
  world = record {
    model = o.model;
    adapters = moved_on_by_all w.adapters (adapter_for w.model.layout place) items;
    device = device_after w.model op (found_by w.device op) items w.device;
  };
}

-- what a granted operation does
abbrev pub done_at : World → Op → (place : ℕ) → Step
done_at w op place =
    let items = items_at w op place in
    done_with w op place items (outcome w.model op place (found_by w.device op) items)

-- a refused operation changes nothing
abbrev pub unchanged : World → Op → Refused → Step
unchanged w op why = record { event = refused_event w.model (named w.model op) why; world = w }

abbrev pub step_by : World → Op → Grant → Step
step_by w op (Ok place) = done_at w op place
step_by w op (Err why) = unchanged w op why

-- the operation is refused by its first cause, or done
unfoldable pub step_of : World → Op → Step
step_of w op = step_by w op (grant w.model op)

-- ---- what a call performs, over a device that tells its state, is the step

-- a scene of this world, with this account of its device
abbrev pub scene_at : World → Account → Scene
scene_at w account = scene w.model w.adapters account (Some w.device)

-- the operation was done, with this event, and led to this model, these adapters and this device
pub record IsStepOf (w : World) (op : Op) (event : Event) (model : ModelData) (adapters : List Standing)
    (device : Option State) : Type 0 where
  pub event_is : event ≡ (step_of w op).event
  pub after : IsAt model adapters device (step_of w op).world

-- a call that performs an operation does its step
abbrev pub CallDoesStep : Type 0
CallDoesStep =
    (w : World) (account : Account) (new : Scene) (op : Op) (event : Event) → Performs (scene_at w account) new op event
    → IsStepOf w op event new.model new.adapters new.device

-- by a device that has no peer, some count of errors later
pub record IsPerformed (w : World) (op : Op) (errors : ℕ) : Type 0 where
  pub later : ℕ
  pub performs :
      Performs (scene_at w (without_peer errors)) (scene_at (step_of w op).world (without_peer later)) op (step_of w op).event

-- and the step is what such a call performs
abbrev pub StepIsCall : Type 0
StepIsCall = (w : World) (op : Op) (errors : ℕ) → IsPerformed w op errors
