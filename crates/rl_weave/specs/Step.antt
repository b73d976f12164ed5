-- What one step of an access does, and the event that ends it.
use Rattle.std.specs.Prelude.{◌≡◌, ℕ, Bool, if◌then◌else◌, List, [], ◌∷◌, ◌++◌, length, Option, None, Some}
use Rattle.rl_access.specs.declared.event.End.{End}
use Rattle.rl_access.specs.declared.event.End.TheVariants.{Done, Value, BusError}
use Rattle.rl_access.specs.declared.event.Event.{Event}
use Rattle.rl_access.specs.declared.trace.TraceItem.{TraceItem}
use Rattle.rl_access.specs.Call.{Scene}
use Rattle.rl_access.specs.Model.{ModelData}
use Rattle.rl_access.specs.Rules.{named, register_event, quiet, whole, value_of}
use Rattle.rl_access.specs.Word.{IsWordSent}
use Rattle.rl_weave.specs.declared.weave.Sent.{Sent}
use Rattle.rl_weave.specs.declared.weave.Step.{Step}
use Rattle.rl_weave.specs.declared.woven.Woven.{Woven}
use Rattle.rl_weave.specs.Access.{op_of}
use Rattle.rl_weave.specs.Weave.{is_over}

-- ---- the event of an access that is over: its items need not have tags one after another

-- how it ends where no word failed
abbrev pub good_end : ModelData → (reg place : ℕ) → (value : Option ℕ) → List TraceItem → End
good_end m reg place None items = Value (value_of m (whole m reg place 0) items)
good_end m reg place (Some value) items = Done

-- the item is the last one, and its number is the count of those before it
abbrev pub end_with : ModelData → Woven → TraceItem → End
end_with m v item =
    if item.answer.failed then BusError (length v.items)
    else good_end m v.access.reg v.place v.access.value (v.items ++ item ∷ [])

abbrev pub event_with : ModelData → Woven → TraceItem → Event
event_with m v item =
    register_event (named m (op_of v.access)) v.access.reg (v.items ++ item ∷ []) (quiet (end_with m v item) m)

abbrev pub end_of : ModelData → Woven → TraceItem → Option Event
end_of m v item = if is_over v item then Some (event_with m v item) else None

-- the event, where the access is over
abbrev pub event_told : Bool → Event → Option Event
event_told over event = if over then Some event else None

abbrev pub step_told : Sent → Event → Step
step_told sent event = record { item = sent.item; end = event_told sent.over event }

-- ---- a step: the next word of the access goes out, the predictor sees its item,
-- and the event tells of the access that is over

pub record IsStepOf (s new : Scene) (v : Woven) (step : Step) : Type 0 where
  pub sent : IsWordSent s new v.place (length v.items) v.access.value step.item
  pub end : step.end ≡ end_of new.model v step.item
