-- What each call leaves of a device and a model that agree in the locations of memories too, and what a
-- reset makes of a plain machine.
use Rattle.std.specs.Prelude.{◌≡◌, ℕ, length, Some}
use Rattle.rl_mirror.specs.Prediction.{fresh}
use Rattle.rl_access.specs.declared.event.Event.{Event}
use Rattle.rl_access.specs.declared.event.Op.{Op}
use Rattle.rl_access.specs.declared.event.Op.TheVariants as op
use Rattle.rl_access.specs.Call.{Scene, Performs}
use Rattle.rl_access.specs.Gathering.{IsNothingGathered}
use Rattle.rl_access.specs.Model.{IsModel}
use Rattle.rl_access.specs.Operation.{HasNumbers}
use Rattle.rl_plain.specs.Agree.{HasNoVolatile, Agree, HasLocations}
use Rattle.rl_plain.specs.Machine.{Machine, seen, machine_step}
use Rattle.rl_plain.specs.Calls.{without_items, first_device}

-- a device and a model agree, and the device has each location of the memories
pub record AgreeWithMemories (s : Scene) : Type 0 where
  pub agree : Agree s
  pub locations : HasLocations s.model.chip agree.device

-- any operation leaves them so, on a register, a memory or neither, also where it is refused
abbrev pub EachCallKeepsAgreement : Type 0
EachCallKeepsAgreement =
    (s new : Scene) (op : Op) (event : Event)
    → HasNumbers s.model.chip (length s.model.layout.maps) op → IsModel s.model
    → AgreeWithMemories s → Performs s new op event
    → AgreeWithMemories new

-- a new device without flaws, with all locations of its memories, and a new model of the same chip and layout begin so
abbrev pub NewOnesAgreeWithMemories : Type 0
NewOnesAgreeWithMemories =
    (s : Scene) → IsModel s.model → HasNoVolatile s.model.chip
    → s.model.mirror ≡ fresh s.model.chip → IsNothingGathered s.model.gathered
    → s.device ≡ Some (first_device s.model.chip s.model.layout)
    → AgreeWithMemories s

-- what is believed after a reset, and what is told of it, is the machine's; it asks for agreement alone
abbrev pub ResetIsPlain : Type 0
ResetIsPlain =
    (s new : Scene) (kind : ℕ) (event : Event) (p : Machine)
    → Agree s → s.model ≡ seen s.model.chip s.model.layout p → Performs s new (op.Reset kind) event
    → let done = machine_step s.model.chip s.model.layout p (op.Reset kind) in
    (new.model ≡ seen s.model.chip s.model.layout done.machine) × (without_items event ≡ done.event)
