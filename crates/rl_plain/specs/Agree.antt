-- A device and a model that agree, and the calls that leave them in agreement.
use Rattle.std.specs.Prelude.{◌≡◌, ℕ, ◌<◌, Bool, false, List, length, slice_index, Option, None, Some}
use Rattle.rl_policy.specs.Bits.{bit}
use Rattle.rl_policy.specs.Table.{spends_mark}
use Rattle.rl_bus.specs.State.{State, first_state}
use Rattle.rl_model.specs.Chip.{IsSound as IsSoundChip}
use Rattle.rl_model.specs.Rows.{FieldSeen, ChipData}
use Rattle.rl_model.specs.Fields.{field_of, fields_of, policy_in, place_at}
use Rattle.rl_map.specs.Layout.{LayoutData}
use Rattle.rl_map.specs.Tables.{setup_of}
use Rattle.rl_split.specs.Step.{Register}
use Rattle.rl_split.specs.Law.{IsReady, Holds, HasLocation, no_flaws}
use Rattle.rl_mirror.specs.Mirror.{MirrorData, mirrored_of, marks_in}
use Rattle.rl_mirror.specs.Prediction.{fresh}
use Rattle.rl_access.specs.declared.event.Event.{Event}
use Rattle.rl_access.specs.declared.event.Op.{Op}
use Rattle.rl_access.specs.Call.{Scene, Performs}
use Rattle.rl_access.specs.Gathering.{IsNothingGathered}
use Rattle.rl_access.specs.Model.{IsModel}
use Rattle.rl_access.specs.Operation.{location_size, HasNumbers}
use Rattle.rl_access.specs.Rules.{memory_size}
use Rattle.rl_plain.specs.Sorts as sort
use Rattle.rl_plain.specs.Sorts.{Sort, IsOf}

-- what is believed of a register: its mirrored value, and the marks of its fields
abbrev pub believed : ChipData → MirrorData → (reg : ℕ) → Register
believed c m reg = record { bits = mirrored_of m reg; spent = marks_in c m.spent reg }

-- a write of the field that the bit belongs to spends it
abbrev pub is_spendable : List FieldSeen → Option ℕ → Bool
is_spendable fields None = false
is_spendable fields (Some k) = spends_mark (policy_in fields k)

-- no other bit of the device is marked
abbrev pub IsMarkedAlone : ChipData → State → (reg : ℕ) → Type 0
IsMarkedAlone c d reg =
    (b : ℕ) → b < 64 → is_spendable (fields_of c reg) (place_at (fields_of c reg) b) ≡ false
    → bit (slice_index d.marks reg) b ≡ false

abbrev pub HasNoVolatile : ChipData → Type 0
HasNoVolatile c = (n : ℕ) → n < length c.fields → (field_of c n).shape.volatile ≡ false

-- The device has this chip and this layout, no flaw, and beats of 0. No field is volatile.
-- Each register has its mirrored value and the marks of its fields, and no other bit is marked.
pub record IsAsBelieved (c : ChipData) (l : LayoutData) (m : MirrorData) (d : State) : Type 0 where
  pub ready : IsReady c l d
  pub steady : HasNoVolatile c
  pub holds : (reg : ℕ) → reg < length c.regs → Holds c d reg (believed c m reg)
  pub alone : (reg : ℕ) → reg < length c.regs → IsMarkedAlone c d reg

-- a device that tells its state agrees with the model, whose predictor has gathered no word
pub record Agree (s : Scene) : Type 0 where
  pub device : State
  pub told : s.device ≡ Some device
  pub believed_is : IsAsBelieved s.model.chip s.model.layout s.model.mirror device
  pub gathered : IsNothingGathered s.model.gathered

-- the operations of a sort leave a device and a model that agree in agreement, also where they are refused
abbrev pub KeepsAgreement : Sort → Type 0
KeepsAgreement kind =
    (s new : Scene) (op : Op) (event : Event)
    → IsOf kind op → HasNumbers s.model.chip (length s.model.layout.maps) op → IsModel s.model
    → Agree s → Performs s new op event
    → Agree new

-- the operations that concern desired values alone, or nothing
abbrev pub IsWish : Op → Type 0
IsWish op = IsOf sort.wish op

-- those of the backdoor on registers
abbrev pub IsBackdoor : Op → Type 0
IsBackdoor op = IsOf sort.backdoor op

-- and on memories
abbrev pub IsMemoryBackdoor : Op → Type 0
IsMemoryBackdoor op = IsOf sort.memory_backdoor op

abbrev pub IsReset : Op → Type 0
IsReset op = IsOf sort.reset op

-- ---- accesses to a memory over the bus

-- on memories over the bus
abbrev pub IsMemoryAccess : Op → Type 0
IsMemoryAccess op = IsOf sort.memory_access op

-- the device has each location of the memories, and nothing past its bytes in it
abbrev pub HasLocations : ChipData → State → Type 0
HasLocations c d =
    (mem index : ℕ) → mem < length c.mems → index < memory_size c mem → HasLocation d mem index (location_size c mem)

-- an access to a memory over the bus leaves a device and a model that agree in agreement
abbrev pub MemoryAccessKeepsAgreement : Type 0
MemoryAccessKeepsAgreement =
    (s new : Scene) (op : Op) (event : Event)
    → IsMemoryAccess op → HasNumbers s.model.chip (length s.model.layout.maps) op → IsModel s.model
    → (a : Agree s) → HasLocations s.model.chip a.device → Performs s new op event → Agree new

-- ---- where they begin

-- a new device without flaws, with so many locations, and a new model of the same chip and layout
abbrev pub NewOnesAgree : Type 0
NewOnesAgree =
    (s : Scene) (count : ℕ) → IsSoundChip s.model.chip → HasNoVolatile s.model.chip
    → s.model.mirror ≡ fresh s.model.chip → IsNothingGathered s.model.gathered
    → s.device ≡ Some (first_state (setup_of s.model.chip s.model.layout no_flaws) count)
    → Agree s
