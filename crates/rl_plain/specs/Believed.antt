-- What is believed of each register after an access, and after a deposit that the model takes over.
use Rattle.std.specs.Prelude.{◌≡◌, ℕ, ◌^◌, ◌<◌, false, length, Option, option_map, Some, Ok}
use Rattle.rl_policy.specs.declared.policy.Policy.TheVariants.{Rw}
use Rattle.rl_bus.specs.State.{poked}
use Rattle.rl_bus.specs.declared.table.Cell.TheVariants as cell
use Rattle.rl_model.specs.Fields.{fields_of, field_in, policy_in}
use Rattle.rl_model.specs.Rows.{ChipData}
use Rattle.rl_mirror.specs.Fields.{owned}
use Rattle.rl_mirror.specs.Mirror.{mirrored_of}
use Rattle.rl_access.specs.declared.event.End.TheVariants as end
use Rattle.rl_access.specs.declared.event.Event.{Event}
use Rattle.rl_access.specs.declared.event.Op.{Op}
use Rattle.rl_access.specs.declared.event.Op.TheVariants as op
use Rattle.rl_access.specs.Call.{Scene, Performs}
use Rattle.rl_access.specs.Model.{IsModel, IsSameChip}
use Rattle.rl_access.specs.Operation.{register_of, HasNumbers, IsMapIn}
use Rattle.rl_access.specs.Rules.{grant, taking_raw}
use Rattle.rl_access.specs.Tally.{is_bus_error}
use Rattle.rl_plain.specs.Agree.{Agree, believed}
use Rattle.rl_plain.specs.OneStep.{IsAccess, register_after, step_of, end_of}

-- every register but this one is believed to be what it was
abbrev pub LeavesOthers : Scene → Scene → (reg : ℕ) → Type 0
LeavesOthers s new reg =
    (q : ℕ) → q < length s.model.chip.regs → (q ≡ reg → ⊥)
    → mirrored_of new.model.mirror q ≡ mirrored_of s.model.mirror q

-- ---- an access

-- what is believed of its register takes the access's step, of every other register it stays, and the end is the step's
pub record IsBelievedStep (s new : Scene) (op : Op) (event : Event) (place reg : ℕ) : Type 0 where
  pub agree : Agree new
  pub same : IsSameChip s.model new.model
  pub here : mirrored_of new.model.mirror reg
      ≡ (register_after (fields_of s.model.chip reg) (step_of s.model op place)
      (believed s.model.chip s.model.mirror reg)).bits
  pub others : LeavesOthers s new reg
  pub ends : event.end ≡ end_of s.model op place (believed s.model.chip s.model.mirror reg)
  pub no_error : is_bus_error event.end ≡ false

-- from agreement, an access that isn't refused is a step of what is believed
abbrev pub AccessIsBelieved : Type 0
AccessIsBelieved =
    (s new : Scene) (op : Op) (event : Event) (place reg : ℕ)
    → IsAccess op → HasNumbers s.model.chip (length s.model.layout.maps) op → register_of s.model.chip op ≡ Some reg
    → IsModel s.model → Agree s → grant s.model op ≡ Ok place → Performs s new op event
    → IsBelievedStep s new op event place reg

-- ---- a register that is stored as it is written

-- it has one field alone, which is RW and has so many bits from bit 0 on
pub record IsStored (c : ChipData) (reg width : ℕ) : Type 0 where
  pub one : length (fields_of c reg) ≡ 1
  pub lsb : (field_in (fields_of c reg) 0).shape.lsb ≡ 0
  pub width_is : (field_in (fields_of c reg) 0).shape.width ≡ width
  pub policy : policy_in (fields_of c reg) 0 ≡ Rw

-- from agreement, once a write of such a register was done, it is believed to have the value
abbrev pub WriteIsStored : Type 0
WriteIsStored =
    (s new : Scene) (event : Event) (reg width value : ℕ) (map : Option ℕ)
    → reg < length s.model.chip.regs → IsMapIn (length s.model.layout.maps) map
    → IsStored s.model.chip reg width → value < 2 ^ width
    → IsModel s.model → Agree s → Performs s new (op.Write reg map value) event → event.end ≡ end.Done
    → mirrored_of new.model.mirror reg ≡ value

-- ---- a deposit

-- the bits go into the register of the device, and the model takes them over
pub record IsTakenOver (s new : Scene) (reg value : ℕ) : Type 0 where
  pub device : new.device ≡ option_map (λ d. poked d (cell.Reg reg) value) s.device
  pub model : new.model ≡ taking_raw s.model reg value

-- the register is believed to have those of the bits that belong to a field, and every other one stays
pub record IsBelievedDeposit (s new : Scene) (reg value : ℕ) : Type 0 where
  pub agree : Agree new
  pub here : mirrored_of new.model.mirror reg ≡ owned (fields_of s.model.chip reg) value
  pub others : LeavesOthers s new reg

-- a deposit that the model takes over leaves agreement; the register needs no backdoor for it
abbrev pub DepositIsBelieved : Type 0
DepositIsBelieved =
    (s new : Scene) (reg value : ℕ)
    → reg < length s.model.chip.regs → IsModel s.model → Agree s → IsTakenOver s new reg value
    → IsBelievedDeposit s new reg value
