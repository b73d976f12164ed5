-- An access over the bus is one step of its register.
use Rattle.std.specs.Prelude.{◌≡◌, ℕ, ◌-◌, Bool, true, false, if◌then◌else◌, List, length, Some, Ok}
use Rattle.rl_bus.specs.State.{State}
use Rattle.rl_model.specs.Rows.{FieldSeen, ChipData}
use Rattle.rl_model.specs.Fields.{field_of, first_of, fields_of}
use Rattle.rl_split.specs.Step.{Register, every, only, wstep, rstep, ranswer}
use Rattle.rl_split.specs.Law.{IsReady, Holds, after_wstep, after_rstep}
use Rattle.rl_mirror.specs.Fields.{part_of}
use Rattle.rl_mirror.specs.Prediction.{needs_update, update_word_of, neutral_around}
use Rattle.rl_access.specs.declared.event.End.{End}
use Rattle.rl_access.specs.declared.event.End.TheVariants as end
use Rattle.rl_access.specs.declared.event.Event.{Event}
use Rattle.rl_access.specs.declared.event.Op.{Op}
use Rattle.rl_access.specs.declared.event.Op.TheVariants as op
use Rattle.rl_access.specs.Call.{Scene, Performs}
use Rattle.rl_access.specs.Model.{ModelData, IsModel}
use Rattle.rl_access.specs.Operation.{reg_of, register_of, HasNumbers}
use Rattle.rl_access.specs.Rules.{grant, is_alone, field_alone}
use Rattle.rl_access.specs.Tally.{is_bus_error}
use Rattle.rl_plain.specs.Sorts as sort
use Rattle.rl_plain.specs.Sorts.{IsOf}

-- ---- steps of a register

-- a write of a word to some of its fields, a read of some, or nothing
pub data Step : Type 0 where
  write_step : (chosen : ℕ → Bool) → (word : ℕ) → Step
  read_step : (chosen : ℕ → Bool) → Step
  no_step : Step

-- the register after it
abbrev pub register_after : List FieldSeen → Step → Register → Register
register_after fields (write_step chosen word) r = wstep fields chosen word r
register_after fields (read_step chosen) r = rstep fields chosen r
register_after fields no_step r = r

-- and the device, which took so many items: other registers, and the memories, stay
abbrev pub device_after : ChipData → State → (reg : ℕ) → Step → Register → (count : ℕ) → State
device_after c d reg (write_step chosen word) r count =
    after_wstep c d reg (wstep (fields_of c reg) chosen word r) count
device_after c d reg (read_step chosen) r count = after_rstep d reg (rstep (fields_of c reg) chosen r) count
device_after c d reg no_step r count = d

-- ---- the step of an operation

-- the field's number among those of its register
abbrev pub own_field : ChipData → ℕ → ℕ → Bool
own_field c field = only (field - first_of c (reg_of c field))

-- the fields that an access to a field reaches: itself alone where it is narrow
abbrev pub reached_fields : ModelData → (field place : ℕ) → Bool → ℕ → Bool
reached_fields m field place write = if is_alone m field place write then own_field m.chip field else every

-- and the word that it writes
abbrev pub field_word : ModelData → (field place value : ℕ) → ℕ
field_word m field place value =
    if is_alone m field place true then (field_alone m field place value).value
    else neutral_around m.chip field value m.mirror

abbrev pub step_of : ModelData → Op → (place : ℕ) → Step
step_of m (op.Write reg map value) place = write_step every value
step_of m (op.Read reg map) place = read_step every
step_of m (op.Mirror reg map) place = read_step every
step_of m (op.Check reg map) place = read_step every
step_of m (op.FieldWrite field map value) place =
    write_step (reached_fields m field place true) (field_word m field place value)
step_of m (op.FieldRead field map) place = read_step (reached_fields m field place false)
step_of m (op.Update reg map) place =
    if needs_update m.mirror reg then write_step every (update_word_of m.chip reg m.mirror)
    else no_step
step_of m (op.OtherWrite reg map value) place = write_step every value
step_of m (op.OtherRead reg map) place = read_step every
step_of m _ place = no_step

-- how it ends: a value read is what the register answers, and in a field access the field's part of that
abbrev pub end_of : ModelData → Op → (place : ℕ) → Register → End
end_of m (op.Read reg map) place r = end.Value (ranswer (fields_of m.chip reg) every r)
end_of m (op.Mirror reg map) place r = end.Value (ranswer (fields_of m.chip reg) every r)
end_of m (op.Check reg map) place r = end.Value (ranswer (fields_of m.chip reg) every r)
end_of m (op.FieldRead field map) place r =
    end.Value (part_of (field_of m.chip field).shape
    (ranswer (fields_of m.chip (reg_of m.chip field)) (reached_fields m field place false) r))
end_of m (op.Update reg map) place r =
    if needs_update m.mirror reg then end.Sent (update_word_of m.chip reg m.mirror)
    else end.Nothing
end_of m (op.OtherRead reg map) place r = end.Value (ranswer (fields_of m.chip reg) every r)
end_of m _ place r = end.Done

-- ---- the law

-- the operations that reach a register over the bus
abbrev pub IsAccess : Op → Type 0
IsAccess op = IsOf sort.access op

-- a model, and a device that tells its state: one without flaws whose beats are all 0, and that holds the register with
-- one mark in each of its fields
pub record Meets (s : Scene) (d : State) (reg : ℕ) (r : Register) : Type 0 where
  pub model : IsModel s.model
  pub told : s.device ≡ Some d
  pub ready : IsReady s.model.chip s.model.layout d
  pub holds : Holds s.model.chip d reg r

-- the device made the step, is again such a device, and the operation ended without a bus error
pub record IsOneStep (s new : Scene) (op : Op) (event : Event) (place reg : ℕ) (d : State) (r : Register) : Type 0 where
  pub after : State
  pub told : new.device ≡ Some after
  pub step : after ≡ device_after s.model.chip d reg (step_of s.model op place) r (length event.trace)
  pub ready : IsReady s.model.chip s.model.layout after
  pub holds : Holds s.model.chip after reg (register_after (fields_of s.model.chip reg) (step_of s.model op place) r)
  pub ends : event.end ≡ end_of s.model op place r
  pub no_error : is_bus_error event.end ≡ false

-- from such a device, an access that isn't refused is one step of its register
abbrev pub AccessIsStep : Type 0
AccessIsStep =
    (s new : Scene) (op : Op) (event : Event) (place reg : ℕ) (d : State) (r : Register)
    → IsAccess op → HasNumbers s.model.chip (length s.model.layout.maps) op
    → register_of s.model.chip op ≡ Some reg → Meets s d reg r
    → grant s.model op ≡ Ok place → Performs s new op event
    → IsOneStep s new op event place reg d r
