-- Which sequence finds a wrong reset value: `hw_reset`.
use Rattle.std.specs.Prelude.{◌≡◌, ◌≢◌, ℕ, ◌-◌, ◌^◌, ◌<◌, List, length, Option, Some}
use Rattle.rl_bus.specs.declared.table.ResetRow.{ResetRow}
use Rattle.rl_bus.specs.Setup.{Setup, Flaws, reset_of}
use Rattle.rl_bus.specs.State.{State, first_state}
use Rattle.rl_model.specs.Rows.{ChipData}
use Rattle.rl_model.specs.Chip.{value_for}
use Rattle.rl_model.specs.Fields.{field_of, first_of}
use Rattle.rl_map.specs.Layout.{LayoutData}
use Rattle.rl_map.specs.Tables.{setup_of}
use Rattle.rl_split.specs.Law.{no_flaws}
use Rattle.rl_access.specs.declared.event.Event.{Event}
use Rattle.rl_access.specs.Call.{Scene}
use Rattle.rl_access.specs.HandsOver.{Told}
use Rattle.rl_access.specs.Laws.{IsComparedField, ChecksRegister, NamesField}
use Rattle.rl_access.specs.Model.{IsModel}
use Rattle.rl_access.specs.Operation.{reg_of}
use Rattle.rl_seq.specs.declared.sequence.Sequence.TheVariants.{HwReset}
use Rattle.rl_detect_laws.specs.Visited.{RunsAll, HasEvent, IsVisited}

abbrev pub wrong_resets : List ResetRow → Flaws
wrong_resets resets = record no_flaws { resets = resets }

-- a device of this chip and this layout, without any flaws but wrong reset values
pub record HasWrongResets (c : ChipData) (l : LayoutData) (d : State) : Type 0 where
  pub resets : List ResetRow
  pub setup : d.setup ≡ setup_of c l (wrong_resets resets)
  pub bits : length d.bits ≡ length c.regs
  pub marks : length d.marks ≡ length c.regs

-- A new device with wrong reset values is such a one.
abbrev pub NewOneHasWrongResets : Type 0
NewOneHasWrongResets =
    (c : ChipData) (l : LayoutData) (resets : List ResetRow) (count : ℕ)
    → HasWrongResets c l (first_state (setup_of c l (wrong_resets resets)) count)

-- at a HARD reset the field takes another value than the description says
pub record IsResetOtherwise (c : ChipData) (t : Setup) (field : ℕ) : Type 0 where
  pub described : ℕ
  pub says : value_for 0 (field_of c field).resets ≡ Some described
  pub taken : ℕ
  pub takes : reset_of t field 0 ≡ Some taken
  pub fits : taken < 2 ^ (field_of c field).shape.width
  pub other : taken ≢ described

-- the event is that of a check of the field's register, and names the field
pub record IsNamedBy (c : ChipData) (field : ℕ) (e : Event) : Type 0 where
  pub check : ChecksRegister e.op (reg_of c field)
  pub names : NamesField e (field - first_of c (reg_of c field))

-- Where a compared field of a register that `hw_reset` visits takes another value at a HARD reset than the description
-- says, some check names the field, whatever the device holds and whatever is believed before.
abbrev pub WrongResetIsNamed : Type 0
WrongResetIsNamed =
    (s new : Scene) (d : State) (block : Option ℕ) (told : List Told) (field place : ℕ)
    → IsModel s.model → s.device ≡ Some d → HasWrongResets s.model.chip s.model.layout d
    → field < length s.model.chip.fields → IsComparedField (field_of s.model.chip field).shape
    → IsResetOtherwise s.model.chip d.setup field
    → IsVisited HwReset s.model.chip s.model.layout block (reg_of s.model.chip field) place
    → RunsAll HwReset block s told new
    → HasEvent (IsNamedBy s.model.chip field) told
