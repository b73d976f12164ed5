-- What holds of every operation, whatever the device: the laws of a bus error and of a check.
use Rattle.std.specs.Prelude.{◌≡◌, ◌≢◌, ◌↔◌, ◌⊎◌, ℕ, ◌<◌, Bool, true, false, Option, length}
use Rattle.rl_policy.specs.Bits.{bit}
use Rattle.rl_policy.specs.Table.{is_write_only}
use Rattle.rl_model.specs.declared.rows.Field.{Field}
use Rattle.rl_model.specs.Fields.{fields_of, field_in}
use Rattle.rl_mirror.specs.Fields.{part_of}
use Rattle.rl_mirror.specs.Mirror.{mirrored_of}
use Rattle.rl_access.specs.declared.event.End.{End}
use Rattle.rl_access.specs.declared.event.End.TheVariants as end
use Rattle.rl_access.specs.declared.event.Event.{Event}
use Rattle.rl_access.specs.declared.event.Op.{Op}
use Rattle.rl_access.specs.declared.event.Op.TheVariants as op
use Rattle.rl_access.specs.Call.{Scene, Performs}
use Rattle.rl_access.specs.Model.{ModelData}

-- ---- a bus error leaves what is believed

-- the mirrored values, the desired values and the marks of first writes are as they were, of every register
pub record KeepsBeliefs (old new : ModelData) : Type 0 where
  pub mirrored : new.mirror.mirrored ≡ old.mirror.mirrored
  pub desired : new.mirror.desired ≡ old.mirror.desired
  pub marks : new.mirror.spent ≡ old.mirror.spent

-- An operation that ended by a bus error leaves what is believed.
abbrev pub BusErrorKeepsBeliefs : Type 0
BusErrorKeepsBeliefs =
    (s new : Scene) (op : Op) (event : Event) (word : ℕ) → Performs s new op event → event.end ≡ end.BusError word
    → KeepsBeliefs s.model new.model

-- ---- a check names the fields that differ

-- a check compares a field that isn't write-only and has `compare` set
pub record IsComparedField (f : Field) : Type 0 where
  pub readable : is_write_only f.policy ≡ false
  pub compare : f.compare ≡ true

-- it is compared, and its bits in the word that was read aren't those that were mirrored
pub record IsFoundOther (f : Field) (read mirrored : ℕ) : Type 0 where
  pub compared : IsComparedField f
  pub other : part_of f read ≢ part_of f mirrored

-- the operation is a check of this register, over the bus or by the backdoor
abbrev pub ChecksRegister : Op → (reg : ℕ) → Type 0
ChecksRegister (op.Check checked map) reg = checked ≡ reg
ChecksRegister (op.BackCheck checked) reg = checked ≡ reg
ChecksRegister _ reg = ⊥

-- bit k of `differ` stands for the register's k-th field
abbrev pub NamesField : Event → (k : ℕ) → Type 0
NamesField event k = bit event.differ k ≡ true

-- A check that read a value names exactly the compared fields whose bits in that value aren't those that were mirrored
-- before the read.
abbrev pub CheckNamesDiffering : Type 0
CheckNamesDiffering =
    (s new : Scene) (op : Op) (event : Event) (reg read k : ℕ) → Performs s new op event
    → ChecksRegister op reg → event.end ≡ end.Value read
    → NamesField event k ↔ ((k < length (fields_of s.model.chip reg))
    × IsFoundOther (field_in (fields_of s.model.chip reg) k).shape read (mirrored_of s.model.mirror reg))

-- A check of a memory's location that read a value is marked exactly where it isn't the given one.
abbrev pub MemoryCheckMarksAnother : Type 0
MemoryCheckMarksAnother =
    (s new : Scene) (event : Event) (mem index value read : ℕ) (map : Option ℕ)
    → Performs s new (op.MemCheck mem map index value) event
    → event.end ≡ end.Value read → (event.differ ≡ 1) ↔ (read ≢ value)

-- ---- and nothing else names any

abbrev pub is_any_check : Op → Bool
is_any_check (op.Check reg map) = true
is_any_check (op.BackCheck reg) = true
is_any_check (op.MemCheck mem map index value) = true
is_any_check _ = false

abbrev pub HasReadNothing : End → Type 0
HasReadNothing e = (read : ℕ) → e ≢ end.Value read

-- An operation that is no check names nothing, and neither does a check that was refused or ended by a bus error.
abbrev pub NothingElseDiffers : Type 0
NothingElseDiffers =
    (s new : Scene) (op : Op) (event : Event) → Performs s new op event
    → (is_any_check op ≡ false) ⊎ HasReadNothing event.end → event.differ ≡ 0
