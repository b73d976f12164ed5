-- Which sequences find what the device holds otherwise than it is believed, as after a wrong reset value, by a check
-- that comes after a write: `bit_bash`, `access_test` and `shared_access`, where each write keeps the two apart.
use Rattle.std.specs.Prelude.{◌≡◌, ◌≢◌, ℕ, ◌+◌, ◌^◌, ◌<◌, Bool, not, All, List, [], ◌∷◌, length, slice_index, Option, Some}
use Rattle.rl_policy.specs.Bits.{bit}
use Rattle.rl_policy.specs.Table.{after_write}
use Rattle.rl_policy.specs.declared.policy.Policy.{Policy}
use Rattle.rl_policy.specs.declared.policy.Policy.TheVariants.{Ro, Rc, Rs, W1t, W0t}
use Rattle.rl_bus.specs.State.{State, first_state}
use Rattle.rl_model.specs.Chip.{IsSound, value_for}
use Rattle.rl_model.specs.Fields.{field_of, fields_of, place_at}
use Rattle.rl_model.specs.Rows.{ChipData}
use Rattle.rl_map.specs.Layout.{LayoutData}
use Rattle.rl_map.specs.Tables.{setup_of}
use Rattle.rl_mirror.specs.Mirror.{MirrorData, mirrored_of, marks_in}
use Rattle.rl_mirror.specs.Prediction.{fresh}
use Rattle.rl_access.specs.Call.{Scene}
use Rattle.rl_access.specs.HandsOver.{Told}
use Rattle.rl_access.specs.Laws.{IsComparedField}
use Rattle.rl_access.specs.Model.{IsModel}
use Rattle.rl_access.specs.Operation.{reg_of}
use Rattle.rl_seq.specs.declared.sequence.Sequence.{Sequence}
use Rattle.rl_seq.specs.declared.sequence.Sequence.TheVariants.{HwReset, BitBash, Access, Shared, MemWalk}
use Rattle.rl_detect_laws.specs.Policies.{IsReadAt}
use Rattle.rl_detect_laws.specs.Resets.{wrong_resets, HasWrongResets, IsNamedBy}
use Rattle.rl_detect_laws.specs.Visited.{RunsAll, HasEvent, IsVisited}

-- ---- the device

-- each bit of a field has the mark of a first write that is believed
abbrev pub HasMarks : ChipData → State → MirrorData → Type 0
HasMarks c d m =
    (reg b k : ℕ) → reg < length c.regs → b < 64 → place_at (fields_of c reg) b ≡ Some k
    → bit (slice_index d.marks reg) b ≡ marks_in c m.spent reg k

-- a device of this chip and this layout, without any flaws but wrong reset values, with all beats 0 and these marks
pub record IsMarkedAlike (c : ChipData) (l : LayoutData) (d : State) (m : MirrorData) : Type 0 where
  pub resets : HasWrongResets c l d
  pub beats : (port address : ℕ) → d.beats port address ≡ 0
  pub marks : HasMarks c d m

-- a bit of the field is held otherwise than it is believed
pub record IsHeldOtherwise (c : ChipData) (d : State) (m : MirrorData) (field i : ℕ) : Type 0 where
  pub field_in : field < length c.fields
  pub bit_in : i < (field_of c field).shape.width
  pub compared : IsComparedField (field_of c field).shape
  pub other :
      bit (slice_index d.bits (reg_of c field)) ((field_of c field).shape.lsb + i)
      ≢ bit (mirrored_of m (reg_of c field)) ((field_of c field).shape.lsb + i)

-- a new device with this wrong value of a field for a HARD reset
abbrev pub first_after : ChipData → LayoutData → (field taken count : ℕ) → State
first_after c l field taken count =
    first_state (setup_of c l (wrong_resets (record { field = field; kind = 0; value = taken } ∷ []))) count

-- it and new beliefs are so in some bit of the field, where the description says another value
pub record IsNewOtherwise (c : ChipData) (l : LayoutData) (field : ℕ) (d : State) : Type 0 where
  pub alike : IsMarkedAlike c l d (fresh c)
  pub i : ℕ
  pub otherwise : IsHeldOtherwise c d (fresh c) field i

abbrev pub NewOneIsHeldOtherwise : Type 0
NewOneIsHeldOtherwise =
    (c : ChipData) (l : LayoutData) (field described taken count : ℕ)
    → IsSound c → field < length c.fields → IsComparedField (field_of c field).shape
    → value_for 0 (field_of c field).resets ≡ Some described
    → taken < 2 ^ (field_of c field).shape.width → taken ≢ described
    → IsNewOtherwise c l field (first_after c l field taken count)

-- ---- the policies

-- a write leaves two different bits different
abbrev pub KeepsApart : Policy → Type 0
KeepsApart p = (held written spent : Bool) → after_write p held written spent ≢ after_write p (not held) written spent

abbrev pub PoliciesKeepApart : Type 0
PoliciesKeepApart = All KeepsApart (Ro ∷ Rc ∷ Rs ∷ W1t ∷ W0t ∷ [])

-- ---- the law

-- the sequence checks the register after a write at the place: `shared_access` at another place that may be read
abbrev pub ChecksWritten : Sequence → LayoutData → (reg place : ℕ) → Type 0
ChecksWritten HwReset l reg place = ⊥
ChecksWritten BitBash l reg place = Unit {0}
ChecksWritten Access l reg place = Unit {0}
ChecksWritten Shared l reg place = (other : ℕ) × IsReadAt l reg other × (other ≢ place)
ChecksWritten MemWalk l reg place = ⊥

-- Where such a bit belongs to a visited register, and its policy keeps it apart, some check names the field.
abbrev pub HeldOtherwiseIsNamed : Type 0
HeldOtherwiseIsNamed =
    (s new : Scene) (d : State) (which : Sequence) (block : Option ℕ) (told : List Told) (field i place : ℕ)
    → IsModel s.model → s.device ≡ Some d → IsMarkedAlike s.model.chip s.model.layout d s.model.mirror
    → IsHeldOtherwise s.model.chip d s.model.mirror field i
    → KeepsApart (field_of s.model.chip field).shape.policy
    → IsVisited which s.model.chip s.model.layout block (reg_of s.model.chip field) place
    → ChecksWritten which s.model.layout (reg_of s.model.chip field) place → RunsAll which block s told new
    → HasEvent (IsNamedBy s.model.chip field) told
