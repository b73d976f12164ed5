-- Which sequences find a stuck bit: `bit_bash` and `hw_reset`.
use Rattle.std.specs.Prelude.{◌≡◌, ◌≢◌, ℕ, ◌+◌, ◌*◌, ◌<◌, Bool, true, false, not, All, List, [], ◌∷◌, length, slice_index, Option, Some}
use Rattle.rl_policy.specs.Bits.{bit}
use Rattle.rl_policy.specs.Table.{after_write, after_read}
use Rattle.rl_policy.specs.declared.policy.Policy.{Policy}
use Rattle.rl_policy.specs.declared.policy.Policy.TheVariants.{Rw, Rc, Rs, Wrc, Wrs, Wc, Ws, Wsrc, Wcrs, W1c, W1s, W1t, W0c, W0s, W0t, W1src, W1crs, W0src, W0crs}
use Rattle.rl_bus.specs.declared.table.StuckRow.{StuckRow}
use Rattle.rl_bus.specs.Setup.{Flaws}
use Rattle.rl_bus.specs.State.{State, first_state}
use Rattle.rl_model.specs.Chip.{IsSound, value_for}
use Rattle.rl_model.specs.Rows.{ChipData}
use Rattle.rl_model.specs.Fields.{field_of, size_of}
use Rattle.rl_map.specs.Layout.{LayoutData}
use Rattle.rl_map.specs.Tables.{setup_of}
use Rattle.rl_split.specs.Law.{no_flaws}
use Rattle.rl_access.specs.Call.{Scene}
use Rattle.rl_access.specs.HandsOver.{Told}
use Rattle.rl_access.specs.Laws.{IsComparedField}
use Rattle.rl_access.specs.Model.{IsModel}
use Rattle.rl_access.specs.Operation.{reg_of}
use Rattle.rl_seq.specs.declared.sequence.Sequence.TheVariants.{HwReset, BitBash}
use Rattle.rl_seq.specs.Choice.{is_bit_compared}
use Rattle.rl_detect_laws.specs.Devices.{IsSetUp}
use Rattle.rl_detect_laws.specs.Resets.{IsNamedBy}
use Rattle.rl_detect_laws.specs.Visited.{RunsAll, HasEvent, IsVisited}

abbrev pub stuck_bit : StuckRow → Flaws
stuck_bit s = record no_flaws { stuck = s ∷ [] }

-- the bit's number in its register
abbrev pub bit_of : ChipData → StuckRow → ℕ
bit_of c s = (field_of c s.field).shape.lsb + s.bit

-- a device of this chip and this layout, whose only flaw is this stuck bit, with all beats 0;
-- it holds the bit as it is stuck
pub record HasStuckBit (c : ChipData) (l : LayoutData) (d : State) (s : StuckRow) : Type 0 where
  pub set_up : IsSetUp c (setup_of c l (stuck_bit s)) d
  pub open set_up use *
  pub holds : bit (slice_index d.bits (reg_of c s.field)) (bit_of c s) ≡ s.value

-- the bit belongs to a compared field
pub record IsComparedBit (c : ChipData) (s : StuckRow) : Type 0 where
  pub field_in : s.field < length c.fields
  pub bit_in : s.bit < (field_of c s.field).shape.width
  pub compared : IsComparedField (field_of c s.field).shape

-- ---- what shows it: a check that read the bit at this value leaves it believed as a read leaves it

-- a write of the other value is then believed to leave something else than what is read
abbrev pub IsShownTurned : Policy → Bool → Type 0
IsShownTurned p value = (spent : Bool) → after_write p (after_read p value) (not (after_read p value)) spent ≢ value

-- or a write of the same value is, as bits beside it are turned round
abbrev pub IsShownBeside : Policy → Bool → Type 0
IsShownBeside p value = (spent : Bool) → after_write p (after_read p value) (after_read p value) spent ≢ value

-- Where such a bit of a visited register is stuck and the other value shows it, some check names its field,
-- whatever else the device holds and whatever is believed.
abbrev pub StuckBitIsNamed : Type 0
StuckBitIsNamed =
    (s new : Scene) (d : State) (block : Option ℕ) (told : List Told) (stuck : StuckRow) (place : ℕ)
    → IsModel s.model → s.device ≡ Some d → HasStuckBit s.model.chip s.model.layout d stuck
    → IsComparedBit s.model.chip stuck
    → IsShownTurned (field_of s.model.chip stuck.field).shape.policy stuck.value
    → IsVisited BitBash s.model.chip s.model.layout block (reg_of s.model.chip stuck.field) place
    → RunsAll BitBash block s told new
    → HasEvent (IsNamedBy s.model.chip stuck.field) told

-- another bit of the register that is compared
pub record IsBitBeside (c : ChipData) (s : StuckRow) (beside : ℕ) : Type 0 where
  pub bit_in : beside < 8 * size_of c (reg_of c s.field)
  pub compared : is_bit_compared c (reg_of c s.field) beside ≡ true
  pub other : beside ≢ bit_of c s

-- So it is where the same value shows it, and the register has another compared bit.
abbrev pub StuckBitBesideIsNamed : Type 0
StuckBitBesideIsNamed =
    (s new : Scene) (d : State) (block : Option ℕ) (told : List Told) (stuck : StuckRow) (beside place : ℕ)
    → IsModel s.model → s.device ≡ Some d → HasStuckBit s.model.chip s.model.layout d stuck
    → IsComparedBit s.model.chip stuck
    → IsShownBeside (field_of s.model.chip stuck.field).shape.policy stuck.value → IsBitBeside s.model.chip stuck beside
    → IsVisited BitBash s.model.chip s.model.layout block (reg_of s.model.chip stuck.field) place
    → RunsAll BitBash block s told new
    → HasEvent (IsNamedBy s.model.chip stuck.field) told

-- ---- the policies

-- where the other value shows a bit that is stuck at 0, or at 1
abbrev pub turned_at_0 : List Policy
turned_at_0 = Rw ∷ Rs ∷ Wrc ∷ Ws ∷ Wsrc ∷ W1s ∷ W1t ∷ W1src ∷ W1crs ∷ []

abbrev pub turned_at_1 : List Policy
turned_at_1 = Rw ∷ Rc ∷ Wrs ∷ Wc ∷ Wcrs ∷ W0c ∷ W0t ∷ W0src ∷ W0crs ∷ []

abbrev pub PoliciesShowTurned : Type 0
PoliciesShowTurned = All (λ p. IsShownTurned p false) turned_at_0 × All (λ p. IsShownTurned p true) turned_at_1

-- and where the same value does
abbrev pub beside_at_0 : List Policy
beside_at_0 = Wrs ∷ W0s ∷ W0t ∷ W0src ∷ W0crs ∷ []

abbrev pub beside_at_1 : List Policy
beside_at_1 = Wrc ∷ W1c ∷ W1t ∷ W1src ∷ W1crs ∷ []

abbrev pub PoliciesShowBeside : Type 0
PoliciesShowBeside = All (λ p. IsShownBeside p false) beside_at_0 × All (λ p. IsShownBeside p true) beside_at_1

-- ---- after a HARD reset

-- the field takes another value there, as the description says
pub record IsStuckOtherwise (c : ChipData) (s : StuckRow) : Type 0 where
  pub described : ℕ
  pub says : value_for 0 (field_of c s.field).resets ≡ Some described
  pub other : bit described s.bit ≢ s.value

-- Where such a bit of a compared field of a register that `hw_reset` visits is stuck, some check names the field.
abbrev pub StuckResetIsNamed : Type 0
StuckResetIsNamed =
    (s new : Scene) (d : State) (block : Option ℕ) (told : List Told) (stuck : StuckRow) (place : ℕ)
    → IsModel s.model → s.device ≡ Some d → HasStuckBit s.model.chip s.model.layout d stuck
    → IsComparedBit s.model.chip stuck
    → IsStuckOtherwise s.model.chip stuck
    → IsVisited HwReset s.model.chip s.model.layout block (reg_of s.model.chip stuck.field) place
    → RunsAll HwReset block s told new
    → HasEvent (IsNamedBy s.model.chip stuck.field) told

-- A new device with one stuck bit is such a one.
abbrev pub NewOneHasStuckBit : Type 0
NewOneHasStuckBit =
    (c : ChipData) (l : LayoutData) (s : StuckRow) (count : ℕ)
    → IsSound c → s.field < length c.fields → s.bit < (field_of c s.field).shape.width
    → HasStuckBit c l (first_state (setup_of c l (stuck_bit s)) count) s
