-- Which sequences find a bit that is stuck, deaf or has another policy, where the computation over its steps shows it.
use Rattle.std.specs.Prelude.{◌≡◌, ◌≢◌, ◌⊎◌, ℕ, ◌+◌, ◌<◌, Bool, true, false, List, [], ◌∷◌, length, slice_index, Option, Some}
use Rattle.rl_policy.specs.Bits.{bit}
use Rattle.rl_policy.specs.declared.policy.Policy.{Policy}
use Rattle.rl_bus.specs.declared.table.ItemRow.TheVariants.{Reg as Deaf}
use Rattle.rl_bus.specs.Setup.{Flaws}
use Rattle.rl_bus.specs.State.{State}
use Rattle.rl_model.specs.Rows.{ChipData}
use Rattle.rl_model.specs.Fields.{field_of, fields_of, place_at}
use Rattle.rl_model.specs.declared.rows.Item.TheVariants.{Reg}
use Rattle.rl_map.specs.Layout.{LayoutData}
use Rattle.rl_map.specs.Tables.{setup_of}
use Rattle.rl_mirror.specs.Mirror.{MirrorData, mirrored_of, is_spent}
use Rattle.rl_access.specs.Call.{Scene}
use Rattle.rl_access.specs.HandsOver.{Told}
use Rattle.rl_access.specs.Laws.{IsComparedField}
use Rattle.rl_access.specs.Model.{IsModel}
use Rattle.rl_access.specs.Operation.{reg_of}
use Rattle.rl_seq.specs.declared.sequence.Sequence.{Sequence}
use Rattle.rl_seq.specs.declared.sequence.Sequence.TheVariants.{HwReset, BitBash, Access, Shared, MemWalk}
use Rattle.rl_seq.specs.Choice.{is_of, may_read, may_write, is_bit_compared}
use Rattle.rl_detect_laws.specs.Deaf.{deaf_items}
use Rattle.rl_detect_laws.specs.Devices.{IsSetUp}
use Rattle.rl_detect_laws.specs.Policies.{other_policy}
use Rattle.rl_detect_laws.specs.Resets.{IsNamedBy}
use Rattle.rl_detect_laws.specs.Sides.{Sides, BitFlaw, sticks, hears_nothing, goes_by, shows_twice, shows_behind}
use Rattle.rl_detect_laws.specs.Stuck.{stuck_bit}
use Rattle.rl_detect_laws.specs.Visited.{RunsAll, HasEvent, IsVisited}

-- ---- the device

-- bit i of the field is stuck, its register is deaf, or the field has another policy
abbrev pub only_flaw : ChipData → (field i : ℕ) → BitFlaw → Flaws
only_flaw c field i (sticks v) = stuck_bit (record { field = field; bit = i; value = v })
only_flaw c field i hears_nothing = deaf_items (Deaf (reg_of c field) ∷ [])
only_flaw c field i (goes_by q) = other_policy field q

-- a stuck bit has its value
abbrev pub HoldsStuck : BitFlaw → (held : Bool) → Type 0
HoldsStuck (sticks v) held = held ≡ v
HoldsStuck _ held = Unit {0}

-- the bits of a field have one mark, as after writes of whole registers
abbrev pub HasOneMark : ChipData → State → (marks : ℕ → ℕ → Bool) → Type 0
HasOneMark c d marks =
    (reg b k : ℕ) → reg < length c.regs → b < 64 → place_at (fields_of c reg) b ≡ Some k
    → bit (slice_index d.marks reg) b ≡ marks reg k

-- bit i of a compared field
pub record IsComparedAt (c : ChipData) (field i : ℕ) : Type 0 where
  pub field_in : field < length c.fields
  pub bit_in : i < (field_of c field).shape.width
  pub compared : IsComparedField (field_of c field).shape

-- it is so, in a device of this chip and this layout whose only flaw is this one, with all beats 0
pub record HasFlaw (c : ChipData) (l : LayoutData) (d : State) (m : MirrorData) (field i : ℕ) (flaw : BitFlaw)
    (x : Sides) : Type 0 where
  pub own : IsComparedAt c field i
  pub open own use *
  pub set_up : IsSetUp c (setup_of c l (only_flaw c field i flaw)) d
  pub open set_up use *
  pub held : bit (slice_index d.bits (reg_of c field)) ((field_of c field).shape.lsb + i) ≡ x.held
  pub stuck : HoldsStuck flaw x.held
  pub mark_of : ℕ → ℕ → Bool
  pub each_mark : HasOneMark c d mark_of
  pub marked : bit (slice_index d.marks (reg_of c field)) ((field_of c field).shape.lsb + i) ≡ x.marked
  pub believed : bit (mirrored_of m (reg_of c field)) ((field_of c field).shape.lsb + i) ≡ x.believed
  pub spent : is_spent m field ≡ x.spent

-- ---- what a sequence shows

-- no lower bit of the register is compared
abbrev pub IsLowest : ChipData → (reg b : ℕ) → Type 0
IsLowest c reg b = (j : ℕ) → j < b → is_bit_compared c reg j ≡ false

-- the register may be read and written at these two places
pub record HasTwoPlaces (l : LayoutData) (reg place other : ℕ) : Type 0 where
  pub other_in : other < length l.places
  pub apart : place ≢ other
  pub here : (may_read l place ≡ true) × (may_write l place ≡ true)
  pub there : (is_of l other (Reg reg) ≡ true) × (may_read l other ≡ true) × (may_write l other ≡ true)

-- `bit_bash` comes to the lowest compared bit of a register first; to another one when lower ones were written, so it
-- has to show whatever is held and believed then
abbrev pub IsShown : Sequence → ChipData → LayoutData → (reg b place : ℕ) → BitFlaw → Policy → Sides → Type 0
IsShown HwReset c l reg b place f p x = ⊥
IsShown BitBash c l reg b place f p x =
    (IsLowest c reg b × (shows_twice f p x ≡ true)) ⊎ ((y : Sides) → shows_twice f p y ≡ true)
IsShown Access c l reg b place f p x = shows_behind f p x ≡ true
IsShown Shared c l reg b place f p x = (other : ℕ) × HasTwoPlaces l reg place other × (shows_twice f p x ≡ true)
IsShown MemWalk c l reg b place f p x = ⊥

-- Where such a bit of a visited register is shown, some check names its field.
abbrev pub BitFlawIsNamed : Type 0
BitFlawIsNamed =
    (s new : Scene) (d : State) (which : Sequence) (block : Option ℕ) (told : List Told) (field i place : ℕ)
    (flaw : BitFlaw) (x : Sides)
    → IsModel s.model → s.device ≡ Some d → HasFlaw s.model.chip s.model.layout d s.model.mirror field i flaw x
    → IsVisited which s.model.chip s.model.layout block (reg_of s.model.chip field) place
    → IsShown which s.model.chip s.model.layout (reg_of s.model.chip field)
    ((field_of s.model.chip field).shape.lsb + i)
    place flaw (field_of s.model.chip field).shape.policy x
    → RunsAll which block s told new
    → HasEvent (IsNamedBy s.model.chip field) told
