-- Which sequence finds a deaf memory: `mem_walk`; and a deaf register: `access_test`.
use Rattle.std.specs.Prelude.{◌≡◌, ◌≢◌, ◌⊎◌, ℕ, ◌+◌, ◌^◌, ◌<◌, Bool, true, false, not, All, List, [], ◌∷◌, length, slice_index, sum_by, Option, Some}
use Rattle.rl_policy.specs.Bits.{bit}
use Rattle.rl_policy.specs.Table.{after_write}
use Rattle.rl_policy.specs.declared.policy.Policy.{Policy}
use Rattle.rl_policy.specs.declared.policy.Policy.TheVariants.{Rw, Wrc, Wrs, Wc, Ws, Wsrc, Wcrs, W1s, W1t, W0c, W0t, W1src, W0crs, W1}
use Rattle.rl_bus.specs.declared.table.Cell.TheVariants.{Reg, Loc}
use Rattle.rl_bus.specs.declared.table.ItemRow.{ItemRow}
use Rattle.rl_bus.specs.Setup.{Flaws, location, is_deaf}
use Rattle.rl_bus.specs.State.{State, first_state}
use Rattle.rl_model.specs.Rows.{ChipData}
use Rattle.rl_model.specs.Chip.{IsSound}
use Rattle.rl_model.specs.Fields.{field_of}
use Rattle.rl_model.specs.declared.rows.Item.TheVariants.{Mem}
use Rattle.rl_map.specs.Layout.{LayoutData}
use Rattle.rl_map.specs.Tables.{setup_of}
use Rattle.rl_split.specs.Law.{no_flaws}
use Rattle.rl_mirror.specs.Mirror.{MirrorData, mirrored_of, is_spent}
use Rattle.rl_mirror.specs.Prediction.{fresh}
use Rattle.rl_access.specs.declared.event.End.TheVariants as end
use Rattle.rl_access.specs.declared.event.Event.{Event}
use Rattle.rl_access.specs.declared.event.Op.TheVariants as op
use Rattle.rl_access.specs.Call.{Scene}
use Rattle.rl_access.specs.HandsOver.{Told}
use Rattle.rl_access.specs.Laws.{IsComparedField}
use Rattle.rl_access.specs.Model.{IsModel}
use Rattle.rl_access.specs.Operation.{location_size, reg_of}
use Rattle.rl_seq.specs.declared.sequence.Sequence.TheVariants.{Access, MemWalk}
use Rattle.rl_access.specs.Rules.{memory_size}
use Rattle.rl_seq.specs.Choice.{turned_round}
use Rattle.rl_seq.specs.Sequences.{map_at}
use Rattle.rl_plain.specs.Agree.{HasNoVolatile, HasLocations}
use Rattle.rl_detect_laws.specs.Devices.{IsSetUp}
use Rattle.rl_detect_laws.specs.Resets.{IsNamedBy}
use Rattle.rl_detect_laws.specs.Visited.{RunsAll, HasEvent, IsVisited}

abbrev pub deaf_items : List ItemRow → Flaws
deaf_items deaf = record no_flaws { deaf = deaf }

-- a device of this chip and this layout, whose only flaws are deaf registers and memories, with all beats 0
pub record HasDeafItems (c : ChipData) (l : LayoutData) (d : State) : Type 0 where
  pub deaf : List ItemRow
  pub set_up : IsSetUp c (setup_of c l (deaf_items deaf)) d
  pub open set_up use *
  pub locations : length d.locations ≡ sum_by (λ m. m.size) c.mems

-- ---- a deaf memory

-- the memory is deaf, and this location doesn't hold what the walk writes there first: its number turned round
pub record IsDeafTo (c : ChipData) (d : State) (mem index : ℕ) : Type 0 where
  pub index_in : index < memory_size c mem
  pub deaf : is_deaf d.setup (Loc mem index) ≡ true
  pub fits : slice_index d.locations (location d.setup mem index) < 256 ^ location_size c mem
  pub other : slice_index d.locations (location d.setup mem index) ≢ turned_round c (Mem mem) index

-- the first location, or another one of the memory to which the walk first writes something else than 0
abbrev pub IsSetFirst : ChipData → (mem index : ℕ) → Type 0
IsSetFirst c mem index =
    (index ≡ 0) ⊎ ((index < memory_size c mem) × (turned_round c (Mem mem) index ≢ 0))

-- A new device with deaf items, with all locations of its memories, is such a one, and each of its deaf memories is
-- so with each such location: it holds 0.
abbrev pub NewOneHasDeafMemory : Type 0
NewOneHasDeafMemory =
    (c : ChipData) (l : LayoutData) (deaf : List ItemRow) (mem index : ℕ)
    → IsSound c → mem < length c.mems → is_deaf (setup_of c l (deaf_items deaf)) (Loc mem index) ≡ true
    → IsSetFirst c mem index
    → let d = first_state (setup_of c l (deaf_items deaf)) (sum_by (λ m. m.size) c.mems) in
    HasDeafItems c l d × IsDeafTo c d mem index

-- the event is that of the walk's check of this location over this map: it read this value, and is marked
pub record IsMarkedCheck (c : ChipData) (mem map index read : ℕ) (e : Event) : Type 0 where
  pub check : e.op ≡ op.MemCheck mem (Some map) index (turned_round c (Mem mem) index)
  pub reads : e.end ≡ end.Value read
  pub marked : e.differ ≡ 1

-- Where a visited memory is deaf, each such location has a marked check at each place that is visited: it reads what
-- the location held when the walk began.
abbrev pub DeafMemoryIsFound : Type 0
DeafMemoryIsFound =
    (s new : Scene) (d : State) (block : Option ℕ) (told : List Told) (mem index place : ℕ)
    → IsModel s.model → s.device ≡ Some d → HasDeafItems s.model.chip s.model.layout d
    → IsDeafTo s.model.chip d mem index
    → IsVisited MemWalk s.model.chip s.model.layout block mem place → RunsAll MemWalk block s told new
    → let held = slice_index d.locations (location d.setup mem index) in
    HasEvent (IsMarkedCheck s.model.chip mem (map_at s.model.layout place) index held) told

-- the event is that of such a check, of a location of a deaf memory that doesn't hold what the walk wrote there
pub record MarksDeaf (c : ChipData) (d : State) (e : Event) : Type 0 where
  pub mem : ℕ
  pub map : ℕ
  pub index : ℕ
  pub deaf : IsDeafTo c d mem index
  pub check : IsMarkedCheck c mem map index (slice_index d.locations (location d.setup mem index)) e

-- No other event is marked, where the device has each location of its memories with no more than its bytes in it.
abbrev pub OnlyDeafIsMarked : Type 0
OnlyDeafIsMarked =
    (s new : Scene) (d : State) (block : Option ℕ) (told : List Told)
    → IsModel s.model → s.device ≡ Some d → HasDeafItems s.model.chip s.model.layout d → HasLocations s.model.chip d
    → RunsAll MemWalk block s told new
    → All (λ t. (t.event.differ ≡ 0) ⊎ MarksDeaf s.model.chip d t.event) told

-- A new device with deaf items has its locations so.
abbrev pub NewOneHasLocations : Type 0
NewOneHasLocations =
    (c : ChipData) (l : LayoutData) (deaf : List ItemRow)
    → HasLocations c (first_state (setup_of c l (deaf_items deaf)) (sum_by (λ m. m.size) c.mems))

-- ---- a deaf register

-- a write of the other value is believed to change a bit that is believed to have this one, as its field's mark stands
abbrev pub IsTurned : Policy → (value spent : Bool) → Type 0
IsTurned p value spent = after_write p value (not value) spent ≢ value

-- a deaf register, and a bit of a compared field of it that is believed as it is held, at a value from which
-- the field's policy turns it
pub record IsDeafBit (c : ChipData) (d : State) (m : MirrorData) (field i : ℕ) : Type 0 where
  pub deaf : is_deaf d.setup (Reg (reg_of c field)) ≡ true
  pub field_in : field < length c.fields
  pub bit_in : i < (field_of c field).shape.width
  pub compared : IsComparedField (field_of c field).shape
  pub value : Bool
  pub held : bit (slice_index d.bits (reg_of c field)) ((field_of c field).shape.lsb + i) ≡ value
  pub believed : bit (mirrored_of m (reg_of c field)) ((field_of c field).shape.lsb + i) ≡ value
  pub turned : IsTurned (field_of c field).shape.policy value (is_spent m field)

-- Where a visited register is deaf and has such a bit, some check names the bit's field.
abbrev pub DeafRegisterIsNamed : Type 0
DeafRegisterIsNamed =
    (s new : Scene) (d : State) (block : Option ℕ) (told : List Told) (field i place : ℕ)
    → IsModel s.model → s.device ≡ Some d → HasDeafItems s.model.chip s.model.layout d
    → IsDeafBit s.model.chip d s.model.mirror field i
    → IsVisited Access s.model.chip s.model.layout block (reg_of s.model.chip field) place
    → RunsAll Access block s told new
    → HasEvent (IsNamedBy s.model.chip field) told

-- ---- the policies

-- which turn a bit that holds 0, or 1, whatever was written before
abbrev pub turned_from_0 : List Policy
turned_from_0 = Rw ∷ Wrc ∷ Wrs ∷ Ws ∷ Wsrc ∷ W1s ∷ W1t ∷ W1src ∷ []

abbrev pub turned_from_1 : List Policy
turned_from_1 = Rw ∷ Wrc ∷ Wrs ∷ Wc ∷ Wcrs ∷ W0c ∷ W0t ∷ W0crs ∷ []

-- and W1 turns either, where the first write is still to come
abbrev pub PoliciesTurn : Type 0
PoliciesTurn =
    All (λ p. (spent : Bool) → IsTurned p false spent) turned_from_0
    × All (λ p. (spent : Bool) → IsTurned p true spent) turned_from_1
    × ((value : Bool) → IsTurned W1 value false)

-- No field is spent in new beliefs.
abbrev pub NoneSpent : Type 0
NoneSpent = (c : ChipData) (field : ℕ) → is_spent (fresh c) field ≡ false

-- A new device with deaf items and new beliefs of the same chip agree on each register, where no field is volatile.
abbrev pub NewOnesAgreeOnBits : Type 0
NewOnesAgreeOnBits =
    (c : ChipData) (l : LayoutData) (deaf : List ItemRow) (count reg : ℕ)
    → IsSound c → HasNoVolatile c → reg < length c.regs
    → mirrored_of (fresh c) reg ≡ slice_index (first_state (setup_of c l (deaf_items deaf)) count).bits reg
