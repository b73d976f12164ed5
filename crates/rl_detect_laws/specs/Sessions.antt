-- Which sessions find the one flaw of their description: those whose script has a line of a sequence that does.
use Rattle.std.specs.Prelude.{◌≡◌, ◌≢◌, ◌⊎◌, ℕ, ◌+◌, ◌<◌, true, false, All, List, [], ◌∷◌, ◌++◌, codes, length, map, Option, None, Some, Ok}
use Rattle.rl_policy.specs.Bits.{bit}
use Rattle.rl_bus.specs.declared.table.Cell.TheVariants.{Loc}
use Rattle.rl_bus.specs.declared.table.ItemRow.{ItemRow}
use Rattle.rl_bus.specs.declared.table.StuckRow.{StuckRow}
use Rattle.rl_bus.specs.Setup.{is_deaf}
use Rattle.rl_bus.specs.Standing.{Standing, kinds_of}
use Rattle.rl_model.specs.Chip.{value_for}
use Rattle.rl_model.specs.Fields.{field_of}
use Rattle.rl_model.specs.declared.rows.Item.TheVariants.{Reg}
use Rattle.rl_map.specs.Tables.{setup_of}
use Rattle.rl_flaw.specs.declared.flaw.Flaw.TheVariants.{OtherPolicy, OtherReset, Stuck, Deaf}
use Rattle.rl_flaw.specs.Flaws.{flaws_of}
use Rattle.rl_mirror.specs.Mirror.{mirrored_of}
use Rattle.rl_mirror.specs.Prediction.{fresh}
use Rattle.rl_access.specs.declared.event.Event.{Event}
use Rattle.rl_access.specs.Laws.{IsComparedField}
use Rattle.rl_access.specs.Operation.{reg_of}
use Rattle.rl_access.specs.World.{World}
use Rattle.rl_seq.specs.declared.sequence.Sequence.{Sequence}
use Rattle.rl_seq.specs.declared.sequence.Sequence.TheVariants.{HwReset, BitBash, Access, MemWalk}
use Rattle.rl_seq.specs.Sequences.{map_at}
use Rattle.rl_desc.specs.Data.{DescData}
use Rattle.rl_script.specs.Commands.{sequence_name}
use Rattle.rl_script.specs.declared.line.Sequence.{Sequence as Word}
use Rattle.rl_log.specs.declared.status.Status.TheVariants.{Found}
use Rattle.rl_log.specs.Entry.{sequence_of}
use Rattle.rl_log.specs.Lines.{told_at}
use Rattle.rl_session.specs.Judged.{first_world, judged, judged_events}
use Rattle.rl_session.specs.Session.{opening_of, script_of}
use Rattle.rl_plain.specs.Agree.{HasNoVolatile}
use Rattle.rl_session_laws.specs.Sound.{AreKinds}
use Rattle.rl_detect_laws.specs.BitFlaws.{IsComparedAt, IsShown}
use Rattle.rl_detect_laws.specs.BitTables.{first_sides, first_believed}
use Rattle.rl_detect_laws.specs.Deaf.{deaf_items, IsSetFirst, IsMarkedCheck, MarksDeaf, IsTurned}
use Rattle.rl_detect_laws.specs.Errors.{FailsAtWord, HasError, SendsSome}
use Rattle.rl_detect_laws.specs.Logged.{Leads, SaysSequence, HasLogged, HasRun}
use Rattle.rl_detect_laws.specs.Otherwise.{ChecksWritten, KeepsApart}
use Rattle.rl_detect_laws.specs.Resets.{IsNamedBy}
use Rattle.rl_detect_laws.specs.Sides.{BitFlaw, sticks, hears_nothing, goes_by}
use Rattle.rl_detect_laws.specs.Stuck.{IsComparedBit, IsShownTurned, IsShownBeside, IsBitBeside, IsStuckOtherwise}
use Rattle.rl_detect_laws.specs.Visited.{IsVisited}

-- ---- a session

-- the session opens with this description, and no line of its script is refused
pub record IsPlayed (bytes : List ℕ) (adapters : List Standing) (desc : DescData) : Type 0 where
  pub kinds : AreKinds (kinds_of adapters)
  pub opens : opening_of bytes (kinds_of adapters) ≡ Ok desc
  pub last : World
  pub leads : Leads 1 (first_world desc adapters) (script_of bytes) last

-- behind these lines of its script one says this sequence, over this block or the whole chip
pub record HasSequence (bytes : List ℕ) (adapters : List Standing) (desc : DescData) (before : List (List ℕ))
    (which : Sequence) (block : Option ℕ) : Type 0 where
  pub line : List ℕ
  pub after : List (List ℕ)
  pub lines : script_of bytes ≡ before ++ line ∷ after
  pub world : World
  pub says : SaysSequence 1 (first_world desc adapters) before line which block world

-- something was found, which is exit code 1, and some event of the judged log is so
pub record IsFound (bytes : List ℕ) (adapters : List Standing) (IsSo : Event → Type 0) : Type 0 where
  pub status : (judged bytes adapters).status ≡ Found
  pub event : HasLogged IsSo (judged_events bytes adapters)

-- A script that is the one line `seq NAME *` is played, and has the sequence of that name.
abbrev pub LoneLineIsPlayed : Type 0
LoneLineIsPlayed =
    (bytes : List ℕ) (adapters : List Standing) (desc : DescData) (word : Word)
    → AreKinds (kinds_of adapters) → opening_of bytes (kinds_of adapters) ≡ Ok desc
    → script_of bytes ≡ (codes "seq " ++ sequence_name word ++ codes " *") ∷ []
    → IsPlayed bytes adapters desc × HasSequence bytes adapters desc [] (sequence_of word) None

-- ---- a flaw that any such line finds, whatever stands before it

-- the only flaw: at a HARD reset the field takes another value than the description says
pub record HasWrongReset (desc : DescData) (field : ℕ) : Type 0 where
  pub taken : ℕ
  pub flaw : desc.flaws ≡ OtherReset field 0 taken ∷ []
  pub described : ℕ
  pub says : value_for 0 (field_of desc.chip field).resets ≡ Some described
  pub other : taken ≢ described

abbrev pub SessionFindsWrongReset : Type 0
SessionFindsWrongReset =
    (bytes : List ℕ) (adapters : List Standing) (desc : DescData) (before : List (List ℕ)) (block : Option ℕ)
    (field place : ℕ)
    → IsPlayed bytes adapters desc → HasSequence bytes adapters desc before HwReset block
    → HasWrongReset desc field → IsComparedField (field_of desc.chip field).shape
    → IsVisited HwReset desc.chip desc.layout block (reg_of desc.chip field) place
    → IsFound bytes adapters (IsNamedBy desc.chip field)

-- by its first line another sequence than `hw-reset` finds it too, where each write keeps two different bits different
abbrev pub SessionFindsKeptReset : Type 0
SessionFindsKeptReset =
    (bytes : List ℕ) (adapters : List Standing) (desc : DescData) (which : Sequence) (block : Option ℕ)
    (field place : ℕ)
    → IsPlayed bytes adapters desc → HasSequence bytes adapters desc [] which block
    → HasWrongReset desc field → IsComparedField (field_of desc.chip field).shape
    → KeepsApart (field_of desc.chip field).shape.policy
    → IsVisited which desc.chip desc.layout block (reg_of desc.chip field) place
    → ChecksWritten which desc.layout (reg_of desc.chip field) place
    → IsFound bytes adapters (IsNamedBy desc.chip field)

-- an address that answers errors, whatever other flaws there are
abbrev pub SessionFindsError : Type 0
SessionFindsError =
    (bytes : List ℕ) (adapters : List Standing) (desc : DescData) (before : List (List ℕ)) (which : Sequence)
    (block : Option ℕ) (number place index : ℕ)
    → IsPlayed bytes adapters desc → HasSequence bytes adapters desc before which block
    → IsVisited which desc.chip desc.layout block number place → SendsSome which desc.chip number
    → (error : HasError desc.layout (setup_of desc.chip desc.layout (flaws_of desc.flaws)) place index)
    → IsFound bytes adapters (FailsAtWord desc.layout place index error.stands.number)

-- ---- a flaw that the first line of the script finds

abbrev pub IsOnlyStuck : DescData → StuckRow → Type 0
IsOnlyStuck desc stuck = desc.flaws ≡ Stuck stuck.field stuck.bit stuck.value ∷ []

-- a stuck bit, where the other value shows it
abbrev pub SessionFindsStuckBit : Type 0
SessionFindsStuckBit =
    (bytes : List ℕ) (adapters : List Standing) (desc : DescData) (block : Option ℕ) (stuck : StuckRow) (place : ℕ)
    → IsPlayed bytes adapters desc → HasSequence bytes adapters desc [] BitBash block
    → IsOnlyStuck desc stuck → IsComparedBit desc.chip stuck
    → IsShownTurned (field_of desc.chip stuck.field).shape.policy stuck.value
    → IsVisited BitBash desc.chip desc.layout block (reg_of desc.chip stuck.field) place
    → IsFound bytes adapters (IsNamedBy desc.chip stuck.field)

-- where the same value shows it, and the register has another compared bit
abbrev pub SessionFindsStuckBitBeside : Type 0
SessionFindsStuckBitBeside =
    (bytes : List ℕ) (adapters : List Standing) (desc : DescData) (block : Option ℕ) (stuck : StuckRow)
    (beside place : ℕ)
    → IsPlayed bytes adapters desc → HasSequence bytes adapters desc [] BitBash block
    → IsOnlyStuck desc stuck → IsComparedBit desc.chip stuck
    → IsShownBeside (field_of desc.chip stuck.field).shape.policy stuck.value → IsBitBeside desc.chip stuck beside
    → IsVisited BitBash desc.chip desc.layout block (reg_of desc.chip stuck.field) place
    → IsFound bytes adapters (IsNamedBy desc.chip stuck.field)

-- where the description says the other value for a HARD reset
abbrev pub SessionFindsStuckReset : Type 0
SessionFindsStuckReset =
    (bytes : List ℕ) (adapters : List Standing) (desc : DescData) (block : Option ℕ) (stuck : StuckRow) (place : ℕ)
    → IsPlayed bytes adapters desc → HasSequence bytes adapters desc [] HwReset block
    → IsOnlyStuck desc stuck → IsComparedBit desc.chip stuck → IsStuckOtherwise desc.chip stuck
    → IsVisited HwReset desc.chip desc.layout block (reg_of desc.chip stuck.field) place
    → IsFound bytes adapters (IsNamedBy desc.chip stuck.field)

-- a bit of a compared field, whose policy turns it from the value that it has at first
pub record IsTurnedBit (desc : DescData) (field i : ℕ) : Type 0 where
  pub field_in : field < length desc.chip.fields
  pub bit_in : i < (field_of desc.chip field).shape.width
  pub compared : IsComparedField (field_of desc.chip field).shape
  pub turned :
      IsTurned (field_of desc.chip field).shape.policy
      (bit (mirrored_of (fresh desc.chip) (reg_of desc.chip field)) ((field_of desc.chip field).shape.lsb + i)) false

-- a deaf register
abbrev pub SessionFindsDeafRegister : Type 0
SessionFindsDeafRegister =
    (bytes : List ℕ) (adapters : List Standing) (desc : DescData) (block : Option ℕ) (field i place : ℕ)
    → IsPlayed bytes adapters desc → HasSequence bytes adapters desc [] Access block
    → desc.flaws ≡ Deaf (Reg (reg_of desc.chip field)) ∷ [] → HasNoVolatile desc.chip → IsTurnedBit desc field i
    → IsVisited Access desc.chip desc.layout block (reg_of desc.chip field) place
    → IsFound bytes adapters (IsNamedBy desc.chip field)

-- the only flaws are deaf items
pub record HasOnlyDeaf (desc : DescData) : Type 0 where
  pub deaf : List ItemRow
  pub flaws : flaws_of desc.flaws ≡ deaf_items deaf

-- and the memory is one of them
pub record HasDeafMemory (desc : DescData) (mem : ℕ) : Type 0 where
  pub only : HasOnlyDeaf desc
  pub open only use *
  pub named : is_deaf (setup_of desc.chip desc.layout (deaf_items deaf)) (Loc mem 0) ≡ true

-- a deaf memory, by a check of its first location, and of each other one that the walk first sets to more than 0
abbrev pub SessionFindsDeafMemory : Type 0
SessionFindsDeafMemory =
    (bytes : List ℕ) (adapters : List Standing) (desc : DescData) (block : Option ℕ) (mem index place : ℕ)
    → IsPlayed bytes adapters desc → HasSequence bytes adapters desc [] MemWalk block
    → HasDeafMemory desc mem → IsSetFirst desc.chip mem index
    → IsVisited MemWalk desc.chip desc.layout block mem place
    → IsFound bytes adapters (IsMarkedCheck desc.chip mem (map_at desc.layout place) index 0)

-- and of the events of that line no other one is marked
abbrev pub SessionMarksOnlyDeaf : Type 0
SessionMarksOnlyDeaf =
    (bytes : List ℕ) (adapters : List Standing) (desc : DescData) (block : Option ℕ)
    → IsPlayed bytes adapters desc → (has : HasSequence bytes adapters desc [] MemWalk block) → HasOnlyDeaf desc
    → (run : HasRun MemWalk block has.world (judged_events bytes adapters))
    × All (λ t. (t.event.differ ≡ 0) ⊎ MarksDeaf desc.chip (first_world desc adapters).device t.event)
    (map told_at run.own)

-- bit i of the field is stuck, its register is deaf, or the field has another policy, and nothing else is wrong
abbrev pub HasOnlyFlaw : DescData → (field i : ℕ) → BitFlaw → Type 0
HasOnlyFlaw desc field i (sticks v) = desc.flaws ≡ Stuck field i v ∷ []
HasOnlyFlaw desc field i hears_nothing = desc.flaws ≡ Deaf (Reg (reg_of desc.chip field)) ∷ []
HasOnlyFlaw desc field i (goes_by q) = desc.flaws ≡ OtherPolicy field q ∷ []

-- such a flaw, where the steps over the bit show it from its first value on
abbrev pub SessionFindsBitFlaw : Type 0
SessionFindsBitFlaw =
    (bytes : List ℕ) (adapters : List Standing) (desc : DescData) (which : Sequence) (block : Option ℕ)
    (field i place : ℕ) (flaw : BitFlaw)
    → IsPlayed bytes adapters desc → HasSequence bytes adapters desc [] which block
    → HasOnlyFlaw desc field i flaw → HasNoVolatile desc.chip → IsComparedAt desc.chip field i
    → IsVisited which desc.chip desc.layout block (reg_of desc.chip field) place
    → IsShown which desc.chip desc.layout (reg_of desc.chip field) ((field_of desc.chip field).shape.lsb + i) place
    flaw (field_of desc.chip field).shape.policy (first_sides flaw (first_believed desc.chip field i))
    → IsFound bytes adapters (IsNamedBy desc.chip field)
