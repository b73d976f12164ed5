-- The events of a script, each between the models before it and after it, and the laws of every one of them.
use Rattle.std.specs.Prelude.{◌≡◌, ◌≢◌, ◌↔◌, ◌⊎◌, ℕ, ◌+◌, ◌<◌, false, List, [], ◌∷◌, ◌++◌, length, All, Option, Result, Ok, Err}
use Rattle.rl_model.specs.Fields.{fields_of, field_in}
use Rattle.rl_mirror.specs.Mirror.{mirrored_of}
use Rattle.rl_access.specs.declared.event.End.TheVariants as end
use Rattle.rl_access.specs.declared.event.Event.{Event}
use Rattle.rl_access.specs.declared.event.Op.TheVariants as op
use Rattle.rl_access.specs.Laws.{KeepsBeliefs, IsFoundOther, ChecksRegister, NamesField, is_any_check, HasReadNothing}
use Rattle.rl_access.specs.Model.{ModelData}
use Rattle.rl_access.specs.World.{World, Step}
use Rattle.rl_log.specs.declared.counts.Counts.{Counts}
use Rattle.rl_log.specs.declared.refusal.LineRefusal.{LineRefusal}
use Rattle.rl_log.specs.Course.{Course}
use Rattle.rl_log.specs.Entry.{Entry}
use Rattle.rl_log.specs.Log.{said, comes_of, script_from}
use Rattle.rl_log.specs.Recording.{with_event}

-- an event, with the model right before it and right after it
pub record Happened : Type 0 where
  pub before : ModelData
  pub event : Event
  pub after : ModelData

-- each step begins where the one before it ended
abbrev pub happened : ModelData → List Step → List Happened
happened m [] = []
happened m (s ∷ steps) = record { before = m; event = s.event; after = s.world.model } ∷ happened s.world.model steps

abbrev pub happened_in : World → Course → List Happened
happened_in w c = happened w.model c.steps

-- a line that is refused does nothing, and nothing comes after it
abbrev pub happened_on : World → Result Entry LineRefusal → (World → List Happened) → List Happened
happened_on w (Err why) rest = []
happened_on w (Ok entry) rest = happened_in w entry.course ++ rest entry.course.world

-- the events of these lines, from that number on
unfoldable pub events_from : (number : ℕ) → World → List (List ℕ) → List Happened
events_from number w [] = []
events_from number w (line ∷ lines) =
    happened_on w (comes_of w (said number line)) (λ w. events_from (number + 1) w lines)

-- ---- the laws of an event

-- One that ended by a bus error left the mirrored values, the desired values and the marks of first writes.
abbrev pub ErrorKeepsBeliefs : Happened → Type 0
ErrorKeepsBeliefs h = (word : ℕ) → h.event.end ≡ end.BusError word → KeepsBeliefs h.before h.after

-- A check of a register that read a value names field k exactly where the field is compared, which isn't write-only and
-- has `compare` set, and its bits in that value aren't those that were mirrored before the read.
abbrev pub CheckNamesDiffering : Happened → Type 0
CheckNamesDiffering h =
    (reg read k : ℕ) → ChecksRegister h.event.op reg → h.event.end ≡ end.Value read
    → NamesField h.event k ↔ ((k < length (fields_of h.before.chip reg))
    × IsFoundOther (field_in (fields_of h.before.chip reg) k).shape read (mirrored_of h.before.mirror reg))

-- A check of a memory's location that read a value is marked exactly where it isn't the given one.
abbrev pub MemoryCheckMarksAnother : Happened → Type 0
MemoryCheckMarksAnother h =
    (mem index value read : ℕ) (map : Option ℕ) → h.event.op ≡ op.MemCheck mem map index value
    → h.event.end ≡ end.Value read → (h.event.differ ≡ 1) ↔ (read ≢ value)

-- One that is no check, or read nothing, names nothing.
abbrev pub NothingElseDiffers : Happened → Type 0
NothingElseDiffers h = (is_any_check h.event.op ≡ false) ⊎ HasReadNothing h.event.end → h.event.differ ≡ 0

pub record IsLawful (h : Happened) : Type 0 where
  pub error : ErrorKeepsBeliefs h
  pub check : CheckNamesDiffering h
  pub memory_check : MemoryCheckMarksAnother h
  pub nothing_else : NothingElseDiffers h

-- of every script, whatever its lines and whatever stands before it
abbrev pub EveryEventLawful : Type 0
EveryEventLawful = (number : ℕ) (w : World) (lines : List (List ℕ)) → All IsLawful (events_from number w lines)

-- ---- the last line counts the events

abbrev pub counted_on : Counts → List Happened → Counts
counted_on counts [] = counts
counted_on counts (h ∷ events) = counted_on (with_event counts h.event) events

-- The counts at the end of a script are those before it and each of its events.
abbrev pub EveryEventCounted : Type 0
EveryEventCounted =
    (number : ℕ) (counts : Counts) (w : World) (lines : List (List ℕ))
    → (script_from number counts w lines).counts ≡ counted_on counts (events_from number w lines)
