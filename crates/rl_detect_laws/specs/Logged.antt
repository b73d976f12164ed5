-- What the log of a script says of a sequence: the events of its line are those of a run from the world reached there,
-- and an event that shows something keeps the script from passing.
use Rattle.std.specs.Prelude.{◌≡◌, ◌≢◌, ◌⊎◌, ℕ, ◌+◌, true, List, [], ◌∷◌, ◌++◌, length, map, Option, Some, Ok}
use Rattle.rl_bus.specs.Account.{without_peer}
use Rattle.rl_access.specs.declared.event.Event.{Event}
use Rattle.rl_access.specs.Call.{Scene}
use Rattle.rl_access.specs.Tally.{is_bus_error}
use Rattle.rl_access.specs.World.{World, scene_at}
use Rattle.rl_seq.specs.declared.sequence.Sequence.{Sequence}
use Rattle.rl_script.specs.declared.line.Line.TheVariants.{Seq}
use Rattle.rl_script.specs.declared.line.Sequence.{Sequence as Word}
use Rattle.rl_log.specs.declared.counts.Counts.{Counts}
use Rattle.rl_log.specs.declared.status.Status.TheVariants.{Found, Passed}
use Rattle.rl_log.specs.Entry.{Entry, sequence_of}
use Rattle.rl_log.specs.Events.{Happened, events_from}
use Rattle.rl_log.specs.Lines.{told_at}
use Rattle.rl_log.specs.Log.{comes_of, said, script_from}
use Rattle.rl_log.specs.Named.{block_asked}
use Rattle.rl_detect_laws.specs.Visited.{RunsAll, HasEvent}

-- ---- the lines of a script

-- the lines, the first with that number, lead from one world to the other, and none of them is refused
abbrev pub Leads : (number : ℕ) → World → List (List ℕ) → World → Type 0
Leads number w [] v = v ≡ w
Leads number w (line ∷ lines) v =
    (entry : Entry) × (comes_of w (said number line) ≡ Ok entry) × Leads (number + 1) entry.course.world lines v

-- behind lines that lead to this world, a line says this sequence, over this block or the whole chip
pub record SaysSequence (number : ℕ) (w : World) (before : List (List ℕ)) (line : List ℕ) (which : Sequence)
    (block : Option ℕ) (v : World) : Type 0 where
  pub leads : Leads number w before v
  pub word : Word
  pub over : Option (List ℕ)
  pub says : said (number + length before) line ≡ Ok (Seq word over)
  pub sequence_is : sequence_of word ≡ which
  pub block_is : block_asked v.model.chip over ≡ Some block

-- ---- the events of a line

-- some event of the log is so
abbrev pub HasLogged : (Event → Type 0) → List Happened → Type 0
HasLogged IsSo events = HasEvent IsSo (map told_at events)

-- the events are those of a run of the sequence from that world on, between earlier and later ones
pub record HasRun (which : Sequence) (block : Option ℕ) (v : World) (events : List Happened) : Type 0 where
  pub earlier : List Happened
  pub own : List Happened
  pub later : List Happened
  pub all : events ≡ earlier ++ (own ++ later)
  pub new : Scene
  pub runs : RunsAll which block (scene_at v (without_peer 0)) (map told_at own) new

-- The events of such a line are a run of its sequence, whatever the device, the lines before and those behind.
abbrev pub SequenceIsLogged : Type 0
SequenceIsLogged =
    (number : ℕ) (w v : World) (before after : List (List ℕ)) (line : List ℕ) (which : Sequence) (block : Option ℕ)
    → SaysSequence number w before line which block v
    → HasRun which block v (events_from number w (before ++ line ∷ after))

-- ---- the status

-- the event names a field or marks a location, or ended by a bus error
abbrev pub Shows : Event → Type 0
Shows e = (e.differ ≢ 0) ⊎ (is_bus_error e.end ≡ true)

-- A script with such an event has not passed.
abbrev pub ShownNeverPasses : Type 0
ShownNeverPasses =
    (number : ℕ) (counts : Counts) (w : World) (lines : List (List ℕ))
    → HasLogged Shows (events_from number w lines) → (script_from number counts w lines).status ≢ Passed

-- And where none of its lines is refused, its status is that something was found.
abbrev pub ShownIsFound : Type 0
ShownIsFound =
    (number : ℕ) (counts : Counts) (w last : World) (lines : List (List ℕ))
    → Leads number w lines last
    → HasLogged Shows (events_from number w lines) → (script_from number counts w lines).status ≡ Found
