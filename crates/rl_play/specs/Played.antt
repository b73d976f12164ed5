-- What was written and done of a line, and of a script, against what they come to.
use Rattle.std.specs.Prelude.{◌≡◌, ℕ, ◌+◌, ◌≤◌, List, [], ◌∷◌, ◌++◌, true, false, Option, Some, None, IfSome, Result, Ok, Err, Bool}
use Rattle.std.specs.Io.KnownBytes.{Appends, Keeps}
use Rattle.rl_access.specs.Model.{ModelData}
use Rattle.rl_bus.specs.Standing.{Standing}
use Rattle.rl_bus.specs.State.{State}
use Rattle.rl_report.specs.Lines.{first_line, lines_of, whole_lines}
use Rattle.rl_report.specs.Pieces.{AppendsFront}
use Rattle.rl_log.specs.declared.counts.Counts.{Counts}
use Rattle.rl_play.specs.declared.playing.TheConstants.{MOST_LINES}
use Rattle.rl_play.specs.declared.playing.Turn.{Turn}
use Rattle.rl_play.specs.declared.playing.Turn.TheVariants.{Next, Stop}
use Rattle.rl_log.specs.declared.status.Status.{Status}
use Rattle.rl_log.specs.declared.status.Status.TheVariants.{SourceFault}
use Rattle.rl_log.specs.declared.refusal.LineRefusal.{LineRefusal}
use Rattle.rl_log.specs.Endings.{added, IsCounted}
use Rattle.rl_log.specs.Recording.{no_counts, with_events}
use Rattle.rl_log.specs.Entry.{Entry}
use Rattle.rl_log.specs.Log.{Ending, script_from, lines_text, after_text, stops}
use Rattle.rl_play.specs.Done.{DoesFrom, DoesWithRest}
use Rattle.rl_play.specs.AnyDevice.{Point, PlaysCut, PlaysInput, moment_at}
use Rattle.rl_play.specs.Leaves.{stop_of}
use Rattle.rl_play.specs.Moment.{Moment}
use Rattle.rl_play.specs.Recording.{IsDone}
use Rattle.rl_log.specs.Statuses.{is_complete}
use Rattle.rl_log.specs.Telling.{Tells}
use Rattle.rl_access.specs.World.{World, world, IsAt}

-- ---- how a script ends

-- it came to its last line, with its status and counts, and led here
pub record IsOver (e : Ending) (status : Status) (old new : Option (List ℕ)) (counts : Counts)
    (model : ModelData) (adapters : List Standing) (device : Option State) : Type 0 where
  pub status_is : status ≡ e.status
  pub text : Appends old new e.text
  pub counts_are : counts ≡ e.counts
  pub after : IsAt model adapters device e.world

-- its status and counts, and where it led
pub record IsPlayed (e : Ending) (status : Status) (counts : Counts)
    (model : ModelData) (adapters : List Standing) (device : Option State) : Type 0 where
  pub status_is : status ≡ e.status
  pub counts_are : counts ≡ e.counts
  pub after : IsAt model adapters device e.world

-- the text was written, or a front of it, and the counts rose
pub record IsWrittenOut (e : Ending) (status : Status) (old new : Option (List ℕ)) (counts now : Counts)
    (model : ModelData) (adapters : List Standing) (device : Option State) : Type 0 where
  pub tells : Tells status e.status old new e.text
  pub counted : is_complete status ≡ true → now ≡ added counts e.counts
  pub after : is_complete status ≡ true → IsAt model adapters device e.world

-- it is over where it came to its last line, and else a front of its text was written
pub record EndsAs (e : Ending) (status : Status) (old new : Option (List ℕ)) (counts : Counts)
    (model : ModelData) (adapters : List Standing) (device : Option State) : Type 0 where
  pub whole : is_complete status ≡ true → IsOver e status old new counts model adapters device
  pub part : AppendsFront old new e.text

-- ---- a turn: what a line comes to, as it was written and done

-- it was run
pub record RanOn (comes : Result Entry LineRefusal) (old new : Option (List ℕ)) (counts now : Counts)
    (model : ModelData) (adapters : List Standing) (device : Option State) : Type 0 where
  pub entry : Entry
  pub is : comes ≡ Ok entry
  pub text : Appends old new entry.text
  pub counted : now ≡ with_events counts entry.course.told
  pub after : IsAt model adapters device entry.course.world

-- the script ended at it
pub record Stopped (number : ℕ) (comes : Result Entry LineRefusal) (status : Status) (old new : Option (List ℕ))
    (counts now : Counts) (w : World)
    (model : ModelData) (adapters : List Standing) (device : Option State) : Type 0 where
  pub refused : (why : LineRefusal) → comes ≡ Err why
      → EndsAs (stops number why counts w) status old new now model adapters device
  pub broken : (entry : Entry) → comes ≡ Ok entry → (is_complete status ≡ false) × AppendsFront old new entry.text
  pub stays : (why : LineRefusal) → comes ≡ Err why → (now ≡ counts) × IsAt model adapters device w
  pub done : (entry : Entry) → comes ≡ Ok entry → IsDone entry.course.steps w counts now model adapters device

abbrev pub IsTurn : (number : ℕ) → Result Entry LineRefusal → (old new : Option (List ℕ)) → (counts now : Counts)
    → World → ModelData → List Standing → Option State → Turn → Type 0
IsTurn number comes old new counts now w model adapters device Next =
    RanOn comes old new counts now model adapters device
IsTurn number comes old new counts now w model adapters device (Stop status) =
    Stopped number comes status old new counts now w model adapters device

-- ---- a script

-- what the lines of an input come to, from that number on, where the device tells its state and the source its bytes
abbrev pub coming : (number : ℕ) → Counts → ModelData → List Standing → Option State → Option (List ℕ) → Option Ending
coming number counts model adapters (Some device) (Some bytes) =
    Some (script_from number counts (world model adapters device) (lines_of bytes))
coming number counts model adapters (Some device) None = None
coming number counts model adapters None input = None

-- of what is left of a script at a moment, and counted on from there
abbrev pub to_come : (number : ℕ) → Moment → (input : Option (List ℕ)) → Option Ending
to_come number before input = coming number before.counts before.model before.adapters before.device input

-- a text was written, and then this is still to come
pub record PassesTo (e : Ending) (next : Option Ending) (old new : Option (List ℕ)) : Type 0 where
  pub text : List ℕ
  pub others : Ending
  pub is : next ≡ Some others
  pub whole : e ≡ after_text text others
  pub written : Appends old new text

-- one line of a script was run and written, and the script is the rest
abbrev pub GoesOn : (number : ℕ) (before : Moment) (input : Option (List ℕ))
    (after : Moment) (rest : Option (List ℕ)) → Type 0
GoesOn number before input after rest =
    IfSome (to_come number before input) (λ e. PassesTo e (to_come (number + 1) after rest) before.text after.text)

-- the script ended, with its whole log, or with a front of it
abbrev pub Ends : (number : ℕ) → (before : Moment) → (input : Option (List ℕ)) → (after : Moment) → Status → Type 0
Ends number before input after status = IfSome (to_come number before input) (λ e.
    EndsAs e status before.text after.text after.counts after.model after.adapters after.device)

-- a whole script ended, with its whole log or a front of it, and its counts were added to those before
abbrev pub PlaysScript : (before : Moment) → (input : Option (List ℕ)) → (after : Moment) → Status → Type 0
PlaysScript before input after status =
    IfSome (coming 1 no_counts before.model before.adapters before.device input) (λ e.
    IsWrittenOut e status before.text after.text before.counts after.counts after.model after.adapters after.device)

-- ---- a script whose source failed

-- Bytes were taken from the front of an input, and exactly the log of the lines whose 10 is among them was written.
pub record LinesBreak (log : List (List ℕ) → List ℕ) (bytes : List ℕ) (left old new : Option (List ℕ)) : Type 0 where
  pub taken : List ℕ
  pub others : List ℕ
  pub split : taken ++ others ≡ bytes
  pub is_left : left ≡ Some others
  pub text : Appends old new (log (whole_lines taken))

-- lines, each with the 10 that ends it
abbrev pub with_ends : List (List ℕ) → List ℕ
with_ends [] = []
with_ends (line ∷ lines) = line ++ 10 ∷ with_ends lines

-- An input was taken up to the midst of a line: some lines whole, and then some bytes of the next one.
-- What comes next are these bytes, and then those that the source has left.
pub record CutsBehind (bytes : List ℕ) (next left : Option (List ℕ)) : Type 0 where
  pub whole : List (List ℕ)
  pub cut : List ℕ
  pub others : List ℕ
  pub split : with_ends whole ++ (cut ++ others) ≡ bytes
  pub midst : first_line cut ≡ cut
  pub is_next : next ≡ Some (cut ++ others)
  pub is_left : left ≡ Some others

-- where the source tells its bytes
abbrev pub KeepsCut : (input next left : Option (List ℕ)) → Type 0
KeepsCut input next left = IfSome input (λ bytes. CutsBehind bytes next left)

-- of the lines of a script, from that number on
abbrev pub BreaksAfter : (number : ℕ) → World → (bytes : List ℕ) → (left old new : Option (List ℕ)) → Type 0
BreaksAfter number w bytes left old new = LinesBreak (lines_text number w) bytes left old new

-- where the device tells its state and the source its bytes
abbrev pub Breaks : (number : ℕ) → ModelData → List Standing → Option State → (input left old new : Option (List ℕ))
    → Type 0
Breaks number model adapters device input left old new =
    IfSome device (λ d. IfSome input (λ bytes. BreaksAfter number (world model adapters d) bytes left old new))

-- from a moment on: this is left of the input, and this is what was written in the end
abbrev pub BreaksFrom : (number : ℕ) → (before : Moment) → (input left last : Option (List ℕ)) → Type 0
BreaksFrom number before input left last =
    Breaks number before.model before.adapters before.device input left before.text last

-- a script breaks off as what is left of it behind a line does
abbrev pub BreaksAsRest : (number : ℕ) (before : Moment) (input : Option (List ℕ))
    (after : Moment) (rest : Option (List ℕ)) → Type 0
BreaksAsRest number before input after rest =
    (left last : Option (List ℕ))
    → BreaksFrom (number + 1) after rest left last → BreaksFrom number before input left last

-- ---- the next line of a script

-- over any device: as what is left behind it is played, the whole is
abbrev pub PlaysWithRest : (number : ℕ) (before : Point) (input : Option (List ℕ))
    (after : Point) (rest : Option (List ℕ)) → Type 0
PlaysWithRest number before input after rest =
    (last : Point) (status : Status)
    → PlaysInput (number + 1) after rest last status → PlaysInput number before input last status

-- and after a source that failed: as exactly the lines that are taken whole behind it are played, the whole is
abbrev pub IsCutWithRest : (number : ℕ) (before : Point) (input : Option (List ℕ))
    (after : Point) (rest : Option (List ℕ)) → Type 0
IsCutWithRest number before input after rest =
    (left : Option (List ℕ)) (last : Point)
    → PlaysCut (number + 1) after rest left last → PlaysCut number before input left last

-- It was read and run at one moment, and the script is the rest, or ended at it.
pub record PlaysLine (number : ℕ) (before : Point) (input : Option (List ℕ)) (after : Point)
    (rest left : Option (List ℕ)) (ended : Bool) (turn : Turn) : Type 0 where
  pub plays_next : turn ≡ Next → PlaysWithRest number before input after rest
  pub plays_stop : (status : Status) → turn ≡ Stop status → PlaysInput number before input after status
  pub taken : turn ≡ Stop SourceFault → PlaysCut number before input left after
  pub later_taken : turn ≡ Next → ended ≡ false → IsCutWithRest number before input after rest
  -- where the device tells its state
  pub next : turn ≡ Next → GoesOn number (moment_at before) input (moment_at after) rest
  pub stop : (status : Status) → turn ≡ Stop status → Ends number (moment_at before) input (moment_at after) status
  pub at_fault : turn ≡ Stop SourceFault → BreaksFrom number (moment_at before) input left after.text
  pub later_fault : turn ≡ Next → ended ≡ false → BreaksAsRest number (moment_at before) input (moment_at after) rest
  -- after a source that failed the reader has the line that was cut
  pub cut : turn ≡ Stop SourceFault → KeepsCut input rest left
  pub later_cut : turn ≡ Next → ended ≡ false → (next others : Option (List ℕ)) → KeepsCut rest next others
      → KeepsCut input next others
  pub done_next : turn ≡ Next → DoesWithRest number (moment_at before) input (moment_at after) rest
  pub done_stop : (status : Status) → turn ≡ Stop status → DoesFrom number (moment_at before) input (moment_at after)
  -- at most so many lines are run, and a status that goes by the counts goes by these
  pub last : turn ≡ Next → number ≤ MOST_LINES
  pub counted : IfSome (stop_of turn) (λ status. IsCounted status after.counts)

-- ---- the lines that are left

-- They were played from one moment to the other. This is next of the input, and this is what its source has left.
pub record PlaysThrough (before : Point) (input next left : Option (List ℕ)) (after : Point)
    (status : Status) : Type 0 where
  pub on_any_device : PlaysInput 1 before input after status
  pub taken : status ≡ SourceFault → PlaysCut 1 before input left after
  -- where the device tells its state
  pub log : Ends 1 (moment_at before) input (moment_at after) status
  pub at_fault : status ≡ SourceFault → BreaksFrom 1 (moment_at before) input left after.text
  pub done : DoesFrom 1 (moment_at before) input (moment_at after)
  -- after a source that failed no byte is lost behind the lines that were taken whole
  pub none_lost : status ≡ SourceFault → KeepsCut input next left
  -- a status that goes by the counts goes by these
  pub counted : IsCounted status after.counts
