-- What holds of every script: how its log ends, where a burst stops, what a line may be, and when a run has passed.
use Rattle.std.specs.Prelude.{◌≡◌, ◌↔◌, ◌⊎◌, ℕ, ◌+◌, ◌<◌, ◌≤◌, Bool, true, false, List, [], ◌∷◌, ◌++◌, length, map, Some, Ok}
use Rattle.rl_access.specs.declared.event.Op.{Op}
use Rattle.rl_access.specs.Tally.{is_bus_error}
use Rattle.rl_access.specs.World.{World, Step}
use Rattle.rl_script.specs.declared.line.Line.{Line}
use Rattle.rl_log.specs.declared.counts.Counts.{Counts}
use Rattle.rl_log.specs.declared.refusal.LineRefusal.{LineRefusal}
use Rattle.rl_log.specs.declared.status.Status.{Status}
use Rattle.rl_log.specs.declared.status.Status.TheVariants.{Passed, Found, Refused}
use Rattle.rl_log.specs.Course.{told_of, through}
use Rattle.rl_log.specs.Endings.{end_status}
use Rattle.rl_log.specs.Entry.{Entry, entry_of}
use Rattle.rl_log.specs.Log.{Ending, said, script_from, lines_text}
use Rattle.rl_log.specs.Statuses.{code_of, is_complete}
use Rattle.rl_log.specs.Texts.{refused_text, end_text}

-- ---- the end of a log

-- its lines, and then the line of its counts
pub record EndsCounted (e : Ending) (text : List ℕ) : Type 0 where
  pub text_is : e.text ≡ text ++ end_text e.counts
  pub status_is : e.status ≡ end_status e.counts

-- its lines up to one that is refused, and then the line that says so
pub record EndsRefused (e : Ending) (first count : ℕ) (text : List ℕ) : Type 0 where
  pub number : ℕ
  pub why : LineRefusal
  pub low : first ≤ number
  pub high : number < first + count
  pub text_is : e.text ≡ text ++ refused_text number why
  pub status_is : e.status ≡ Refused

-- The log of a script is that of its lines and one last line, which tells the counts or which line is refused.
abbrev pub EveryLogEnds : Type 0
EveryLogEnds =
    (number : ℕ) (counts : Counts) (w : World) (lines : List (List ℕ))
    → EndsCounted (script_from number counts w lines) (lines_text number w lines)
    ⊎ EndsRefused (script_from number counts w lines) number (length lines) (lines_text number w lines)

-- A script that came to its end passed exactly where nothing differed and nothing failed on the bus.
abbrev pub PassesWhereClean : Type 0
PassesWhereClean = (counts : Counts) → (end_status counts ≡ Passed) ↔ ((counts.differences ≡ 0) × (counts.errors ≡ 0))

-- The codes 0, 1 and 2 are those of a run that came to its last line, and no two statuses have the same code.
abbrev pub CodesTell : Type 0
CodesTell =
    ((s : Status) → (is_complete s ≡ true) ↔ (code_of s ≤ 2)) × ((s t : Status) → code_of s ≡ code_of t → s ≡ t)

-- ---- a burst

-- no step but the last one ended by a bus error
abbrev pub ErrorIsLast : List Step → Type 0
ErrorIsLast [] = Unit
ErrorIsLast (s ∷ []) = Unit
ErrorIsLast (s ∷ t ∷ steps) = (is_bus_error s.event.end ≡ false) × ErrorIsLast (t ∷ steps)

abbrev pub last_failed : List Step → Bool
last_failed [] = false
last_failed (s ∷ []) = is_bus_error s.event.end
last_failed (s ∷ t ∷ steps) = last_failed (t ∷ steps)

-- A burst has a step for each of its operations, up to and with the first that ends by a bus error.
pub record StopsAtError (steps : List Step) (count : ℕ) : Type 0 where
  pub few : length steps ≤ count
  pub last : ErrorIsLast steps
  pub whole : last_failed steps ≡ false → length steps ≡ count

abbrev pub EveryBurstStops : Type 0
EveryBurstStops = (w : World) (ops : List Op) → StopsAtError (through w ops).steps (length ops)

-- ---- a line

-- What is told of a line is its steps, each with the model right after it.
abbrev pub EntriesTellSteps : Type 0
EntriesTellSteps =
    (w : World) (line : Line) (entry : Entry) → entry_of w line ≡ Some entry
    → entry.course.told ≡ map told_of entry.course.steps

-- A line that says something is one of the first 1,000,000, and has at most 4,096 bytes.
abbrev pub LinesAreLimited : Type 0
LinesAreLimited =
    (number : ℕ) (bytes : List ℕ) (line : Line) → said number bytes ≡ Ok line
    → (number ≤ 1000000) × (length bytes ≤ 4096)
