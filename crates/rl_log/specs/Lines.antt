-- The log of a script as the text of its events, line by line.
use Rattle.std.specs.Prelude.{◌≡◌, ◌⊎◌, ℕ, ◌+◌, List, [], ◌∷◌, ◌++◌, map, Option, Ok}
use Rattle.rl_access.specs.HandsOver.{Told}
use Rattle.rl_access.specs.Runs.{no_tally, counted_all}
use Rattle.rl_access.specs.World.{World}
use Rattle.rl_report.specs.Pieces.{joined}
use Rattle.rl_script.specs.declared.line.Line.{Line}
use Rattle.rl_script.specs.declared.line.Line.TheVariants as say
use Rattle.rl_log.specs.declared.counts.Counts.{Counts}
use Rattle.rl_log.specs.declared.refusal.LineRefusal.{LineRefusal}
use Rattle.rl_log.specs.Entry.{begin_text, closed_text}
use Rattle.rl_log.specs.Events.{Happened, counted_on, events_from}
use Rattle.rl_log.specs.Log.{said, script_from}
use Rattle.rl_log.specs.Recording.{events_text}
use Rattle.rl_log.specs.Texts.{refused_text, end_text}

-- ---- a line and its events

-- an event is told with the model right after it
abbrev pub told_at : Happened → Told
told_at h = record { model = h.after; event = h.event }

-- The text of each event in order. Those of a sequence stand between its two lines, of which the second counts them.
abbrev pub line_text : Line → List Told → List ℕ
line_text (say.Seq which over) told =
    joined (begin_text which over ∷ events_text told ∷ closed_text which over (counted_all no_tally told) ∷ [])
line_text _ told = events_text told

-- a line that was run, and its events
pub record Ran : Type 0 where
  pub line : Line
  pub events : List Happened

abbrev pub ran_text : Ran → List ℕ
ran_text r = line_text r.line (map told_at r.events)

-- ---- a log

abbrev pub events_of : List Ran → List Happened
events_of [] = []
events_of (r ∷ ran) = r.events ++ events_of ran

abbrev pub text_of : List Ran → List ℕ
text_of [] = []
text_of (r ∷ ran) = ran_text r ++ text_of ran

-- they are the first of these lines, which are numbered from there
abbrev pub AreFirst : (number : ℕ) → List Ran → List (List ℕ) → Type 0
AreFirst number [] lines = Unit {0}
AreFirst number (r ∷ ran) [] = ⊥
AreFirst number (r ∷ ran) (bytes ∷ lines) = (said number bytes ≡ Ok r.line) × AreFirst (number + 1) ran lines

-- a line that says which line is refused, and why
pub record SaysRefused (last : List ℕ) : Type 0 where
  pub number : ℕ
  pub why : LineRefusal
  pub is : last ≡ refused_text number why

-- A text is the log of these lines and events: line by line the text of each line's events, and then one last line,
-- which counts all of them or says which line is refused.
pub record IsLogOf (number : ℕ) (counts : Counts) (lines : List (List ℕ)) (events : List Happened)
    (text : List ℕ) : Type 0 where
  pub ran : List Ran
  pub first : AreFirst number ran lines
  pub events_are : events_of ran ≡ events
  pub last : List ℕ
  pub is_last : (last ≡ end_text (counted_on counts events)) ⊎ SaysRefused last
  pub text_is : text ≡ text_of ran ++ last

-- so it is of every script, whatever stands before it
abbrev pub EveryLogTellsItsEvents : Type 0
EveryLogTellsItsEvents =
    (number : ℕ) (counts : Counts) (w : World) (lines : List (List ℕ))
    → IsLogOf number counts lines (events_from number w lines) (script_from number counts w lines).text
