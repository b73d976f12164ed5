-- The events of a script's lines, and that the tasks of a script are what a run of it does.
use Rattle.std.specs.Prelude.{◌≡◌, ℕ, ◌+◌, List, [], ◌∷◌, ◌++◌, map, Result, Ok, Err}
use Rattle.rl_access.specs.HandsOver.{Told}
use Rattle.rl_access.specs.Model.{ModelData, IsSameChip}
use Rattle.rl_access.specs.World.{World}
use Rattle.rl_log.specs.declared.counts.Counts.{Counts}
use Rattle.rl_log.specs.declared.refusal.LineRefusal.{LineRefusal}
use Rattle.rl_log.specs.Entry.{Entry}
use Rattle.rl_log.specs.Events.{Happened, events_from}
use Rattle.rl_log.specs.Log.{Ending, after_text, comes_of, ends, said, script_from, stops}
use Rattle.rl_grade.specs.declared.job.Task.{Task}
use Rattle.rl_grade.specs.Heard.{Heard, heard_in}
use Rattle.rl_grade.specs.Job.{heard_by}
use Rattle.rl_grade.specs.Script.{RefusedLine, tasks_from}

-- ---- the events of the lines, each with its line's number

-- a line that is refused does nothing, and nothing comes after it
abbrev pub heard_on : (number : ℕ) → Result Entry LineRefusal → (rest : World → List Heard) → List Heard
heard_on number (Err why) rest = []
heard_on number (Ok entry) rest = heard_in number entry.course ++ rest entry.course.world

-- of the lines from that number on
unfoldable pub heard_from : (number : ℕ) → World → List (List ℕ) → List Heard
heard_from number w [] = []
heard_from number w (line ∷ lines) =
    heard_on number (comes_of w (said number line)) (λ w. heard_from (number + 1) w lines)

abbrev pub told_after : Happened → Told
told_after h = record { model = h.after; event = h.event }

-- They are the events of the log, with the models after them.
abbrev pub HeardAreEvents : Type 0
HeardAreEvents =
    (number : ℕ) (w : World) (lines : List (List ℕ))
    → map (λ h. h.told) (heard_from number w lines) ≡ map told_after (events_from number w lines)

-- ---- how a script ends

-- none of its lines is refused
pub record ComesToItsEnd (e : Ending) : Type 0 where
  pub text : List ℕ
  pub counts : Counts
  pub world : World
  pub ends_so : e ≡ after_text text (ends counts world)

-- it stops at this line, for this reason
pub record StopsAt (e : Ending) (at : RefusedLine) : Type 0 where
  pub text : List ℕ
  pub counts : Counts
  pub world : World
  pub stops_so : e ≡ after_text text (stops at.number at.why counts world)

-- ---- tasks

-- A run of the lines does the tasks, and comes to its end.
pub record DoesTasks (number : ℕ) (counts : Counts) (w : World) (lines : List (List ℕ)) (tasks : List Task)
    : Type 0 where
  pub heard : heard_by w tasks ≡ heard_from number w lines
  pub ending : ComesToItsEnd (script_from number counts w lines)

-- From each world whose model has that chip and layout, a run of the lines does exactly the tasks that they give.
abbrev pub RunDoesTasks : Type 0
RunDoesTasks =
    (m : ModelData) (number : ℕ) (counts : Counts) (w : World) (lines : List (List ℕ)) (tasks : List Task)
    → IsSameChip m w.model → tasks_from m number lines ≡ Ok tasks → DoesTasks number counts w lines tasks

-- And where they give none, it stops at that line for that reason.
abbrev pub RunStopsThere : Type 0
RunStopsThere =
    (m : ModelData) (number : ℕ) (counts : Counts) (w : World) (lines : List (List ℕ)) (at : RefusedLine)
    → IsSameChip m w.model → tasks_from m number lines ≡ Err at → StopsAt (script_from number counts w lines) at
