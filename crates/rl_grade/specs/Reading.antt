-- What comes of a line that is read, and the line for which a script gives no tasks.
use Rattle.std.specs.Prelude.{◌≡◌, ℕ, ◌<◌, List, [], length, Option, Some, None, IfSome, Result, Ok, Err}
use Rattle.rl_access.specs.Model.{ModelData}
use Rattle.rl_model.specs.Rows.{ChipData}
use Rattle.rl_log.specs.declared.refusal.LineRefusal.{LineRefusal}
use Rattle.rl_log.specs.Log.{said}
use Rattle.rl_report.specs.Lines.{first_line, after_line}
use Rattle.rl_grade.specs.declared.job.Job.{Job}
use Rattle.rl_grade.specs.declared.script.ScriptFault.{ScriptFault}
use Rattle.rl_grade.specs.declared.script.ScriptFault.TheVariants as fault
use Rattle.rl_grade.specs.declared.script.Turn.{Turn}
use Rattle.rl_grade.specs.declared.script.Turn.TheVariants.{Line, End}
use Rattle.rl_grade.specs.declared.script.Unread.{Unread}
use Rattle.rl_grade.specs.declared.script.Unread.TheVariants.{Refused, Memory}
use Rattle.rl_grade.specs.Job.{JobFits}
use Rattle.rl_grade.specs.Script.{RefusedLine, job_asked}

-- the line that is refused, unless it was another fault
abbrev pub refused_line : ScriptFault → Option RefusedLine
refused_line (fault.Line number why) = Some (record { number = number; why = why })
refused_line fault.Source = None
refused_line fault.Memory = None

-- it answers what is asked for, unless memory ran out
abbrev pub Answers : Result (Option Job) LineRefusal → Result (Option Job) Unread → Type 0
Answers asked (Ok job) = asked ≡ Ok job
Answers asked (Err (Refused why)) = asked ≡ Err why
Answers asked (Err Memory) = Unit {0}

-- The first line of these bytes asks for this, and what is left are the lines behind it.
pub record IsAsked (m : ModelData) (number : ℕ) (bytes : List ℕ) (rest : Option (List ℕ)) (job : Option Job)
    : Type 0 where
  pub some : 0 < length bytes
  pub asked : job_asked m (said number (first_line bytes)) ≡ Ok job
  pub rest_is : rest ≡ Some (after_line bytes)

-- The first line of these bytes is refused.
pub record IsRefused (m : ModelData) (number : ℕ) (bytes : List ℕ) (at : RefusedLine) : Type 0 where
  pub some : 0 < length bytes
  pub number_is : at.number ≡ number
  pub asked : job_asked m (said number (first_line bytes)) ≡ Err at.why

-- what comes of the next line, unless the source failed or memory ran out
abbrev pub Reads : ModelData → (number : ℕ) → (bytes : List ℕ) → (rest : Option (List ℕ)) → Result Turn ScriptFault
    → Type 0
Reads m number bytes rest (Ok End) = bytes ≡ []
Reads m number bytes rest (Ok (Line job)) = IsAsked m number bytes rest job
Reads m number bytes rest (Err (fault.Line at why)) = IsRefused m number bytes (record { number = at; why = why })
Reads m number bytes rest (Err fault.Source) = Unit {0}
Reads m number bytes rest (Err fault.Memory) = Unit {0}

-- the numbers in it are in range
abbrev pub TurnFits : ChipData → (maps : ℕ) → Turn → Type 0
TurnFits c maps (Line job) = IfSome job (JobFits c maps)
TurnFits c maps End = Unit {0}
