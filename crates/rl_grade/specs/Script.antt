-- What the lines of a script ask for, by the numbers that a chip and a layout give its names.
use Rattle.std.specs.Prelude.{ℕ, ◌+◌, List, [], ◌∷◌, ◌++◌, Option, Some, None, option_map, Result, Ok, Err}
use Rattle.rl_access.specs.Model.{ModelData}
use Rattle.rl_script.specs.declared.line.Line.{Line}
use Rattle.rl_script.specs.declared.line.Line.TheVariants as line
use Rattle.rl_log.specs.declared.refusal.LineRefusal.{LineRefusal}
use Rattle.rl_log.specs.declared.refusal.LineRefusal.TheVariants.{NoSuchName}
use Rattle.rl_log.specs.Entry.{with_both}
use Rattle.rl_log.specs.Log.{said}
use Rattle.rl_log.specs.Named.{mem_named, map_asked, block_asked, op_named}
use Rattle.rl_grade.specs.declared.job.Job.{Job}
use Rattle.rl_grade.specs.declared.job.Job.TheVariants as job
use Rattle.rl_grade.specs.declared.job.Task.{Task}

-- ---- a line

-- of a line that isn't blank; none where a name isn't there
abbrev pub job_named : ModelData → Line → Option Job
job_named m (line.BurstWrite mem first values map) =
    with_both (mem_named m.chip mem) (map_asked m.layout map) (λ i t. job.BurstWrite i t first values)
job_named m (line.BurstRead mem first count map) =
    with_both (mem_named m.chip mem) (map_asked m.layout map) (λ i t. job.BurstRead i t first count)
job_named m (line.Seq which over) = option_map (job.Sequence which) (block_asked m.chip over)
job_named m line = option_map job.One (op_named m line)

abbrev pub named_there : Option Job → Result (Option Job) LineRefusal
named_there None = Err NoSuchName
named_there (Some job) = Ok (Some job)

-- what a line asks for, or why it is refused; a blank line asks for nothing
abbrev pub job_asked : ModelData → Result Line LineRefusal → Result (Option Job) LineRefusal
job_asked m (Ok line.Blank) = Ok None
job_asked m (Ok line) = named_there (job_named m line)
job_asked m (Err why) = Err why

-- ---- a script

-- the number of a line that is refused, and why
pub record RefusedLine : Type 0 where
  pub number : ℕ
  pub why : LineRefusal

-- with the number of its line
abbrev pub tasks_at : (number : ℕ) → Option Job → List Task
tasks_at number None = []
tasks_at number (Some job) = record { line = number; job = job } ∷ []

abbrev pub behind : List Task → Result (List Task) RefusedLine → Result (List Task) RefusedLine
behind first (Ok tasks) = Ok (first ++ tasks)
behind first (Err at) = Err at

-- nothing comes after a line that is refused
abbrev pub tasks_on : (number : ℕ) → Result (Option Job) LineRefusal → (rest : Result (List Task) RefusedLine)
    → Result (List Task) RefusedLine
tasks_on number (Err why) rest = Err (record { number = number; why = why })
tasks_on number (Ok job) rest = behind (tasks_at number job) rest

-- the tasks of the lines from that number on, or the first line that is refused
unfoldable pub tasks_from : ModelData → (number : ℕ) → List (List ℕ) → Result (List Task) RefusedLine
tasks_from m number [] = Ok []
tasks_from m number (line ∷ lines) = tasks_on number (job_asked m (said number line)) (tasks_from m (number + 1) lines)
