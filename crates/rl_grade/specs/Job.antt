-- What a job does, and the events of jobs one after another.
use Rattle.std.specs.Prelude.{◌≡◌, ℕ, ◌<◌, true, List, [], ◌∷◌, ◌++◌, length, All, IfSome}
use Rattle.rl_model.specs.Rows.{ChipData}
use Rattle.rl_access.specs.Operation.{HasNumbers, IsMapIn, is_single}
use Rattle.rl_access.specs.World.{World}
use Rattle.rl_log.specs.Course.{Course}
use Rattle.rl_log.specs.Entry.{burst_read_course, burst_write_course, op_course, sequence_course}
use Rattle.rl_grade.specs.declared.job.Job.{Job}
use Rattle.rl_grade.specs.declared.job.Job.TheVariants.{One, BurstWrite, BurstRead, Sequence}
use Rattle.rl_grade.specs.declared.job.Task.{Task}
use Rattle.rl_grade.specs.Heard.{Heard, heard_in}

-- its operations, from a world on
abbrev pub course_of : Job → World → Course
course_of (One op) w = op_course op w
course_of (BurstWrite mem map first values) w = burst_write_course mem map first values w
course_of (BurstRead mem map first count) w = burst_read_course mem map first count w
course_of (Sequence which block) w = sequence_course which block w

-- the numbers in it are in range
abbrev pub JobFits : ChipData → (maps : ℕ) → Job → Type 0
JobFits c maps (One op) = HasNumbers c maps op × (is_single op ≡ true)
JobFits c maps (BurstWrite mem map first values) = (mem < length c.mems) × IsMapIn maps map
JobFits c maps (BurstRead mem map first count) = (mem < length c.mems) × IsMapIn maps map
JobFits c maps (Sequence which block) = IfSome block (λ b. b < c.blocks)

abbrev pub TasksFit : ChipData → (maps : ℕ) → List Task → Type 0
TasksFit c maps tasks = All (λ t. JobFits c maps t.job) tasks

-- the events of these tasks, each from where the one before ended
unfoldable pub heard_by : World → List Task → List Heard
heard_by w [] = []
heard_by w (t ∷ tasks) = heard_in t.line (course_of t.job w) ++ heard_by (course_of t.job w).world tasks
