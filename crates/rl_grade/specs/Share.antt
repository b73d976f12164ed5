-- Which flaws are of a share, and the answer for each of them.
use Rattle.std.specs.Prelude.{ℕ, ◌+◌, ◌-◌, ◌%◌, ◌==◌, ◌&&◌, nat_le, Bool, if◌then◌else◌, List, [], ◌∷◌, map}
use Rattle.rl_flaw.specs.declared.flaw.Flaw.{Flaw}
use Rattle.rl_desc.specs.Data.{DescData}
use Rattle.rl_session.specs.Judged.{first_world}
use Rattle.rl_grade.specs.declared.grade.Graded.{Graded}
use Rattle.rl_grade.specs.declared.grade.Share.{Share}
use Rattle.rl_grade.specs.declared.job.Task.{Task}
use Rattle.rl_grade.specs.declared.seen.Seen.{Seen}
use Rattle.rl_grade.specs.Adapters.{fresh_standings}
use Rattle.rl_grade.specs.Find.{first_find}
use Rattle.rl_grade.specs.Job.{heard_by}
use Rattle.rl_grade.specs.Place.{with_flaw}

-- the flaw of this number, counted from 1, is the first of the share or some times `every` behind it
abbrev pub is_in_share : Share → (number : ℕ) → Bool
is_in_share share number = nat_le share.first number && (number - share.first) % share.every == 0

-- those of the share, of flaws behind so many others
abbrev pub share_of : Share → (before : ℕ) → List Flaw → List Flaw
share_of share before [] = []
share_of share before (flaw ∷ flaws) =
    if is_in_share share (before + 1) then flaw ∷ share_of share (before + 1) flaws
    else share_of share (before + 1) flaws

-- a flaw with its answer: by the tasks from the first state of the description with it alone, over fresh adapters
abbrev pub graded_by : DescData → List Task → (shown : List Seen) → Flaw → Graded
graded_by d tasks shown flaw =
    record { flaw = flaw; found = first_find shown (heard_by (first_world (with_flaw d flaw) fresh_standings) tasks) }

-- those of a share, each with its answer
abbrev pub grades_of : DescData → List Task → (shown : List Seen) → Share → (before : ℕ) → List Flaw → List Graded
grades_of d tasks shown share before flaws = map (graded_by d tasks shown) (share_of share before flaws)
