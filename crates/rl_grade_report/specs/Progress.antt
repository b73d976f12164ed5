-- How the places are done one after another.
use Rattle.std.specs.Prelude.{◌≡◌, ◌<◌, ℕ, List, [], ◌++◌, length, Result, Ok, Err, Option}
use Rattle.rl_access.specs.Model.{ModelData}
use Rattle.rl_map.specs.Maps.{IsBuiltWith}
use Rattle.rl_bus.specs.Standing.{kinds_of}
use Rattle.rl_desc.specs.Data.{DescData}
use Rattle.rl_log.specs.declared.status.Status.{Status}
use Rattle.rl_log.specs.Telling.{Tells}
use Rattle.rl_grade.specs.declared.job.Task.{Task}
use Rattle.rl_grade.specs.declared.place.Place.{Place}
use Rattle.rl_grade.specs.declared.run.Shown.{Shown}
use Rattle.rl_grade.specs.Adapters.{fresh_standings}
use Rattle.rl_grade.specs.Job.{TasksFit}
use Rattle.rl_grade_report.specs.declared.asked.Asked.{Asked}
use Rattle.rl_grade_report.specs.declared.grading.Progress.{Progress}
use Rattle.rl_grade_report.specs.Grading.{Base, Grading, flaws_behind, judged_at}
use Rattle.rl_grade_report.specs.Verdict.{AreJudged}
use Rattle.rl_grade_report.specs.Waivers.{RowData}

-- The layout is one of the chip and of the adapters that a program begins with, each task names what is there, and the
-- share is one of some.
pub record CanGrade (asked : Asked) (d : DescData) (tasks : List Task) : Type 0 where
  pub built_with : IsBuiltWith d.layout d.chip
  pub kinds : d.layout.kinds ≡ kinds_of fresh_standings
  pub fits : TasksFit d.chip (length d.layout.maps) tasks
  pub every : 0 < asked.share.every

-- what these tasks show, where so much is waived
abbrev pub base_shown : (waivers : List RowData) → List Task → Shown → Base
base_shown waivers tasks shown =
    record { waivers = waivers; tasks = tasks; seen = shown.seen.items; items = shown.items }

-- a model's chip and layout, without a flaw
abbrev pub desc_of : ModelData → DescData
desc_of m = record { chip = m.chip; layout = m.layout; flaws = [] }

-- A place was done: the description and the known answers are the same, its flaws stand before the next place, and those
-- tried come behind the earlier ones, each with a flaw that is there.
pub record IsNext (asked : Asked) (base : Base) (place : Place) (now next : Progress) : Type 0 where
  pub desc_is : next.desc ≡ now.desc
  pub number_is : next.number ≡ flaws_behind now.desc base now.number place
  pub judged_are : next.judged.items ≡ now.judged.items ++ judged_at asked now.desc base now.number place
  pub each : AreJudged now.desc.chip now.desc.layout next.judged.items
  pub known_is : next.known.graded ≡ now.known.graded

-- the status with which the text was written, or with which that failed
abbrev pub status_of : (written : Result Status Status) → Status
status_of (Ok status) = status
status_of (Err status) = status

-- the whole text was told with its status, or a front of it
abbrev pub TellsGraded : Grading → Status → (old new : Option (List ℕ)) → Type 0
TellsGraded g status old new = Tells status g.status old new g.text
