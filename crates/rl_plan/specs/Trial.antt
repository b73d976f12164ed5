-- What a trial of flaws takes for granted.
use Rattle.std.specs.Prelude.{◌≡◌, List, length}
use Rattle.rl_map.specs.Maps.{IsBuiltWith}
use Rattle.rl_bus.specs.Standing.{kinds_of}
use Rattle.rl_desc.specs.Data.{DescData}
use Rattle.rl_grade.specs.declared.job.Task.{Task}
use Rattle.rl_grade.specs.Adapters.{fresh_standings}
use Rattle.rl_grade.specs.Job.{TasksFit}

-- The layout is one of the chip and of the adapters that a program begins with, and each task names what is there.
pub record CanTry (d : DescData) (tasks : List Task) : Type 0 where
  pub built_with : IsBuiltWith d.layout d.chip
  pub kinds : d.layout.kinds ≡ kinds_of fresh_standings
  pub fits : TasksFit d.chip (length d.layout.maps) tasks
