-- The events of a script, each with the number of its line.
use Rattle.std.specs.Prelude.{ℕ, List, map}
use Rattle.rl_access.specs.HandsOver.{Told}
use Rattle.rl_log.specs.Course.{Course}

pub record Heard : Type 0 where
  pub line : ℕ
  pub told : Told

abbrev pub heard_at : ℕ → Told → Heard
heard_at line t = record { line = line; told = t }

-- those of one line
abbrev pub heard_in : ℕ → Course → List Heard
heard_in line c = map (heard_at line) c.told
