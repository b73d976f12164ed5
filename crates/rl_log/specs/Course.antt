-- Operations that are done one after another: what is handed on of them, and what there is after them.
use Rattle.std.specs.Prelude.{List, [], ◌∷◌, if◌then◌else◌, Ok, Err}
use Rattle.rl_access.specs.declared.event.Op.{Op}
use Rattle.rl_access.specs.HandsOver.{Told}
use Rattle.rl_access.specs.Rules.{Grant}
use Rattle.rl_access.specs.Tally.{is_bus_error}
use Rattle.rl_seq.specs.Plan.{Plan, stop, step, look}
use Rattle.rl_access.specs.World.{World, Step, step_of, unchanged}

pub record Course : Type 0 where
  -- each event, with the model right after it
  pub told : List Told
  pub world : World
  -- each event, with all that stands right after it
  pub steps : List Step

abbrev pub told_of : Step → Told
told_of s = record { model = s.world.model; event = s.event }

-- no operation
abbrev pub nothing_done : World → Course
nothing_done w = record { told = []; world = w; steps = [] }

-- one operation
abbrev pub alone : Step → Course
alone s = record { told = told_of s ∷ []; world = s.world; steps = s ∷ [] }

-- one operation, and then others
abbrev pub first_then : Step → Course → Course
first_then s others = record { told = told_of s ∷ others.told; world = others.world; steps = s ∷ others.steps }

-- each operation, up to and with the first that ends by a bus error
unfoldable pub through : World → List Op → Course
through w [] = nothing_done w
through w (op ∷ ops) =
    let s = step_of w op in
    if is_bus_error s.event.end then alone s else first_then s (through s.world ops)

-- each operation of a plan
unfoldable pub along : World → Plan → Course
along w stop = nothing_done w
along w (step op p) = let s = step_of w op in first_then s (along s.world p)
along w (look f) = along w (f w.model)

-- an operation that is refused as a whole, or done as those that it stands for
abbrev pub burst : World → Grant → Op → List Op → Course
burst w (Ok place) op ops = through w ops
burst w (Err why) op ops = alone (unchanged w op why)
