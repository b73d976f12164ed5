-- What is written and counted of events.
use Rattle.std.specs.Prelude.{◌≡◌, ℕ, List, [], ◌∷◌, ◌++◌, Option}
use Rattle.std.specs.Io.KnownBytes.{Appends}
use Rattle.rl_access.specs.declared.event.Event.{Event}
use Rattle.rl_access.specs.Model.{ModelData}
use Rattle.rl_bus.specs.Standing.{Standing}
use Rattle.rl_bus.specs.State.{State}
use Rattle.rl_report.specs.Event.{event_text}
use Rattle.rl_report.specs.Pieces.{AppendsFront}
use Rattle.rl_log.specs.declared.counts.Counts.{Counts}
use Rattle.rl_access.specs.World.{World, Step, IsAt}
use Rattle.rl_log.specs.Recording.{with_event}

-- ---- the recorder

-- the event's text was written, and the event is counted
pub record IsWritten (old new : Option (List ℕ)) (counts now : Counts) (model : ModelData)
    (event : Event) : Type 0 where
  pub text : Appends old new (event_text model event)
  pub counted : now ≡ with_event counts event

-- a front of its text was written, and it is counted
pub record IsBegun (old new : Option (List ℕ)) (counts now : Counts) (model : ModelData) (event : Event) : Type 0 where
  pub text : AppendsFront old new (event_text model event)
  pub counted : now ≡ with_event counts event

-- ---- the first of some events

-- what stands after these
abbrev pub led_to : World → List Step → World
led_to w [] = w
led_to w (s ∷ steps) = led_to s.world steps

abbrev pub with_steps : Counts → List Step → Counts
with_steps counts [] = counts
with_steps counts (s ∷ steps) = with_steps (with_event counts s.event) steps

-- The first of these events were done and counted, no others, and they led here.
pub record IsDone (steps : List Step) (w : World) (counts now : Counts)
    (model : ModelData) (adapters : List Standing) (device : Option State) : Type 0 where
  pub done : List Step
  pub others : List Step
  pub split : done ++ others ≡ steps
  pub counted : now ≡ with_steps counts done
  pub after : IsAt model adapters device (led_to w done)
