-- How far a script was done: its first events, what they count, and what there is after them.
use Rattle.std.specs.Prelude.{◌≡◌, ℕ, List, [], ◌∷◌, ◌++◌, ◌+◌, length, Option, IfSome, Result, Ok, Err}
use Rattle.rl_access.specs.Model.{ModelData}
use Rattle.rl_bus.specs.Standing.{Standing}
use Rattle.rl_bus.specs.State.{State}
use Rattle.rl_report.specs.Lines.{lines_of}
use Rattle.rl_log.specs.declared.counts.Counts.{Counts}
use Rattle.rl_log.specs.declared.refusal.LineRefusal.{LineRefusal}
use Rattle.rl_log.specs.Endings.{added, both}
use Rattle.rl_log.specs.Entry.{Entry}
use Rattle.rl_log.specs.Log.{comes_of, said}
use Rattle.rl_play.specs.Moment.{Moment}
use Rattle.rl_play.specs.Recording.{IsDone, led_to, with_steps}
use Rattle.rl_log.specs.Recording.{no_counts}
use Rattle.rl_access.specs.World.{World, world, Step, IsAt}

abbrev pub steps_on : Result Entry LineRefusal → (World → List Step) → List Step
steps_on (Err why) rest = []
steps_on (Ok entry) rest = entry.course.steps ++ rest entry.course.world

-- the events of these lines, from that number on, each with all that stands right after it
unfoldable pub script_steps : (number : ℕ) → World → List (List ℕ) → List Step
script_steps number w [] = []
script_steps number w (line ∷ lines) = steps_on (comes_of w (said number line)) (λ w. script_steps (number + 1) w lines)

-- of the lines of an input, from that number on, where the device tells its state and the source its bytes
abbrev pub Does : (number : ℕ) → ModelData → List Standing → Option State → (input : Option (List ℕ))
    → (counts now : Counts) → ModelData → List Standing → Option State → Type 0
Does number m a device input counts now n b after = IfSome device (λ d. IfSome input (λ bytes.
    IsDone (script_steps number (world m a d) (lines_of bytes)) (world m a d) counts now n b after))

-- the first events of what is left of a script at one moment were done, and no others, and led to the other
abbrev pub DoesFrom : (number : ℕ) → (before : Moment) → (input : Option (List ℕ)) → (after : Moment) → Type 0
DoesFrom number before input after = Does number before.model before.adapters before.device input
    before.counts after.counts after.model after.adapters after.device

-- the first events of a script are those of a line and the first of what is left behind it
abbrev pub DoesWithRest : (number : ℕ) (before : Moment) (input : Option (List ℕ))
    (after : Moment) (rest : Option (List ℕ)) → Type 0
DoesWithRest number before input after rest =
    (total : Counts) (last : ModelData) (standings : List Standing) (state : Option State)
    → Does (number + 1) after.model after.adapters after.device rest after.counts total last standings state
    → Does number before.model before.adapters before.device input before.counts total last standings state

-- The first of these events were done, and no others. The counts rose by as many events, and by all that these count;
-- and this is what stands after them.
pub record IsDoneOf (steps : List Step) (w : World) (before now : Counts)
    (model : ModelData) (adapters : List Standing) (device : Option State) : Type 0 where
  pub done : List Step
  pub others : List Step
  pub split : done ++ others ≡ steps
  pub events : now.events ≡ both before.events (length done)
  pub risen : now ≡ added before (with_steps no_counts done)
  pub after : IsAt model adapters device (led_to w done)

-- of all lines of an input
abbrev pub DoesFirst : ModelData → List Standing → Option State → (input : Option (List ℕ)) → (before now : Counts)
    → ModelData → List Standing → Option State → Type 0
DoesFirst m a device input before now n b after = IfSome device (λ d. IfSome input (λ bytes.
    IsDoneOf (script_steps 1 (world m a d) (lines_of bytes)) (world m a d) before now n b after))

-- the first events of a whole script were done, and no others, and led from one moment to the other
abbrev pub DoesFirstEvents : (before : Moment) → (input : Option (List ℕ)) → (after : Moment) → Type 0
DoesFirstEvents before input after = DoesFirst before.model before.adapters before.device input
    before.counts after.counts after.model after.adapters after.device
