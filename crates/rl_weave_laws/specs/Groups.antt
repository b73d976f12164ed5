-- A group that is run, beside the plain machine.
use Rattle.std.specs.Prelude.{◌≡◌, ℕ, List, [], ◌∷◌, ◌++◌, map}
use Rattle.std.specs.List.{concat}
use Rattle.std.specs.List.Sorted.{IsPermutation}
use Rattle.rl_bus.specs.Account.{without_peer}
use Rattle.rl_access.specs.declared.event.Event.{Event}
use Rattle.rl_access.specs.Model.{ModelData, IsModel, IsSameChip}
use Rattle.rl_access.specs.World.{World, scene_at}
use Rattle.rl_log.specs.declared.counts.Counts.{Counts}
use Rattle.rl_log.specs.Recording.{with_event}
use Rattle.rl_plain.specs.Agree.{Agree}
use Rattle.rl_plain.specs.Courses.{Course, through}
use Rattle.rl_plain.specs.Machine.{Machine, seen}
use Rattle.rl_report.specs.Event.{event_line}
use Rattle.rl_report.specs.WithoutItems.{plain_part, HasNames}
use Rattle.rl_weave.specs.Weave.{WeaveData, IsWeave, IsWeaveOn}
use Rattle.rl_weave_laws.specs.Half.{IsUnsent}
use Rattle.rl_weave_laws.specs.Order.{added}
use Rattle.rl_weave_log.specs.WeaveLog.{Weaving, group, words}

-- ---- all words of a group are sent

-- behind the words of a group no access is open
abbrev pub NoneIsOpen : Type 0
NoneIsOpen = (g : Weaving) → IsModel g.world.model → IsWeave g.weave → IsWeaveOn g.world.model g.weave
    → (words 512 g).after.weave.still_open ≡ []

-- ---- where a group begins

-- its accesses are as the model has them, and none has sent a word
pub record IsGathered (m : ModelData) (w : WeaveData) : Type 0 where
  pub weave : IsWeave w
  pub on : IsWeaveOn m w
  pub unsent : IsUnsent w

-- the device has no flaw, no field is volatile, and device and model agree and are the machine's
pub record IsMachineWorld (w : World) (p : Machine) : Type 0 where
  pub sound : IsModel w.model
  pub agree : Agree (scene_at w (without_peer 0))
  pub model : w.model ≡ seen w.model.chip w.model.layout p

-- ---- what it writes

abbrev pub event_lines : ModelData → List Event → List (List ℕ)
event_lines m events = map (event_line m) events

-- without its item lines the text is these lines, in some order
pub record HasLines (lines : List (List ℕ)) (text : List ℕ) : Type 0 where
  pub order : List (List ℕ)
  pub same : IsPermutation lines order
  -- also before more text
  pub text_is : (rest : List ℕ) → plain_part (text ++ rest) ≡ concat order ++ plain_part rest

-- the counts with each of these events
abbrev pub counted_in : Counts → List Event → Counts
counted_in counts [] = counts
counted_in counts (e ∷ events) = counted_in (with_event counts e) events

-- the accesses of a group, one after another in the order in which they were added
abbrev pub course_of : Weaving → Machine → Course
course_of g p = through g.world.model.chip g.world.model.layout p (added g.weave)

-- its event lines are the plain machine's in some order, and where it leads is the machine's
pub record IsPlainGroup (g : Weaving) (p : Machine) : Type 0 where
  pub lines : HasLines (event_lines g.world.model (course_of g p).events) (group g).text
  pub world : IsMachineWorld (group g).after.world (course_of g p).machine
  pub same : IsSameChip g.world.model (group g).after.world.model
  -- and it counts what the machine does
  pub counted : (group g).after.counts ≡ counted_in g.counts (course_of g p).events

abbrev pub GroupIsPlain : Type 0
GroupIsPlain =
    (g : Weaving) (p : Machine)
    → HasNames g.world.model.chip g.world.model.layout → IsMachineWorld g.world p → IsGathered g.world.model g.weave
    → IsPlainGroup g p
