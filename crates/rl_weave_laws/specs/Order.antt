-- The order in which the words of a weave go out doesn't matter.
use Rattle.std.specs.Prelude.{◌≡◌, List, [], map}
use Rattle.std.specs.List.Sorted.{IsPermutation}
use Rattle.rl_access.specs.declared.event.Op.{Op}
use Rattle.rl_access.specs.Call.{Scene}
use Rattle.rl_access.specs.Model.{IsModel}
use Rattle.rl_plain.specs.Agree.{Agree}
use Rattle.rl_plain.specs.Calls.{without_items}
use Rattle.rl_plain.specs.Courses.{through}
use Rattle.rl_plain.specs.Machine.{Machine, seen}
use Rattle.rl_weave.specs.Weave.{WeaveData, IsWeave, IsWeaveOn}
use Rattle.rl_weave_laws.specs.Half.{IsUnsent}
use Rattle.rl_weave_laws.specs.Runs.{Turn, RunsTo, op_at, events_of}

-- the operations of the open accesses in the order in which these were added
abbrev pub added : WeaveData → List Op
added w = map (op_at w) w.still_open

-- Once no access is open, the model is that of the plain machine which takes the accesses one after another in the
-- order of adding, and the events without their items are the machine's in some order.
abbrev pub OrderDoesNotMatter : Type 0
OrderDoesNotMatter =
    (s new : Scene) (p : Machine) (w left : WeaveData) (turns : List Turn)
    → IsModel s.model → Agree s → s.model ≡ seen s.model.chip s.model.layout p
    → IsWeave w → IsWeaveOn s.model w → IsUnsent w
    → RunsTo w s turns left new → IsModel new.model → left.still_open ≡ []
    → let course = through s.model.chip s.model.layout p (added w) in
    (new.model ≡ seen s.model.chip s.model.layout course.machine)
    × IsPermutation course.events (map without_items (events_of turns))
