-- What a burst or a sequence hands over to a recorder, also where the recorder fails, is a prefix of
-- the plain machine's events.
use Rattle.std.specs.Prelude.{◌≡◌, ℕ, List, length, map, take, All, Option, Result, OnOk, OnErr}
use Rattle.rl_bus.specs.declared.device.Failed.{Failed}
use Rattle.rl_access.specs.declared.event.Event.{Event}
use Rattle.rl_access.specs.declared.event.Op.{Op}
use Rattle.rl_access.specs.declared.event.Tally.{Tally}
use Rattle.rl_access.specs.Call.{Scene}
use Rattle.rl_access.specs.HandsOver.{Told, HandsOver}
use Rattle.rl_access.specs.Model.{ModelData, IsModel}
use Rattle.rl_access.specs.Operation.{HasNumbers}
use Rattle.rl_access.specs.Rules.{Grant}
use Rattle.rl_access.specs.Runs.{IsBurst}
use Rattle.rl_seq.specs.declared.sequence.Sequence.{Sequence}
use Rattle.rl_seq.specs.Plan.{IsSequence}
use Rattle.rl_seq.specs.Sequences.{plan_of}
use Rattle.rl_plain.specs.Machine.{Machine}
use Rattle.rl_plain.specs.Courses.{Course, first_along, along, burst}
use Rattle.rl_plain.specs.Calls.{without_items, IsMachineOf, IsPlainCourse}

-- What a recorder was told is a front of the machine's events, and where it didn't fail all of them.
-- Device and model are the machine's after the last of the front.
pub record HandsOverFront {R T E : Type 0} (takes breaks : R → ModelData → Event → R → Type 0) (old rec : R)
    (s new : Scene) (whole : Course) (first : (count : ℕ) → Course) (r : Result T E) : Type 0 where
  pub told : List Told
  pub handed : HandsOver takes breaks old told rec r
  pub events : map (λ t. without_items t.event) told ≡ take (length told) whole.events
  pub all : OnOk r (IsPlainCourse s new told whole)
  pub part : OnErr r (IsPlainCourse s new told (first (length told)))

-- ---- a burst, done or refused

abbrev pub BurstHandsOverFront : {R : Type 0} → (takes breaks : R → ModelData → Event → R → Type 0) → Type 0
BurstHandsOverFront {R} takes breaks =
    (old rec : R) (s new : Scene) (g : Grant) (op : Op) (ops : List Op) (r : Result Tally Failed) (p : Machine)
    → All (HasNumbers s.model.chip (length s.model.layout.maps)) ops → IsModel s.model → IsMachineOf s p
    → IsBurst takes breaks old rec s new g op ops r
    → let c = s.model.chip in
    let l = s.model.layout in
    HandsOverFront takes breaks old rec s new (burst c l p g op ops) (λ count. burst c l p g op (take count ops)) r

-- ---- each of the five sequences

abbrev pub SequenceHandsOverFront : {R : Type 0} → (takes breaks : R → ModelData → Event → R → Type 0) → Type 0
SequenceHandsOverFront {R} takes breaks =
    (old rec : R) (s new : Scene) (which : Sequence) (block : Option ℕ) (r : Result Tally Failed) (p : Machine)
    → IsModel s.model → IsMachineOf s p
    → let c = s.model.chip in
    let l = s.model.layout in
    let plan = plan_of which c l block in
    IsSequence takes breaks old rec s new plan r
    → HandsOverFront takes breaks old rec s new (along c l p plan) (λ count. first_along c l p count plan) r
