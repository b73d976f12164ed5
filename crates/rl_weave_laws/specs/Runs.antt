-- The steps of a weave one after another, whatever the order of its accesses.
use Rattle.std.specs.Prelude.{◌≡◌, ℕ, ◌<◌, length, IfSome, if◌then◌else◌, List, [], ◌∷◌, map, Option, None, Some}
use Rattle.std.specs.List.Sorted.{IsPermutation}
use Rattle.rl_model.specs.Fields.{fields_of}
use Rattle.rl_model.specs.Rows.{ChipData}
use Rattle.rl_access.specs.declared.event.Event.{Event}
use Rattle.rl_access.specs.declared.event.Op.{Op}
use Rattle.rl_access.specs.Call.{Scene}
use Rattle.rl_access.specs.Model.{IsModel}
use Rattle.rl_plain.specs.Agree.{Agree}
use Rattle.rl_plain.specs.Calls.{IsMachineOf, without_items}
use Rattle.rl_plain.specs.Courses.{through}
use Rattle.rl_plain.specs.Machine.{Machine, register_at, seen}
use Rattle.rl_plain.specs.OneStep.{register_after}
use Rattle.rl_weave.specs.declared.weave.Step.{Step}
use Rattle.rl_weave.specs.Access.{op_of, woven_at}
use Rattle.rl_weave.specs.Step.{IsStepOf}
use Rattle.rl_weave.specs.Weave.{WeaveData, IsWeave, IsWeaveOn, is_over, stepped}
use Rattle.rl_weave_laws.specs.Half.{IsOpen, NoneOpen, IsUnsent, IsAlike, step_of, answered}

-- a step, and the number of the access that it was of
pub record Turn : Type 0 where
  pub which : ℕ
  pub step : Step

-- each step is of an access that is then open
abbrev pub RunsTo : WeaveData → Scene → List Turn → WeaveData → Scene → Type 0
RunsTo w s [] left new = (left ≡ w) × (new ≡ s)
RunsTo w s (t ∷ turns) left new =
    (next : Scene) × IsModel s.model × IsOpen w t.which × IsStepOf s next (woven_at w.accesses t.which) t.step
    × RunsTo (stepped w t.which t.step.item) next turns left new

-- the operations of the accesses in the order in which they end
abbrev pub ended : WeaveData → List Turn → List Op
ended w [] = []
ended w (t ∷ turns) =
    let v = woven_at w.accesses t.which in
    let rest = ended (stepped w t.which t.step.item) turns in
    if is_over v t.step.item then op_of v.access ∷ rest else rest

abbrev pub op_at : WeaveData → ℕ → Op
op_at w i = op_of (woven_at w.accesses i).access

abbrev pub with_event : Option Event → List Event → List Event
with_event None events = events
with_event (Some event) events = event ∷ events

abbrev pub events_of : List Turn → List Event
events_of [] = []
events_of (t ∷ turns) = with_event t.step.end (events_of turns)

-- Once no access is open the device and the model agree again. They, and the events without their items, are those of a
-- plain machine that takes the accesses one after another, in the order in which they ended.
abbrev pub WeaveIsPlain : Type 0
WeaveIsPlain =
    (s new : Scene) (p : Machine) (w left : WeaveData) (turns : List Turn)
    → IsModel s.model → Agree s → s.model ≡ seen s.model.chip s.model.layout p
    → IsWeave w → IsWeaveOn s.model w → IsUnsent w
    → RunsTo w s turns left new → IsModel new.model → left.still_open ≡ []
    → let course = through s.model.chip s.model.layout p (ended w turns) in
    Agree new × (new.model ≡ seen s.model.chip s.model.layout course.machine)
    × (map without_items (events_of turns) ≡ course.events)

-- So it is with the locations of the memories: the device has each as the machine has it, and no access changed one.
abbrev pub WeaveKeepsMemories : Type 0
WeaveKeepsMemories =
    (s new : Scene) (p : Machine) (w left : WeaveData) (turns : List Turn)
    → IsModel s.model → IsMachineOf s p → IsWeave w → IsWeaveOn s.model w → IsUnsent w
    → RunsTo w s turns left new → IsModel new.model → left.still_open ≡ []
    → let course = through s.model.chip s.model.layout p (ended w turns) in
    IsMachineOf new course.machine × (course.machine.locations ≡ p.locations)

-- where none is open at the end, these are the operations of the accesses that were open, each once
abbrev pub EndedAreAll : Type 0
EndedAreAll =
    (w : WeaveData) (s : Scene) (turns : List Turn) (left : WeaveData) (new : Scene)
    → IsWeave w → RunsTo w s turns left new → left.still_open ≡ []
    → IsPermutation (map (op_at w) w.still_open) (ended w turns)

-- each access that is over answered what its register answers to its step, as it stood before the weave
abbrev pub TellSteps : ChipData → Machine → WeaveData → List Turn → Type 0
TellSteps c p w [] = Unit {0}
TellSteps c p w (t ∷ turns) =
    let a = (woven_at w.accesses t.which).access in
    IfSome t.step.end (λ e. e.end ≡ answered c a.reg a.value (register_at c p a.reg))
    × TellSteps c p (stepped w t.which t.step.item) turns

-- The machine's register of each access that is over took the step of the access,
-- and every other one stands as it stood.
pub record IsOnceEach (c : ChipData) (p q : Machine) (w left : WeaveData) (turns : List Turn) : Type 0 where
  pub taken : (i : ℕ) → IsOpen w i → ¬ IsOpen left i → let a = (woven_at w.accesses i).access in
      IsAlike c a.reg (register_after (fields_of c a.reg) (step_of a.value) (register_at c p a.reg))
      (register_at c q a.reg)
  pub others : (reg : ℕ) → reg < length c.regs → NoneOpen w (λ v. v.access.reg ≡ reg)
      → IsAlike c reg (register_at c p reg) (register_at c q reg)
  pub tells : TellSteps c p w turns

abbrev pub EachStepsOnce : Type 0
EachStepsOnce =
    (s new : Scene) (p : Machine) (w left : WeaveData) (turns : List Turn)
    → IsModel s.model → Agree s → s.model ≡ seen s.model.chip s.model.layout p
    → IsWeave w → IsWeaveOn s.model w → IsUnsent w
    → RunsTo w s turns left new
    → IsOnceEach s.model.chip p (through s.model.chip s.model.layout p (ended w turns)).machine w left turns
