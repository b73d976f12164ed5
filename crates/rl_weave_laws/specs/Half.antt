-- A weave that is half done, on a device without flaws, beside the plain machine.
use Rattle.std.specs.Prelude.{◌≡◌, ℕ, ◌<◌, Bool, true, false, if◌then◌else◌, List, [], ◌∷◌, length, map, take, Option, None, Some, Ok, is_some, unwrap_or, IfSome, Contains}
use Rattle.rl_bus.specs.State.{State}
use Rattle.rl_model.specs.Fields.{fields_of}
use Rattle.rl_model.specs.Rows.{ChipData}
use Rattle.rl_map.specs.Layout.{Occupies, place_at, words_of}
use Rattle.rl_split.specs.Law.{IsReady, Holds}
use Rattle.rl_split.specs.Runs.{answers_of}
use Rattle.rl_split.specs.Step.{Register, every, ranswer}
use Rattle.rl_split.specs.UnderWay.{IsDevice, IsUnderWay, whole_ops}
use Rattle.rl_access.specs.declared.event.End.{End}
use Rattle.rl_access.specs.declared.event.End.TheVariants.{Done as EndsDone, Value}
use Rattle.rl_access.specs.declared.predictor.Gathered.{Gathered}
use Rattle.rl_access.specs.declared.trace.TraceItem.{TraceItem}
use Rattle.rl_access.specs.Call.{Scene}
use Rattle.rl_access.specs.Gathering.{no_words, gathered_at}
use Rattle.rl_access.specs.Model.{ModelData, IsModel}
use Rattle.rl_access.specs.Observed.{word_told}
use Rattle.rl_plain.specs.Agree.{HasNoVolatile, IsMarkedAlone, Agree}
use Rattle.rl_plain.specs.Calls.{without_items}
use Rattle.rl_plain.specs.Machine.{Machine, mirror_of, register_at, seen, machine_step}
use Rattle.rl_plain.specs.OneStep.{Step as RegisterStep, write_step, read_step, register_after}
use Rattle.rl_weave.specs.declared.access.Access.{Access}
use Rattle.rl_weave.specs.declared.weave.Step.{Step}
use Rattle.rl_weave.specs.declared.woven.Woven.{Woven}
use Rattle.rl_access.specs.Rules.{grant}
use Rattle.rl_weave.specs.Access.{op_of, woven_at, IsNumbered}
use Rattle.rl_weave.specs.Step.{IsStepOf}
use Rattle.rl_weave.specs.Weave.{WeaveData, IsWeave, IsWeaveOn, is_over, stepped}

-- ---- an open access

abbrev pub writes : Access → Bool
writes a = is_some a.value

abbrev pub carried : Access → ℕ
carried a = unwrap_or a.value 0

-- its step of the whole register, and how it ends where the register stood so
abbrev pub step_of : Option ℕ → RegisterStep
step_of None = read_step every
step_of (Some value) = write_step every value

abbrev pub answered : ChipData → (reg : ℕ) → (value : Option ℕ) → Register → End
answered c reg None r = Value (ranswer (fields_of c reg) every r)
answered c reg (Some value) r = EndsDone

-- the same bits, and the same marks of its fields
pub record IsAlike (c : ChipData) (reg : ℕ) (r x : Register) : Type 0 where
  pub bits : r.bits ≡ x.bits
  pub marks : (k : ℕ) → k < length (fields_of c reg) → r.spent k ≡ x.spent k

abbrev pub told_by : TraceItem → ℕ
told_by item = word_told item.op item.answer

-- what the predictor has gathered once these items were seen
abbrev pub gathered_of : Bool → List TraceItem → Gathered
gathered_of write [] = no_words
gathered_of write (item ∷ items) = record { write = write; words = map told_by (item ∷ items) }

-- Since the device stood as `begun`, some words of the access were sent: its register is the machine's old one with
-- these words, and the items and the list of its place tell of them.
pub record IsHalfDone (begun : State) (p : Machine) (m : ModelData) (d : State) (v : Woven) : Type 0 where
  pub numbers : IsNumbered m v.access
  pub granted : grant m (op_of v.access) ≡ Ok v.place
  pub words : v.words ≡ length (words_of m.layout v.place 0)
  pub holds : Holds m.chip begun v.access.reg (register_at m.chip p v.access.reg)
  pub marked : IsMarkedAlone m.chip begun v.access.reg
  pub under_way : IsUnderWay m.layout begun d v.place v.access.reg (carried v.access) (writes v.access) (length v.items)
  pub ops : map (λ i. i.op) v.items
      ≡ take (length v.items) (whole_ops m.layout v.place (carried v.access) (writes v.access))
  pub answers : map (λ i. i.answer) v.items
      ≡ answers_of begun (place_at m.layout v.place).port (map (λ i. i.op) v.items)
  pub gathered : gathered_at m.gathered v.place ≡ gathered_of (writes v.access) v.items

-- ---- a weave

abbrev pub IsOpen : WeaveData → ℕ → Type 0
IsOpen w i = Contains w.still_open i

abbrev pub NoneOpen : WeaveData → (Woven → Type 0) → Type 0
NoneOpen w P = (i : ℕ) → IsOpen w i → P (woven_at w.accesses i) → ⊥

-- The mirror is the machine's. So is each register that no open access has, and the rest of the device and of the
-- predictor is as between accesses.
pub record IsHalf (begun : State) (p : Machine) (m : ModelData) (d : State) (w : WeaveData) : Type 0 where
  pub begun_ready : IsReady m.chip m.layout begun
  pub steady : HasNoVolatile m.chip
  pub device : IsDevice m.chip m.layout d
  pub mirror : m.mirror ≡ mirror_of p
  pub open_ones : (i : ℕ) → IsOpen w i → IsHalfDone begun p m d (woven_at w.accesses i)
  pub holds : (reg : ℕ) → reg < length m.chip.regs → NoneOpen w (λ v. v.access.reg ≡ reg)
      → Holds m.chip d reg (register_at m.chip p reg)
  pub marked : (reg : ℕ) → reg < length m.chip.regs → NoneOpen w (λ v. v.access.reg ≡ reg) → IsMarkedAlone m.chip d reg
  pub beats : (port address : ℕ) → NoneOpen w (λ v. Occupies m.layout port address v.place 0) → d.beats port address ≡ 0
  pub gathered : (place : ℕ) → NoneOpen w (λ v. v.place ≡ place) → gathered_at m.gathered place ≡ no_words

-- ---- the laws

-- each access that is open has sent nothing
abbrev pub IsUnsent : WeaveData → Type 0
IsUnsent w = (i : ℕ) → IsOpen w i → (woven_at w.accesses i).items ≡ []

-- so it is in a fresh weave
abbrev pub FreshIsUnsent : Type 0
FreshIsUnsent = (w : WeaveData) → IsWeave w → w.fresh ≡ true → IsUnsent w

abbrev pub FreshIsHalf : Type 0
FreshIsHalf =
    (s : Scene) (p : Machine) (w : WeaveData)
    → IsModel s.model → (a : Agree s) → s.model ≡ seen s.model.chip s.model.layout p
    → IsWeave w → IsWeaveOn s.model w → IsUnsent w
    → IsHalf a.device p s.model a.device w

-- the machine after a step: a last word steps it
abbrev pub machine_after_word : ModelData → Machine → Woven → TraceItem → Machine
machine_after_word m p v item = if is_over v item then (machine_step m.chip m.layout p (op_of v.access)).machine else p

-- the register of an access after one of its words, and every other one
abbrev pub register_after_word : ChipData → Machine → Woven → TraceItem → Register
register_after_word c p v item =
    let r = register_at c p v.access.reg in
    if is_over v item then register_after (fields_of c v.access.reg) (step_of v.access.value) r else r

pub record IsHalfAfter (begun : State) (p : Machine) (s new : Scene) (w : WeaveData)
    (which : ℕ) (step : Step) : Type 0 where
  pub device : State
  pub told : new.device ≡ Some device
  pub quiet : step.item.answer.failed ≡ false
  pub half : IsHalf begun (machine_after_word s.model p (woven_at w.accesses which) step.item)
      new.model device (stepped w which step.item)
  pub event : IfSome step.end (λ e. without_items e
      ≡ (machine_step s.model.chip s.model.layout p (op_of (woven_at w.accesses which).access)).event)
  pub own : IsAlike s.model.chip (woven_at w.accesses which).access.reg
      (register_after_word s.model.chip p (woven_at w.accesses which) step.item)
      (register_at s.model.chip (machine_after_word s.model p (woven_at w.accesses which) step.item)
      (woven_at w.accesses which).access.reg)
  pub others : (reg : ℕ) → reg < length s.model.chip.regs → (reg ≡ (woven_at w.accesses which).access.reg → ⊥)
      → IsAlike s.model.chip reg (register_at s.model.chip p reg)
      (register_at s.model.chip (machine_after_word s.model p (woven_at w.accesses which) step.item) reg)
  pub answers : IfSome step.end (λ e. e.end
      ≡ answered s.model.chip (woven_at w.accesses which).access.reg (woven_at w.accesses which).access.value
      (register_at s.model.chip p (woven_at w.accesses which).access.reg))

abbrev pub StepKeepsHalf : Type 0
StepKeepsHalf =
    (s new : Scene) (begun d : State) (p : Machine) (w : WeaveData) (which : ℕ) (step : Step)
    → IsModel s.model → s.device ≡ Some d → IsWeave w → IsOpen w which → IsHalf begun p s.model d w
    → IsStepOf s new (woven_at w.accesses which) step
    → IsHalfAfter begun p s new w which step

abbrev pub StepKeepsModel : Type 0
StepKeepsModel =
    (s new : Scene) (begun d : State) (p : Machine) (w : WeaveData) (which : ℕ) (step : Step)
    → IsModel s.model → s.device ≡ Some d → IsWeave w → IsOpen w which → IsHalf begun p s.model d w
    → IsStepOf s new (woven_at w.accesses which) step
    → IsModel new.model

abbrev pub NoneOpenAgrees : Type 0
NoneOpenAgrees =
    (s : Scene) (begun d : State) (p : Machine) (w : WeaveData)
    → IsModel s.model → s.device ≡ Some d → IsHalf begun p s.model d w → w.still_open ≡ []
    → Agree s × (s.model ≡ seen s.model.chip s.model.layout p)
