-- A weave that runs to its end is a course of the plain machine.
use Rattle.std.proofs.Common.{◌≡◌, Bool, true, false, cond, List, [], ◌∷◌, map, None, Some, refl, sym, ap, ◌∙◌, subst}
use Rattle.std.specs.Prelude.{IfSome}
use Rattle.rl_bus.specs.State.{State}
use Rattle.rl_model.specs.Rows.{ChipData}
use Rattle.rl_map.specs.Layout.{LayoutData}
use Rattle.rl_access.specs.declared.event.Event.{Event}
use Rattle.rl_access.specs.declared.event.Op.{Op}
use Rattle.rl_access.specs.Call.{Scene}
use Rattle.rl_access.specs.Model.{ModelData}
use Rattle.rl_plain.specs.Calls.{without_items}
use Rattle.rl_plain.specs.Courses.{Course, then_on, through}
use Rattle.rl_plain.specs.Machine.{Machine, Done, seen, machine_step}
use Rattle.rl_weave.specs.Access.{op_of, woven_at}
use Rattle.rl_weave.specs.Step.{event_with}
use Rattle.rl_weave.specs.Weave.{WeaveData, IsWeave, is_over, stepped}
use Rattle.rl_weave.proofs.Weaves.{weave_stepped}
use Rattle.rl_weave_laws.specs.Half.{IsHalf, machine_after_word}
use Rattle.rl_weave_laws.specs.Runs.{Turn, RunsTo, ended, events_of, with_event, WeaveIsPlain}
use Rattle.rl_weave_laws.proofs.Halves.{fresh_is_half, step_keeps_half, none_open_agrees}

-- where some steps of a half done weave lead
record IsCourse (c : ChipData) (l : LayoutData) (begun : State) (new : Scene) (left : WeaveData) (turns : List Turn) (course : Course) : Type 0 where
  device : State
  told : new.device ≡ Some device
  half : IsHalf begun course.machine new.model device left
  chip : new.model.chip ≡ c
  layout : new.model.layout ≡ l
  events : map without_items (events_of turns) ≡ course.events

none_through : (c : ChipData) (l : LayoutData) (p : Machine) → (let x : Course = record { events = []; machine = p } in x) ≡ through c l p []
unfolding through
none_through c l p = refl

more_through : (c : ChipData) (l : LayoutData) (p : Machine) (op : Op) (ops : List Op) →
    then_on (machine_step c l p op) (λ after. through c l after ops) ≡ through c l p (op ∷ ops)
unfolding through
more_through c l p op ops = refl

-- the course by whether the first word was a last one
abbrev course_by : ChipData → LayoutData → Machine → Op → List Op → Bool → Course
course_by c l p op ops over = through c l p (cond over (op ∷ ops) ops)

first_step : (c : ChipData) (l : LayoutData) (begun : State) (p : Machine) (new : Scene) (left : WeaveData) (op : Op) (ops : List Op) (t : Turn) (turns : List Turn) (over : Bool) (event : Event) →
    t.step.end ≡ cond over (Some event) None → IfSome t.step.end (λ e. without_items e ≡ (machine_step c l p op).event) →
    IsCourse c l begun new left turns (through c l (cond over (machine_step c l p op).machine p) ops) → IsCourse c l begun new left (t ∷ turns) (course_by c l p op ops over)
first_step c l begun p new left op ops t turns true event is tells rest =
    let one : without_items event ≡ (machine_step c l p op).event = subst (λ o. IfSome o (λ e. without_items e ≡ (machine_step c l p op).event)) is tells in
    subst (IsCourse c l begun new left (t ∷ turns)) (more_through c l p op ops) (record {
      device = rest.device;
      told = rest.told;
      half = rest.half;
      chip = rest.chip;
      layout = rest.layout;
      events = ap (λ o. map without_items (with_event o (events_of turns))) is ∙ ap (λ e. e ∷ map without_items (events_of turns)) one ∙ ap (λ es. (machine_step c l p op).event ∷ es) rest.events;
    })
first_step c l begun p new left op ops t turns false event is tells rest = record {
  device = rest.device;
  told = rest.told;
  half = rest.half;
  chip = rest.chip;
  layout = rest.layout;
  events = ap (λ o. map without_items (with_event o (events_of turns))) is ∙ rest.events;
}

runs : (c : ChipData) (l : LayoutData) (begun : State) (turns : List Turn) (p : Machine) (s new : Scene) (d : State) (w left : WeaveData) →
    s.model.chip ≡ c → s.model.layout ≡ l → s.device ≡ Some d → IsWeave w → IsHalf begun p s.model d w → RunsTo w s turns left new →
    IsCourse c l begun new left turns (through c l p (ended w turns))
runs c l begun [] p s new d w left chip layout told ok half run =
    subst (IsCourse c l begun new left []) (none_through c l p) (record {
      device = d;
      told = ap (λ (x : Scene). x.device) run.1 ∙ told;
      half = subst (λ (x : Scene). IsHalf begun p x.model d left) (sym run.1) (subst (IsHalf begun p s.model d) (sym run.0) half);
      chip = ap (λ (x : Scene). x.model.chip) run.1 ∙ chip;
      layout = ap (λ (x : Scene). x.model.layout) run.1 ∙ layout;
      events = refl;
    })
runs c l begun (t ∷ turns) p s new d w left chip layout told ok half run =
    let next = run.0 in
    let here = run.2 in
    let is = run.3 in
    let v = woven_at w.accesses t.which in
    let after = step_keeps_half s next begun d p w t.which t.step run.1 told ok here half is in
    let step_is : machine_step s.model.chip s.model.layout p (op_of v.access) ≡ machine_step c l p (op_of v.access) = ap (λ x. machine_step x s.model.layout p (op_of v.access)) chip ∙ ap
    (λ x. machine_step c x p (op_of v.access)) layout in
    let machine : machine_after_word s.model p v t.step.item ≡ cond (is_over v t.step.item) (machine_step c l p (op_of v.access)).machine p = ap (λ (x : Done). cond (is_over v t.step.item) x.machine
    p) step_is in
    let q = cond (is_over v t.step.item) (machine_step c l p (op_of v.access)).machine p in
    let rest = runs c l begun turns q next new after.device (stepped w t.which t.step.item) left (ap (λ (m : ModelData). m.chip) is.sent.model ∙ chip) (ap (λ (m : ModelData). m.layout) is.sent.model
    ∙ layout) after.told
    (weave_stepped w t.which t.step.item ok here) (subst (λ x. IsHalf begun x next.model after.device (stepped w t.which t.step.item)) machine after.half) run.4 in
    first_step c l begun p new left (op_of v.access) (ended (stepped w t.which t.step.item) turns) t turns (is_over v t.step.item) (event_with next.model v t.step.item) is.end
    (subst (λ (x : Done). IfSome t.step.end (λ e. without_items e ≡ x.event)) step_is after.event) rest

pub weave_is_plain : WeaveIsPlain
weave_is_plain s new p w left turns model a is ok on unsent run built none =
    let c = s.model.chip in
    let l = s.model.layout in
    let half = fresh_is_half s p w model a is ok on unsent in
    let course = runs c l a.device turns p s new a.device w left refl refl a.told ok half run in
    let done = none_open_agrees new a.device course.device (through c l p (ended w turns)).machine left built course.told course.half none in (
      done.0,
      done.1 ∙ ap (λ x. seen x new.model.layout (through c l p (ended w turns)).machine) course.chip ∙ ap (λ x. seen c x (through c l p (ended w turns)).machine) course.layout,
      course.events,
    )
