-- The plain machine's checks name no field, and so those of a sequence that is the machine's.
use Rattle.std.proofs.Common.{◌≡◌, ℕ, zero, suc, false, List, [], ◌∷◌, length, map, All, Ok, Err, refl, sym, subst, inl, inr}
use Rattle.std.specs.Prelude.{slice_index}
use Rattle.std.proofs.lemmas.List.Elements.{All-nil, All-cons, All-head, All-tail}
use Rattle.rl_bus.specs.Setup.{location}
use Rattle.rl_bus.specs.State.{State}
use Rattle.rl_model.specs.Rows.{ChipData}
use Rattle.rl_map.specs.Layout.{LayoutData}
use Rattle.rl_access.specs.declared.event.Event.{Event}
use Rattle.rl_access.specs.declared.event.Op.{Op}
use Rattle.rl_access.specs.declared.event.Op.TheVariants as op
use Rattle.rl_access.specs.Call.{Scene}
use Rattle.rl_access.specs.HandsOver.{Told}
use Rattle.rl_access.specs.Model.{ModelData, IsModel}
use Rattle.rl_access.specs.Operation.{is_on_memory}
use Rattle.rl_access.specs.Rules.{Grant, grant, named}
use Rattle.rl_seq.specs.Plan.{Plan, stop, step, look}
use Rattle.rl_seq.specs.Sequences.{plan_of}
use Rattle.rl_plain.specs.Calls.{without_items, IsMachineOf}
use Rattle.rl_plain.specs.Courses.{along, first_along}
use Rattle.rl_plain.specs.EachCall.{AgreeWithMemories}
use Rattle.rl_plain.specs.Machine.{Machine, seen, machine_differ, done_by, machine_step}
use Rattle.rl_plain.proofs.BrokenCourses.{broken_plan_is_plain}
use Rattle.rl_plain.proofs.Machines.{none_of, seen_is}
use Rattle.rl_plain.proofs.PlainCourses.{plan_is_plain}
use Rattle.rl_plain.proofs.PlanNumbers.{plans_have_numbers}
use Rattle.rl_detect_laws.specs.Named.{NamesNoField, NothingIsNamed}

-- ---- the machine

differ_of : (m : ModelData) (op : Op) (p : Machine) → is_on_memory (named m op) ≡ false → machine_differ op p ≡ 0
differ_of m (op.MemCheck mem map index value) p off = absurd (cc)
differ_of m _ p off = refl

by_grant : (c : ChipData) (l : LayoutData) (op : Op) (p : Machine) (g : Grant) → NamesNoField (done_by c l op p g).event
by_grant c l op p (Ok place) = λ off. differ_of (seen c l p) op p off
by_grant c l op p (Err why) = λ off. refl

step_names : (c : ChipData) (l : LayoutData) (p : Machine) (op : Op) → NamesNoField (machine_step c l p op).event
unfolding machine_step
step_names c l p op = by_grant c l op p (grant (seen c l p) op)

along_names : (c : ChipData) (l : LayoutData) (p : Machine) (plan : Plan) → All NamesNoField (along c l p plan).events
unfolding along
along_names c l p stop = All-nil NamesNoField
along_names c l p (step op plan) =
    let done = machine_step c l p op in
    All-cons NamesNoField done.event (along c l done.machine plan).events (step_names c l p op) (along_names c l done.machine plan)
along_names c l p (look f) = along_names c l p (f (seen c l p))

first_names : (c : ChipData) (l : LayoutData) (p : Machine) (count : ℕ) (plan : Plan) → All NamesNoField (first_along c l p count plan).events
unfolding first_along
first_names c l p count stop = All-nil NamesNoField
first_names c l p zero (step op plan) = All-nil NamesNoField
first_names c l p (suc count) (step op plan) =
    let done = machine_step c l p op in
    All-cons NamesNoField done.event (first_along c l done.machine count plan).events (step_names c l p op) (first_names c l done.machine count plan)
first_names c l p count (look f) = first_names c l p count (f (seen c l p))

-- ---- what was told

abbrev pub plain_events : List Told → List Event
plain_events told = map (λ t. without_items t.event) told

pub each_told : (IsSo : Event → Type 0) → ((e : Event) → IsSo (without_items e) → IsSo e) → (told : List Told) → All IsSo (plain_events told)
    → All (λ (t : Told). IsSo t.event) told
each_told IsSo with_items [] h = All-nil (λ (t : Told). IsSo t.event)
each_told IsSo with_items (t ∷ told) h =
    All-cons (λ (t : Told). IsSo t.event) t told (with_items t.event (All-head IsSo (without_items t.event) (plain_events told) h))
    (each_told IsSo with_items told (All-tail IsSo (without_items t.event) (plain_events told) h))

-- ---- the machine of a device and a model that agree

abbrev pub machine_of : ModelData → State → Machine
machine_of m d = record {
  bits = m.mirror.mirrored;
  desired = m.mirror.desired;
  spent = m.mirror.spent;
  locations = λ mem index. slice_index d.locations (location d.setup mem index);
}

pub is_machine : (s : Scene) → IsModel s.model → (w : AgreeWithMemories s) → IsMachineOf s (machine_of s.model w.agree.device)
is_machine s ok w =
    let m = s.model in
    record {
      agree = w.agree;
      model = seen_is m.chip m.layout (machine_of m w.agree.device) m refl refl refl
          (none_of m.gathered (length m.layout.places) ok.predictor.count w.agree.gathered);
      locations = λ mem index inside low. record { has = w.locations mem index inside low; holds = refl };
    }

-- ---- the sequences

pub nothing_is_named : NothingIsNamed
nothing_is_named s new which block told ok w (inl all) =
    let p = machine_of s.model w.agree.device in
    let plan = plan_of which s.model.chip s.model.layout block in
    let course = plan_is_plain s new plan told p (plans_have_numbers which s.model.chip s.model.layout block ok.chip ok.layout) ok (is_machine s ok w) all in
    each_told NamesNoField (λ e h. h) told (subst (All NamesNoField) (sym course.events) (along_names s.model.chip s.model.layout p plan))
nothing_is_named s new which block told ok w (inr some) =
    let p = machine_of s.model w.agree.device in
    let plan = plan_of which s.model.chip s.model.layout block in
    let course = broken_plan_is_plain s new plan told p (plans_have_numbers which s.model.chip s.model.layout block ok.chip ok.layout) ok (is_machine s ok w) some in
    each_told NamesNoField (λ e h. h) told (subst (All NamesNoField) (sym course.events) (first_names s.model.chip s.model.layout p (length told) plan))
