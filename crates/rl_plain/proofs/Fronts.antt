-- What is handed over of a burst or a sequence is a front of the plain machine's events.
use Rattle.std.proofs.Common.{◌≡◌, ℕ, zero, suc, List, [], ◌∷◌, length, map, take, Result, Ok, Err, OnOk, OnErr, refl, sym, ap, ◌∙◌}
use Rattle.std.proofs.Math.Seq.{take-length}
use Rattle.std.proofs.lemmas.List.{length-map}
use Rattle.rl_bus.specs.declared.device.Failed.{Failed}
use Rattle.rl_model.specs.Rows.{ChipData}
use Rattle.rl_map.specs.Layout.{LayoutData}
use Rattle.rl_access.specs.declared.event.Event.{Event}
use Rattle.rl_access.specs.declared.event.Op.{Op}
use Rattle.rl_access.specs.declared.event.Tally.{Tally}
use Rattle.rl_access.specs.Call.{Scene}
use Rattle.rl_access.specs.HandsOver.{HandsOver, Told}
use Rattle.rl_access.specs.Model.{ModelData, IsModel}
use Rattle.rl_seq.specs.Plan.{Plan, stop, step, look, IsSequence}
use Rattle.rl_seq.specs.Sequences.{plan_of}
use Rattle.rl_plain.specs.Machine.{Machine, seen, machine_step}
use Rattle.rl_plain.specs.Courses.{Course, through, along, first_along, burst}
use Rattle.rl_plain.specs.Calls.{without_items, IsMachineOf, IsPlainCourse, PlanHasNumbers}
use Rattle.rl_plain.specs.Fronts.{HandsOverFront, BurstHandsOverFront, SequenceHandsOverFront}
use Rattle.rl_plain.proofs.PlainCourses.{burst_is_plain, plan_is_plain}
use Rattle.rl_plain.proofs.BrokenCourses.{broken_run_is_plain, broken_plan_is_plain}
use Rattle.rl_plain.proofs.PlanNumbers.{plans_have_numbers}

-- ---- the first operations have the first events

first_through : (c : ChipData) (l : LayoutData) (p : Machine) (count : ℕ) (ops : List Op) → (through c l p (take count ops)).events ≡ take count (through c l p ops).events
unfolding through
first_through c l p zero [] = refl
first_through c l p zero (op ∷ ops) = refl
first_through c l p (suc count) [] = refl
first_through c l p (suc count) (op ∷ ops) =
    let done = machine_step c l p op in
    ap (λ events. done.event ∷ events) (first_through c l done.machine count ops)

first_steps : (c : ChipData) (l : LayoutData) (p : Machine) (count : ℕ) (plan : Plan) → (first_along c l p count plan).events ≡ take count (along c l p plan).events
unfolding along first_along
first_steps c l p zero stop = refl
first_steps c l p (suc count) stop = refl
first_steps c l p zero (step op plan) = refl
first_steps c l p (suc count) (step op plan) =
    let done = machine_step c l p op in
    ap (λ events. done.event ∷ events) (first_steps c l done.machine count plan)
first_steps c l p count (look f) = first_steps c l p count (f (seen c l p))

-- ---- all of them are a front too

all_first : (s new : Scene) (told : List Told) (whole : Course) → IsPlainCourse s new told whole
    → map (λ (t : Told). without_items t.event) told ≡ take (length told) whole.events
all_first s new told whole course =
    let events = map (λ (t : Told). without_items t.event) told in
    let all : events ≡ take (length told) events = sym (ap (λ n. take n events) (sym (length-map told (λ (t : Told). without_items t.event))) ∙ take-length events) in
    all ∙ ap (take (length told)) course.events

on_ok : {T E : Type 0} (r : Result T E) {P : Type 0} → P → OnOk r P
on_ok (Ok x) h = h
on_ok (Err e) h = tt

on_err : {T E : Type 0} (r : Result T E) {P : Type 0} → P → OnErr r P
on_err (Ok x) h = tt
on_err (Err e) h = h

-- ---- what was handed over

module _ {R : Type 0} (takes breaks : R → ModelData → Event → R → Type 0) where
  -- all of them
  front_of_all : {first : (count : ℕ) → Course} (old rec : R) (s new : Scene) (told : List Told) (whole : Course) (tally : Tally) → let r : Result Tally Failed = Ok tally in
      HandsOver takes breaks old told rec r → IsPlainCourse s new told whole → HandsOverFront takes breaks old rec s new whole first r
  front_of_all old rec s new told whole tally handed course =
      record { told = told; handed = handed; events = all_first s new told whole course; all = course; part = tt }

  -- those before the recorder failed
  front_of_some : (old rec : R) (s new : Scene) (told : List Told) (whole : Course) (first : (count : ℕ) → Course) (failed : Failed) → let r : Result Tally Failed = Err failed in
      HandsOver takes breaks old told rec r → IsPlainCourse s new told (first (length told)) → (first (length told)).events ≡ take (length told) whole.events →
      HandsOverFront takes breaks old rec s new whole first r
  front_of_some old rec s new told whole first failed handed course same =
      record { told = told; handed = handed; events = course.events ∙ same; all = tt; part = course }

  -- ---- a burst

  pub burst_hands_over_front : BurstHandsOverFront takes breaks
  burst_hands_over_front old rec s new (Ok place) op ops (Ok tally) p numbers ok is run =
      front_of_all old rec s new run.told (burst s.model.chip s.model.layout p (Ok place) op ops) tally run.handed
      (burst_is_plain s new (Ok place) op ops run.told p numbers ok is run.run.0)
  burst_hands_over_front old rec s new (Ok place) op ops (Err failed) p numbers ok is run =
      let c = s.model.chip in
      let l = s.model.layout in
      front_of_some old rec s new run.told (burst c l p (Ok place) op ops) (λ count. burst c l p (Ok place) op (take count ops)) failed run.handed
      (broken_run_is_plain s new ops run.told p numbers ok is run.run) (first_through c l p (length run.told) ops)
  burst_hands_over_front old rec s new (Err why) op ops r p numbers ok is run =
      let told : List Told = record { model = s.model; event = run.event } ∷ [] in
      let whole = burst s.model.chip s.model.layout p (Err why) op ops in
      let course : IsPlainCourse s new told whole = burst_is_plain s new (Err why) op ops told p numbers ok is (run.event, run.refused, refl) in
      record { told = told; handed = run.handed; events = all_first s new told whole course; all = on_ok r course; part = on_err r course }

  -- ---- a plan

  plan_hands_over_front : (old rec : R) (s new : Scene) (plan : Plan) (r : Result Tally Failed) (p : Machine) → PlanHasNumbers s.model.chip s.model.layout plan → IsModel s.model → IsMachineOf s p
      → IsSequence takes breaks old rec s new plan r
      → HandsOverFront takes breaks old rec s new (along s.model.chip s.model.layout p plan) (λ count. first_along s.model.chip s.model.layout p count plan) r
  plan_hands_over_front old rec s new plan (Ok tally) p numbers ok is run =
      front_of_all old rec s new run.told (along s.model.chip s.model.layout p plan) tally run.handed (plan_is_plain s new plan run.told p numbers ok is run.run)
  plan_hands_over_front old rec s new plan (Err failed) p numbers ok is run =
      let c = s.model.chip in
      let l = s.model.layout in
      front_of_some old rec s new run.told (along c l p plan) (λ count. first_along c l p count plan) failed run.handed
      (broken_plan_is_plain s new plan run.told p numbers ok is run.run) (first_steps c l p (length run.told) plan)

  -- ---- a sequence

  pub sequence_hands_over_front : SequenceHandsOverFront takes breaks
  sequence_hands_over_front old rec s new which block r p ok is run =
      let c = s.model.chip in
      let l = s.model.layout in
      plan_hands_over_front old rec s new (plan_of which c l block) r p (plans_have_numbers which c l block ok.chip ok.layout) ok is run
