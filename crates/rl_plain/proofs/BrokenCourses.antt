-- Operations one after another up to one at which the recorder failed are the plain machine's.
use Rattle.std.proofs.Common.{◌≡◌, ℕ, suc, List, [], ◌∷◌, length, take, All, refl, sym, subst}
use Rattle.std.proofs.lemmas.List.Elements.{All-head, All-tail}
use Rattle.rl_model.specs.Rows.{ChipData}
use Rattle.rl_map.specs.Layout.{LayoutData}
use Rattle.rl_access.specs.declared.event.Op.{Op}
use Rattle.rl_access.specs.Model.{ModelData}
use Rattle.rl_access.specs.Operation.{HasNumbers}
use Rattle.rl_seq.specs.Plan.{Plan, stop, step, look}
use Rattle.rl_plain.specs.Machine.{Machine, seen, machine_step}
use Rattle.rl_plain.specs.Courses.{then_on, through, first_along}
use Rattle.rl_plain.specs.Calls.{IsPlainCourse, BrokenRunIsPlain, BrokenPlanIsPlain, PlanHasNumbers}
use Rattle.rl_plain.proofs.Machines.{plain_after}
use Rattle.rl_plain.proofs.PlainCourses.{nothing_more, one_more, through_nil, through_cons}

-- ---- a list of operations

pub broken_run_is_plain : BrokenRunIsPlain
broken_run_is_plain s new [] [] p numbers ok is run = absurd run
broken_run_is_plain s new [] (t ∷ told) p numbers ok is run = absurd run
broken_run_is_plain s new (op ∷ ops) [] p numbers ok is run = absurd run
broken_run_is_plain s new (op ∷ ops) (t ∷ []) p numbers ok is run =
    let c = s.model.chip in
    let l = s.model.layout in
    let after = plain_after s new op t.event p (All-head (HasNumbers c (length l.maps)) op ops numbers) ok is run.performs in
    let next = (machine_step c l p op).machine in
    let here : IsPlainCourse new new [] (through c l next []) = subst (IsPlainCourse new new []) (sym (through_nil c l next)) (nothing_more new new next refl after.ok after.machine) in
    subst (IsPlainCourse s new (t ∷ [])) (sym (through_cons c l p op [])) (one_more s new new t [] p op (λ after. through c l after []) after here)
broken_run_is_plain s new (op ∷ ops) (t ∷ u ∷ told) p numbers ok is (mid, first, fine, rest) =
    let c = s.model.chip in
    let l = s.model.layout in
    let maps = length l.maps in
    let some : List Op = take (length (u ∷ told)) ops in
    let after = plain_after s mid op t.event p (All-head (HasNumbers c maps) op ops numbers) ok is first.performs in
    let next = (machine_step c l p op).machine in
    let others : All (HasNumbers mid.model.chip (length mid.model.layout.maps)) ops =
    subst (λ x. All (HasNumbers x (length mid.model.layout.maps)) ops) (sym after.same.chip) (subst (λ (x : LayoutData). All (HasNumbers c (length x.maps)) ops) (sym after.same.layout)
    (All-tail (HasNumbers c maps) op ops numbers)) in
    let more : IsPlainCourse mid new (u ∷ told) (through mid.model.chip mid.model.layout next some) = broken_run_is_plain mid new ops (u ∷ told) next others after.ok after.machine rest in
    let here : IsPlainCourse mid new (u ∷ told) (through c l next some) =
    subst (λ x. IsPlainCourse mid new (u ∷ told) (through x l next some)) after.same.chip (subst (λ x. IsPlainCourse mid new (u ∷ told) (through mid.model.chip x next some)) after.same.layout more) in
    subst (IsPlainCourse s new (t ∷ u ∷ told)) (sym (through_cons c l p op some)) (one_more s mid new t (u ∷ told) p op (λ after. through c l after some) after here)

-- ---- a plan

none_along : (c : ChipData) (l : LayoutData) (p : Machine) (plan : Plan) → first_along c l p 0 plan ≡ record { events = []; machine = p }
unfolding first_along
none_along c l p stop = refl
none_along c l p (step op plan) = refl
none_along c l p (look f) = none_along c l p (f (seen c l p))

first_step : (c : ChipData) (l : LayoutData) (p : Machine) (count : ℕ) (op : Op) (plan : Plan) → first_along c l p (suc count) (step op plan) ≡ then_on (machine_step c l p op) (λ after. first_along c
    l after count plan)
unfolding first_along
first_step c l p count op plan = refl

first_look : (c : ChipData) (l : LayoutData) (p : Machine) (count : ℕ) (f : ModelData → Plan) → first_along c l p count (look f) ≡ first_along c l p count (f (seen c l p))
unfolding first_along
first_look c l p count f = refl

pub broken_plan_is_plain : BrokenPlanIsPlain
broken_plan_is_plain s new stop told p numbers ok is run = absurd run
broken_plan_is_plain s new (step op plan) [] p numbers ok is run = absurd run
broken_plan_is_plain s new (step op plan) (t ∷ []) p numbers ok is run =
    let c = s.model.chip in
    let l = s.model.layout in
    let after = plain_after s new op t.event p numbers.0 ok is run.performs in
    let next = (machine_step c l p op).machine in
    let here : IsPlainCourse new new [] (first_along c l next 0 plan) = subst (IsPlainCourse new new []) (sym (none_along c l next plan)) (nothing_more new new next refl after.ok after.machine) in
    subst (IsPlainCourse s new (t ∷ [])) (sym (first_step c l p 0 op plan)) (one_more s new new t [] p op (λ after. first_along c l after 0 plan) after here)
broken_plan_is_plain s new (step op plan) (t ∷ u ∷ told) p numbers ok is (mid, first, rest) =
    let c = s.model.chip in
    let l = s.model.layout in
    let count = length (u ∷ told) in
    let after = plain_after s mid op t.event p numbers.0 ok is first.performs in
    let next = (machine_step c l p op).machine in
    let others : PlanHasNumbers mid.model.chip mid.model.layout plan =
    subst (λ x. PlanHasNumbers x mid.model.layout plan) (sym after.same.chip) (subst (λ x. PlanHasNumbers c x plan) (sym after.same.layout) numbers.1) in
    let more : IsPlainCourse mid new (u ∷ told) (first_along mid.model.chip mid.model.layout next count plan) = broken_plan_is_plain mid new plan (u ∷ told) next others after.ok after.machine rest in
    let here : IsPlainCourse mid new (u ∷ told) (first_along c l next count plan) =
    subst (λ x. IsPlainCourse mid new (u ∷ told) (first_along x l next count plan)) after.same.chip (subst (λ x. IsPlainCourse mid new (u ∷ told) (first_along mid.model.chip x next count plan))
    after.same.layout more) in
    subst (IsPlainCourse s new (t ∷ u ∷ told)) (sym (first_step c l p count op plan)) (one_more s mid new t (u ∷ told) p op (λ after. first_along c l after count plan) after here)
broken_plan_is_plain s new (look f) told p numbers ok is run =
    let c = s.model.chip in
    let l = s.model.layout in
    let count = length told in
    let here : IsPlainCourse s new told (first_along c l p count (f s.model)) = broken_plan_is_plain s new (f s.model) told p (numbers s.model refl refl) ok is run in
    subst (IsPlainCourse s new told) (sym (first_look c l p count f)) (subst (λ m. IsPlainCourse s new told (first_along c l p count (f m))) is.model here)
