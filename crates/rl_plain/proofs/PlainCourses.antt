-- Operations one after another are the plain machine's.
use Rattle.std.proofs.Common.{◌≡◌, ℕ, zero, suc, ◌+◌, ◌<◌, Option, Bool, true, false, cond, List, [], ◌∷◌, length, map, All, Ok, Err, refl, sym, ap, ◌∙◌, subst}
use Rattle.std.specs.Bool.{MatchBool}
use Rattle.std.proofs.lemmas.List.Elements.{All-nil, All-cons, All-head, All-tail}
use Rattle.rl_model.specs.Rows.{ChipData}
use Rattle.rl_map.specs.Layout.{LayoutData}
use Rattle.rl_mirror.specs.Prediction.{needs_update, update_word_of}
use Rattle.rl_access.specs.declared.event.End.TheVariants as end
use Rattle.rl_access.specs.declared.event.Event.{Event}
use Rattle.rl_access.specs.declared.event.Op.{Op}
use Rattle.rl_access.specs.declared.event.Op.TheVariants as op
use Rattle.rl_access.specs.Call.{Scene}
use Rattle.rl_access.specs.HandsOver.{Told}
use Rattle.rl_access.specs.Model.{ModelData, IsModel, IsSameChip}
use Rattle.rl_access.specs.Operation.{IsMapIn, HasNumbers}
use Rattle.rl_access.specs.Rules.{Grant, grant, named}
use Rattle.rl_access.specs.Runs.{writes_of, reads_of}
use Rattle.rl_access.specs.Tally.{is_bus_error}
use Rattle.rl_seq.specs.Plan.{Plan, stop, step, look}
use Rattle.rl_plain.specs.Machine.{Machine, mirror_of, seen, machine_end, told, done_by, machine_step}
use Rattle.rl_plain.specs.Courses.{Course, then_on, through, along, burst}
use Rattle.rl_plain.specs.Calls.{without_items, IsMachineOf, IsPlainCourse, RunIsPlain, BurstIsPlain, BurstsHaveNumbers, PlanHasNumbers, PlanIsPlain, RefusedIsPlain}
use Rattle.rl_plain.proofs.Machines.{IsPlainAfter, plain_after}
use Rattle.rl_plain.proofs.Told.{refused_told}

-- ---- no operation of the machine ends by a bus error

sent_or_nothing : (b : Bool) (word : ℕ) → is_bus_error (cond b (end.Sent word) end.Nothing) ≡ false
sent_or_nothing true word = refl
sent_or_nothing false word = refl

no_error : (c : ChipData) (l : LayoutData) (op : Op) (place : ℕ) (p : Machine) → is_bus_error (machine_end c l op place p) ≡ false
no_error c l (op.Update n map) place p = sent_or_nothing (needs_update (mirror_of p) n) (update_word_of c n (mirror_of p))
no_error c l _ place p = refl

never_error : (c : ChipData) (l : LayoutData) (p : Machine) (op : Op) (g : Grant) → is_bus_error (done_by c l op p g).event.end ≡ false
never_error c l p op (Ok place) = no_error c l op place p
never_error c l p op (Err why) = refl

step_error : (c : ChipData) (l : LayoutData) (p : Machine) (op : Op) → is_bus_error (machine_step c l p op).event.end ≡ false
unfolding machine_step
step_error c l p op = never_error c l p op (grant (seen c l p) op)

-- ---- one more operation

same_on : (m n o : ModelData) → IsSameChip m n → IsSameChip n o → IsSameChip m o
same_on m n o a b = record { chip = b.chip ∙ a.chip; layout = b.layout ∙ a.layout }

pub one_more : (s mid new : Scene) (t : Told) (told : List Told) (p : Machine) (op : Op) (rest : Machine → Course) →
    let done = machine_step s.model.chip s.model.layout p op in
    IsPlainAfter s.model mid t.event done → IsPlainCourse mid new told (rest done.machine) → IsPlainCourse s new (t ∷ told) (then_on done rest)
one_more s mid new t told p op rest first more =
    let done = machine_step s.model.chip s.model.layout p op in
    record {
      machine = more.machine;
      model = more.model;
      same = same_on s.model mid.model new.model first.same more.same;
      events = ap (λ e. e ∷ map (λ (t : Told). without_items t.event) told) first.event_is ∙ ap (λ es. done.event ∷ es) more.events;
    }

pub nothing_more : (s new : Scene) (p : Machine) → new ≡ s → IsModel s.model → IsMachineOf s p → IsPlainCourse s new [] (record { events = []; machine = p })
nothing_more s new p same ok is = record {
  machine = subst (λ x. IsMachineOf x p) (sym same) is;
  model = subst (λ (x : Scene). IsModel x.model) (sym same) ok;
  same = record { chip = ap (λ (x : Scene). x.model.chip) same; layout = ap (λ (x : Scene). x.model.layout) same };
  events = refl;
}

-- ---- a list of operations

going_on : (A B : Type 0) (b : Bool) → b ≡ false → MatchBool b A B → B
going_on A B true e m = absurd (cc)
going_on A B false e m = m

pub through_nil : (c : ChipData) (l : LayoutData) (p : Machine) → through c l p [] ≡ record { events = []; machine = p }
unfolding through
through_nil c l p = refl

pub through_cons : (c : ChipData) (l : LayoutData) (p : Machine) (op : Op) (ops : List Op) → through c l p (op ∷ ops) ≡ then_on (machine_step c l p op) (λ after. through c l after ops)
unfolding through
through_cons c l p op ops = refl

pub run_is_plain : RunIsPlain
run_is_plain s new [] [] p numbers ok is run = subst (IsPlainCourse s new []) (sym (through_nil s.model.chip s.model.layout p)) (nothing_more s new p run ok is)
run_is_plain s new [] (t ∷ told) p numbers ok is run = absurd run
run_is_plain s new (op ∷ ops) [] p numbers ok is run = absurd run
run_is_plain s new (op ∷ ops) (t ∷ told) p numbers ok is (mid, first, rest) =
    let c = s.model.chip in
    let l = s.model.layout in
    let maps = length l.maps in
    let after = plain_after s mid op t.event p (All-head (HasNumbers c maps) op ops numbers) ok is first.performs in
    let fine : is_bus_error t.event.end ≡ false = ap (λ (e : Event). is_bus_error e.end) after.event_is ∙ step_error c l p op in
    let next = (machine_step c l p op).machine in
    let others : All (HasNumbers mid.model.chip (length mid.model.layout.maps)) ops =
    subst (λ x. All (HasNumbers x (length mid.model.layout.maps)) ops) (sym after.same.chip) (subst (λ (x : LayoutData). All (HasNumbers c (length x.maps)) ops) (sym after.same.layout)
    (All-tail (HasNumbers c maps) op ops numbers)) in
    let more = run_is_plain mid new ops told next others after.ok after.machine (going_on _ _ (is_bus_error t.event.end) fine rest) in
    let here : IsPlainCourse mid new told (through c l next ops) =
    subst (λ x. IsPlainCourse mid new told (through x l next ops)) after.same.chip (subst (λ x. IsPlainCourse mid new told (through mid.model.chip x next ops)) after.same.layout more) in
    subst (IsPlainCourse s new (t ∷ told)) (sym (through_cons c l p op ops)) (one_more s mid new t told p op (λ after. through c l after ops) after here)

-- ---- a plan

along_stop : (c : ChipData) (l : LayoutData) (p : Machine) → along c l p stop ≡ record { events = []; machine = p }
unfolding along
along_stop c l p = refl

along_step : (c : ChipData) (l : LayoutData) (p : Machine) (op : Op) (plan : Plan) → along c l p (step op plan) ≡ then_on (machine_step c l p op) (λ after. along c l after plan)
unfolding along
along_step c l p op plan = refl

along_look : (c : ChipData) (l : LayoutData) (p : Machine) (f : ModelData → Plan) → along c l p (look f) ≡ along c l p (f (seen c l p))
unfolding along
along_look c l p f = refl

pub plan_is_plain : PlanIsPlain
plan_is_plain s new stop [] p numbers ok is run = subst (IsPlainCourse s new []) (sym (along_stop s.model.chip s.model.layout p)) (nothing_more s new p run ok is)
plan_is_plain s new stop (t ∷ told) p numbers ok is run = absurd run
plan_is_plain s new (step op plan) [] p numbers ok is run = absurd run
plan_is_plain s new (step op plan) (t ∷ told) p numbers ok is (mid, first, rest) =
    let c = s.model.chip in
    let l = s.model.layout in
    let after = plain_after s mid op t.event p numbers.0 ok is first.performs in
    let next = (machine_step c l p op).machine in
    let others : PlanHasNumbers mid.model.chip mid.model.layout plan =
    subst (λ x. PlanHasNumbers x mid.model.layout plan) (sym after.same.chip) (subst (λ x. PlanHasNumbers c x plan) (sym after.same.layout) numbers.1) in
    let more = plan_is_plain mid new plan told next others after.ok after.machine rest in
    let here : IsPlainCourse mid new told (along c l next plan) =
    subst (λ x. IsPlainCourse mid new told (along x l next plan)) after.same.chip (subst (λ x. IsPlainCourse mid new told (along mid.model.chip x next plan)) after.same.layout more) in
    subst (IsPlainCourse s new (t ∷ told)) (sym (along_step c l p op plan)) (one_more s mid new t told p op (λ after. along c l after plan) after here)
plan_is_plain s new (look f) told p numbers ok is run =
    let c = s.model.chip in
    let l = s.model.layout in
    let here : IsPlainCourse s new told (along c l p (f s.model)) = plan_is_plain s new (f s.model) told p (numbers s.model refl refl) ok is run in
    subst (IsPlainCourse s new told) (sym (along_look c l p f)) (subst (λ m. IsPlainCourse s new told (along c l p (f m))) is.model here)

-- ---- a refusal

pub refused_is_plain : RefusedIsPlain
refused_is_plain s new op why event p is refused =
    let c = s.model.chip in (
      subst (λ x. IsMachineOf x p) (sym refused.unchanged) is,
      refused_told s new op why event p refused (ap (λ (m : ModelData). m.mirror) is.model) ∙ ap (λ (m : ModelData). told c (named m op) (end.Refused why) 0 p) is.model,
    )

-- ---- bursts

pub burst_is_plain : BurstIsPlain
burst_is_plain s new (Ok place) op ops told p numbers ok is run = run_is_plain s new ops told p numbers ok is run
burst_is_plain s new (Err why) op ops told p numbers ok is (event, refused, handed) =
    let c = s.model.chip in
    let l = s.model.layout in
    let after = refused_is_plain s new op why event p is refused in
    subst (λ told. IsPlainCourse s new told (burst c l p (Err why) op ops)) (sym handed) (record {
      machine = after.0;
      model = subst (λ (x : Scene). IsModel x.model) (sym refused.unchanged) ok;
      same = record { chip = ap (λ (x : Scene). x.model.chip) refused.unchanged; layout = ap (λ (x : Scene). x.model.layout) refused.unchanged };
      events = ap (λ e. e ∷ []) after.1;
    })

writes_have : (c : ChipData) (maps mem : ℕ) (over : Option ℕ) (first : ℕ) → mem < length c.mems → IsMapIn maps over → (values : List ℕ) → All (HasNumbers c maps) (writes_of mem over first values)
writes_have c maps mem over first inside known [] = All-nil (HasNumbers c maps)
writes_have c maps mem over first inside known (v ∷ values) =
    All-cons (HasNumbers c maps) (op.MemWrite mem over first v) (writes_of mem over (first + 1) values) (inside, known) (writes_have c maps mem over (first + 1) inside known values)

reads_have : (c : ChipData) (maps mem : ℕ) (over : Option ℕ) (first : ℕ) → mem < length c.mems → IsMapIn maps over → (count : ℕ) → All (HasNumbers c maps) (reads_of mem over first count)
reads_have c maps mem over first inside known zero = All-nil (HasNumbers c maps)
reads_have c maps mem over first inside known (suc count) =
    All-cons (HasNumbers c maps) (op.MemRead mem over first) (reads_of mem over (first + 1) count) (inside, known) (reads_have c maps mem over (first + 1) inside known count)

pub bursts_have_numbers : BurstsHaveNumbers
bursts_have_numbers c maps mem over first inside known = record { writes = writes_have c maps mem over first inside known; reads = reads_have c maps mem over first inside known }
