-- Steps of accesses to different registers, in any order.
use Rattle.std.proofs.Common.{◌≡◌, ◌⊎◌, ℕ, zero, suc, ◌+◌, ◌-◌, ◌<◌, List, [], ◌∷◌, length, get_or, map, All, false, Option, None, Some, Ok, refl, sym, ap, ◌∙◌, subst, inl, inr, arith}
use Rattle.std.specs.Prelude.{Contains, AllPairs}
use Rattle.std.specs.List.Sorted.{IsPermutation}
use Rattle.std.proofs.lemmas.Bool.{cases_eq}
use Rattle.std.proofs.lemmas.List.{get_or-set_same, get_or-set_other, get_or_default, same_lists}
use Rattle.std.proofs.lemmas.List.Sorted.{All-permutation, Contains-permutation}
use Rattle.rl_model.specs.Rows.{ChipData}
use Rattle.rl_model.specs.Chip.{IsSound}
use Rattle.rl_model.specs.Fields.{field_of, fields_of, first_of}
use Rattle.rl_split.specs.Step.{every, ranswer}
use Rattle.rl_mirror.specs.Mirror.{IsMirrorOf}
use Rattle.rl_mirror.specs.Prediction.{predict_write, predict_read}
use Rattle.rl_mirror.proofs.FieldLemmas.{seated, length-fields_of}
use Rattle.rl_access.specs.declared.event.End.{End}
use Rattle.rl_access.specs.declared.event.Event.{Event}
use Rattle.rl_access.specs.declared.event.Op.{Op}
use Rattle.rl_access.specs.declared.event.Op.TheVariants as op
use Rattle.rl_access.specs.Model.{ModelData}
use Rattle.rl_access.specs.Rules.{every_field, grant, named}
use Rattle.rl_plain.specs.Courses.{Course, then_on, through}
use Rattle.rl_plain.specs.Machine.{Machine, mirror_of, register_at, stepped, desired_after, done_by, machine_step}
use Rattle.rl_plain.specs.OneStep.{register_after}
use Rattle.rl_plain.proofs.Agreement.{here_same, other_same}
use Rattle.rl_plain.proofs.Followed.{FollowsStep, all_chosen}
use Rattle.rl_plain.proofs.Kept.{IsKept, step_kept}
use Rattle.rl_plain.proofs.PlainSteps.{plain_state}
use Rattle.rl_weave.specs.declared.access.Access.{Access}
use Rattle.rl_weave.specs.Access.{op_of, op_with}
use Rattle.rl_weave_laws.specs.Half.{IsAlike, step_of, answered}
use Rattle.rl_weave_laws.proofs.Lasts.{machine_is, seen_grant, alike, steps_alike, answers_alike}

-- ---- what a machine has of one register

pub record IsLike (c : ChipData) (reg : ℕ) (p q : Machine) : Type 0 where
  pub same : IsAlike c reg (register_at c p reg) (register_at c q reg)
  pub desired : get_or p.desired reg 0 ≡ get_or q.desired reg 0

like_as_is : (c : ChipData) (reg : ℕ) (p : Machine) → IsLike c reg p p
like_as_is c reg p = record { same = record { bits = refl; marks = λ k inside. refl }; desired = refl }

like_back : (c : ChipData) (reg : ℕ) (p q : Machine) → IsLike c reg p q → IsLike c reg q p
like_back c reg p q h = record { same = record { bits = sym h.same.bits; marks = λ k inside. sym (h.same.marks k inside) }; desired = sym h.desired }

like_on : (c : ChipData) (reg : ℕ) (p q r : Machine) → IsLike c reg p q → IsLike c reg q r → IsLike c reg p r
like_on c reg p q r h g = record {
  same = record { bits = h.same.bits ∙ g.same.bits; marks = λ k inside. h.same.marks k inside ∙ g.same.marks k inside };
  desired = h.desired ∙ g.desired;
}

-- ---- one step

abbrev pub step_by : ChipData → Machine → Access → Machine
step_by c p a = stepped c a.reg (step_of a.value) p

follow_of : (c : ChipData) (reg : ℕ) (value : Option ℕ) (p : Machine) → IsSound c → reg < length c.regs → IsMirrorOf c (mirror_of p) →
    FollowsStep c reg (mirror_of p) (mirror_of (stepped c reg (step_of value) p)) (register_at c p reg) (step_of value)
follow_of c reg None p sound inside built =
    let new = predict_read c reg (ranswer (fields_of c reg) every (register_at c p reg)) every_field (mirror_of p) in
    let f : FollowsStep c reg (mirror_of p) new (register_at c p reg) (step_of None) = record { fields = every_field; are = all_chosen c reg sound inside; is = refl } in
    subst (λ x. FollowsStep c reg (mirror_of p) x (register_at c p reg) (step_of None)) (plain_state c reg p new (step_of None) sound inside built f) f
follow_of c reg (Some value) p sound inside built =
    let new = predict_write c reg value every_field (mirror_of p) in
    let f : FollowsStep c reg (mirror_of p) new (register_at c p reg) (step_of (Some value)) = record { fields = every_field; are = all_chosen c reg sound inside; is = refl } in
    subst (λ x. FollowsStep c reg (mirror_of p) x (register_at c p reg) (step_of (Some value))) (plain_state c reg p new (step_of (Some value)) sound inside built f) f

pub kept_by : (c : ChipData) (a : Access) (p : Machine) → IsSound c → a.reg < length c.regs → IsKept c (mirror_of p) →
    IsKept c (mirror_of (step_by c p a))
kept_by c a p sound inside kept = step_kept c a.reg (mirror_of p) (mirror_of (step_by c p a)) (register_at c p a.reg) (step_of a.value) sound inside kept (follow_of c a.reg a.value p sound inside
    kept.built)

other_desired : (c : ChipData) (reg r : ℕ) (value : Option ℕ) (p : Machine) → (r ≡ reg → ⊥) →
    get_or (stepped c reg (step_of value) p).desired r 0 ≡ get_or p.desired r 0
other_desired c reg r None p apart = get_or-set_other p.desired reg r _ 0 apart
other_desired c reg r (Some value) p apart = get_or-set_other p.desired reg r _ 0 apart

here_desired : (c : ChipData) (reg : ℕ) (value : Option ℕ) (p : Machine) → reg < length p.desired →
    get_or (stepped c reg (step_of value) p).desired reg 0 ≡ desired_after (fields_of c reg) (step_of value) (register_after (fields_of c reg) (step_of value) (register_at c p reg)).bits
    (get_or p.desired reg 0)
here_desired c reg None p inside = get_or-set_same p.desired reg _ 0 inside
here_desired c reg (Some value) p inside = get_or-set_same p.desired reg _ 0 inside

-- it leaves the other registers
step_other : (c : ChipData) (a : Access) (r : ℕ) (p : Machine) → IsSound c → a.reg < length c.regs → r < length c.regs → (r ≡ a.reg → ⊥) →
    IsKept c (mirror_of p) → IsLike c r p (step_by c p a)
step_other c a r p sound inside low apart kept = record {
  same = alike c r (register_at c p r) (register_at c (step_by c p a) r)
      (other_same c a.reg r (mirror_of p) (mirror_of (step_by c p a)) (register_at c p a.reg) (step_of a.value) sound low apart kept.built (follow_of c a.reg a.value p sound inside kept.built));
  desired = sym (other_desired c a.reg r a.value p apart);
}

-- the register itself, as it stands after the step
here_is : (c : ChipData) (a : Access) (p : Machine) → IsSound c → a.reg < length c.regs → IsKept c (mirror_of p) →
    IsAlike c a.reg (register_after (fields_of c a.reg) (step_of a.value) (register_at c p a.reg)) (register_at c (step_by c p a) a.reg)
here_is c a p sound inside kept =
    alike c a.reg (register_after (fields_of c a.reg) (step_of a.value) (register_at c p a.reg)) (register_at c (step_by c p a) a.reg)
    (here_same c a.reg (mirror_of p) (mirror_of (step_by c p a)) (step_of a.value) sound inside kept.built (follow_of c a.reg a.value p sound inside kept.built))

-- registers that are alike take the step alike
step_here : (c : ChipData) (a : Access) (p q : Machine) → IsSound c → a.reg < length c.regs → IsKept c (mirror_of p) → IsKept c (mirror_of q) →
    IsLike c a.reg p q → IsLike c a.reg (step_by c p a) (step_by c q a)
step_here c a p q sound inside kept also h =
    let fs = fields_of c a.reg in
    let st = step_of a.value in
    let both = steps_alike c a.reg a.value (register_at c p a.reg) (register_at c q a.reg) h.same in
    let first = here_is c a p sound inside kept in
    let second = here_is c a q sound inside also in
    record {
      same = record {
        bits = sym first.bits ∙ both.bits ∙ second.bits;
        marks = λ k low. sym (first.marks k low) ∙ both.marks k low ∙ second.marks k low;
      };
      desired =
          here_desired c a.reg a.value p (subst (λ n. a.reg < n) (sym kept.built.wishes) inside)
          ∙ ap (λ x. desired_after fs st x (get_or p.desired a.reg 0)) both.bits
          ∙ ap (desired_after fs st (register_after fs st (register_at c q a.reg)).bits) h.desired
          ∙ sym (here_desired c a.reg a.value q (subst (λ n. a.reg < n) (sym also.built.wishes) inside));
    }

locations_stay : (c : ChipData) (reg : ℕ) (value : Option ℕ) (p : Machine) → (stepped c reg (step_of value) p).locations ≡ p.locations
locations_stay c reg None p = refl
locations_stay c reg (Some value) p = refl

-- ---- its event

abbrev tells : Op → (reg : ℕ) → End → (mirrored desired : ℕ) → Event
tells o reg e mirrored desired = record { op = o; end = e; trace = []; mirrored = mirrored; desired = desired; differ = 0 }

event_as : (m : ModelData) (p : Machine) (reg : ℕ) (map value : Option ℕ) (place : ℕ) → grant m (op_with reg map value) ≡ Ok place →
    (machine_step m.chip m.layout p (op_with reg map value)).event
    ≡ tells (named m (op_with reg map value)) reg (answered m.chip reg value (register_at m.chip p reg)) (get_or (stepped m.chip reg (step_of value) p).bits reg 0) (get_or (stepped m.chip reg
    (step_of value) p).desired reg 0)
unfolding machine_step
event_as m p reg map None place granted = ap (λ g. (done_by m.chip m.layout (op.OtherRead reg map) p g).event) (seen_grant m p reg map None place granted)
event_as m p reg map (Some value) place granted = ap (λ g. (done_by m.chip m.layout (op.OtherWrite reg map value) p g).event) (seen_grant m p reg map (Some value) place granted)

-- an access that the model grants
pub record IsAsked (m : ModelData) (a : Access) : Type 0 where
  pub reg : a.reg < length m.chip.regs
  pub place : ℕ
  pub granted : grant m (op_of a) ≡ Ok place

event_like : (m : ModelData) (a : Access) (p q : Machine) → IsSound m.chip → IsAsked m a → IsKept m.chip (mirror_of p) → IsKept m.chip (mirror_of q) →
    IsLike m.chip a.reg p q →
    (machine_step m.chip m.layout p (op_of a)).event ≡ (machine_step m.chip m.layout q (op_of a)).event
event_like m a p q sound asked kept also h =
    let c = m.chip in
    let after = step_here c a p q sound asked.reg kept also h in
    let o = named m (op_of a) in
    event_as m p a.reg a.map a.value asked.place asked.granted
    ∙ ap (λ e. tells o a.reg e (get_or (step_by c p a).bits a.reg 0) (get_or (step_by c p a).desired a.reg 0)) (answers_alike c a.reg a.value (register_at c p a.reg) (register_at c q a.reg) h.same)
    ∙ ap (λ x. tells o a.reg (answered c a.reg a.value (register_at c q a.reg)) x (get_or (step_by c p a).desired a.reg 0)) after.same.bits
    ∙ ap (tells o a.reg (answered c a.reg a.value (register_at c q a.reg)) (get_or (step_by c q a).bits a.reg 0)) after.desired
    ∙ sym (event_as m q a.reg a.map a.value asked.place asked.granted)

-- ---- accesses one after another

abbrev pub course_of : ModelData → Machine → List Access → Course
course_of m p as_asked = through m.chip m.layout p (map op_of as_asked)

more_course : (m : ModelData) (p : Machine) (a : Access) (rest : List Access) →
    course_of m p (a ∷ rest) ≡ then_on (machine_step m.chip m.layout p (op_of a)) (λ after. course_of m after rest)
unfolding through
more_course m p a rest = refl

none_course : (m : ModelData) (p : Machine) → course_of m p [] ≡ record { events = []; machine = p }
unfolding through
none_course m p = refl

abbrev Differ : List Access → Type 0
Differ xs = AllPairs (λ a b. a.reg ≡ b.reg → ⊥) xs

asked_first : (m : ModelData) (a : Access) (rest : List Access) → All (IsAsked m) (a ∷ rest) → IsAsked m a
asked_first m a rest all = all 0 a (omega arith)

rest_of : (P : Access → Type 0) (a : Access) (rest : List Access) → All P (a ∷ rest) → All P rest
rest_of P a rest all k d low = all (suc k) d (omega (arith, low))

differ_rest : (a : Access) (rest : List Access) → Differ (a ∷ rest) → Differ rest
differ_rest a rest differ i j d low inside = differ (suc i) (suc j) d (omega (arith, low)) (omega (arith, inside))

differ_first : (a : Access) (rest : List Access) → Differ (a ∷ rest) → All (λ b. a.reg ≡ b.reg → ⊥) rest
differ_first a rest differ k d low = differ 0 (suc k) d (omega arith) (omega (arith, low))

-- the machine after the first
after_first : (m : ModelData) (p : Machine) (a : Access) (rest : List Access) → IsAsked m a →
    (course_of m p (a ∷ rest)).machine ≡ (course_of m (step_by m.chip p a) rest).machine
after_first m p a rest asked = ap (λ (x : Course). x.machine) (more_course m p a rest) ∙ ap (λ x. (course_of m x rest).machine) (machine_is m p a.reg a.map a.value asked.place asked.granted)

map_on : (f g : Access → Event) (xs : List Access) → All (λ a. f a ≡ g a) xs → map f xs ≡ map g xs
map_on f g [] h = refl
map_on f g (x ∷ xs) h = ap (λ e. e ∷ map f xs) (h 0 x (omega arith)) ∙ ap (λ es. g x ∷ es) (map_on f g xs (rest_of (λ a. f a ≡ g a) x xs h))

-- each event is told as from where the machine stood at first
pub events_are : (m : ModelData) (xs : List Access) (p : Machine) → IsSound m.chip → All (IsAsked m) xs → Differ xs → IsKept m.chip (mirror_of p) →
    (course_of m p xs).events ≡ map (λ a. (machine_step m.chip m.layout p (op_of a)).event) xs
events_are m [] p sound asked differ kept = ap (λ (x : Course). x.events) (none_course m p)
events_are m (a ∷ rest) p sound asked differ kept =
    let first = asked_first m a rest asked in
    let q = step_by m.chip p a in
    let also = kept_by m.chip a p sound first.reg kept in
    ap (λ (x : Course). x.events) (more_course m p a rest)
    ∙ ap (λ x. (machine_step m.chip m.layout p (op_of a)).event ∷ (course_of m x rest).events) (machine_is m p a.reg a.map a.value first.place first.granted)
    ∙ ap (λ es. (machine_step m.chip m.layout p (op_of a)).event ∷ es)
    (events_are m rest q sound (rest_of (IsAsked m) a rest asked) (differ_rest a rest differ) also
    ∙ map_on (λ b. (machine_step m.chip m.layout q (op_of b)).event) (λ b. (machine_step m.chip m.layout p (op_of b)).event) rest
    (λ k d low.
    let b = get_or rest k d in
    let one = rest_of (IsAsked m) a rest asked k d low in
    event_like m b q p sound one also kept (like_back m.chip b.reg p q (step_other m.chip a b.reg p sound first.reg one.reg (λ e. differ_first a rest differ k d low (sym e)) kept))))

-- ---- the machine at the end

pub course_kept : (m : ModelData) (xs : List Access) (p : Machine) → IsSound m.chip → All (IsAsked m) xs → IsKept m.chip (mirror_of p) →
    IsKept m.chip (mirror_of (course_of m p xs).machine)
course_kept m [] p sound asked kept = subst (λ (x : Course). IsKept m.chip (mirror_of x.machine)) (sym (none_course m p)) kept
course_kept m (a ∷ rest) p sound asked kept =
    let first = asked_first m a rest asked in
    subst (λ x. IsKept m.chip (mirror_of x)) (sym (after_first m p a rest first)) (course_kept m rest (step_by m.chip p a) sound (rest_of (IsAsked m) a rest asked) (kept_by m.chip a p sound first.reg
    kept))

course_locations : (m : ModelData) (xs : List Access) (p : Machine) → All (IsAsked m) xs → (course_of m p xs).machine.locations ≡ p.locations
course_locations m [] p asked = ap (λ (x : Course). x.machine.locations) (none_course m p)
course_locations m (a ∷ rest) p asked =
    ap (λ (x : Machine). x.locations) (after_first m p a rest (asked_first m a rest asked)) ∙ course_locations m rest (step_by m.chip p a) (rest_of (IsAsked m) a rest asked) ∙ locations_stay m.chip
    a.reg a.value p

untouched : (m : ModelData) (xs : List Access) (p : Machine) (r : ℕ) → IsSound m.chip → All (IsAsked m) xs → IsKept m.chip (mirror_of p) →
    r < length m.chip.regs → All (λ b. r ≡ b.reg → ⊥) xs → IsLike m.chip r p (course_of m p xs).machine
untouched m [] p r sound asked kept low away = subst (λ (x : Course). IsLike m.chip r p x.machine) (sym (none_course m p)) (like_as_is m.chip r p)
untouched m (a ∷ rest) p r sound asked kept low away =
    let first = asked_first m a rest asked in
    let q = step_by m.chip p a in
    subst (IsLike m.chip r p) (sym (after_first m p a rest first))
    (like_on m.chip r p q (course_of m q rest).machine (step_other m.chip a r p sound first.reg low (away 0 a (omega arith)) kept)
    (untouched m rest q r sound (rest_of (IsAsked m) a rest asked) (kept_by m.chip a p sound first.reg kept) low (rest_of (λ b. r ≡ b.reg → ⊥) a rest away)))

taken_by : (m : ModelData) (xs : List Access) (p : Machine) (k : ℕ) (d : Access) → IsSound m.chip → All (IsAsked m) xs → Differ xs →
    IsKept m.chip (mirror_of p) → k < length xs →
    IsLike m.chip (get_or xs k d).reg (step_by m.chip p (get_or xs k d)) (course_of m p xs).machine
taken_by m [] p k d sound asked differ kept low = absurd (omega (arith, low))
taken_by m (a ∷ rest) p zero d sound asked differ kept low =
    let first = asked_first m a rest asked in
    let q = step_by m.chip p a in
    subst (IsLike m.chip a.reg q) (sym (after_first m p a rest first))
    (untouched m rest q a.reg sound (rest_of (IsAsked m) a rest asked) (kept_by m.chip a p sound first.reg kept) first.reg (differ_first a rest differ))
taken_by m (a ∷ rest) p (suc k) d sound asked differ kept low =
    let first = asked_first m a rest asked in
    let q = step_by m.chip p a in
    let also = kept_by m.chip a p sound first.reg kept in
    let b = get_or rest k d in
    let inside : k < length rest = omega (arith, low) in
    let one = rest_of (IsAsked m) a rest asked k d inside in
    subst (IsLike m.chip b.reg (step_by m.chip p b)) (sym (after_first m p a rest first))
    (like_on m.chip b.reg (step_by m.chip p b) (step_by m.chip q b) (course_of m q rest).machine
    (step_here m.chip b p q sound one.reg kept also (step_other m.chip a b.reg p sound first.reg one.reg (λ e. differ_first a rest differ k d inside (sym e)) kept))
    (taken_by m rest q k d sound (rest_of (IsAsked m) a rest asked) (differ_rest a rest differ) also inside))

-- ---- whether an access has a register

abbrev HasReg : List Access → ℕ → Type 0
HasReg xs r = (a : Access) × Contains xs a × (a.reg ≡ r)

has_reg : (xs : List Access) (r : ℕ) → HasReg xs r ⊎ All (λ b. r ≡ b.reg → ⊥) xs
has_reg [] r = inr (λ k d low. absurd (omega (arith, low)))
has_reg (x ∷ xs) r = by (cases_eq x.reg r) (has_reg xs r)
  where
    none : (x.reg ≡ r → ⊥) → All (λ b. r ≡ b.reg → ⊥) xs → (k : ℕ) (d : Access) → k < length (x ∷ xs) → r ≡ (get_or (x ∷ xs) k d).reg → ⊥
    none away all zero d low e = away (sym e)
    none away all (suc k) d low e = all k d (omega (arith, low)) e

    by : (x.reg ≡ r) ⊎ (x.reg ≡ r → ⊥) → HasReg xs r ⊎ All (λ b. r ≡ b.reg → ⊥) xs → HasReg (x ∷ xs) r ⊎ All (λ b. r ≡ b.reg → ⊥) (x ∷ xs)
    by (inl e) more = inl (x, (0, omega arith, refl), e)
    by (inr away) (inl h) = let low = h.1.1 in inl (h.0, (suc h.1.0, omega (arith, low), h.1.2), h.2)
    by (inr away) (inr all) = inr (none away all)

taken_contained : (m : ModelData) (xs : List Access) (p : Machine) (a : Access) → IsSound m.chip → All (IsAsked m) xs → Differ xs →
    IsKept m.chip (mirror_of p) → Contains xs a → IsLike m.chip a.reg (step_by m.chip p a) (course_of m p xs).machine
taken_contained m xs p a sound asked differ kept h =
    subst (λ (b : Access). IsLike m.chip b.reg (step_by m.chip p b) (course_of m p xs).machine) h.2 (taken_by m xs p h.0 a sound asked differ kept h.1)

ends_like : (m : ModelData) (xs ys : List Access) (p : Machine) (r : ℕ) → IsSound m.chip → All (IsAsked m) xs → Differ xs → Differ ys →
    IsKept m.chip (mirror_of p) → IsPermutation xs ys → r < length m.chip.regs →
    IsLike m.chip r (course_of m p xs).machine (course_of m p ys).machine
ends_like m xs ys p r sound asked differ also kept same low =
    let others = All-permutation (IsAsked m) xs ys same asked in
    elim (has_reg xs r) [
      | inl h ↦
          subst (λ n. IsLike m.chip n (course_of m p xs).machine (course_of m p ys).machine) h.2
          (like_on m.chip h.0.reg (course_of m p xs).machine (step_by m.chip p h.0) (course_of m p ys).machine
          (like_back m.chip h.0.reg (step_by m.chip p h.0) (course_of m p xs).machine (taken_contained m xs p h.0 sound asked differ kept h.1))
          (taken_contained m ys p h.0 sound others also kept (Contains-permutation xs ys h.0 same h.1)))
      | inr away ↦
          like_on m.chip r (course_of m p xs).machine p (course_of m p ys).machine
          (like_back m.chip r p (course_of m p xs).machine (untouched m xs p r sound asked kept low away))
          (untouched m ys p r sound others kept low (All-permutation (λ b. r ≡ b.reg → ⊥) xs ys same away))
    ]

-- ---- machines that are alike in each register are equal

same_machine : (p q : Machine) → p.bits ≡ q.bits → p.desired ≡ q.desired → p.spent ≡ q.spent → p.locations ≡ q.locations → p ≡ q
same_machine p q bits desired spent locations =
    ap (λ x. let y : Machine = record p { bits = x } in y) bits
    ∙ ap (λ x. let y : Machine = record p { bits = q.bits; desired = x } in y) desired
    ∙ ap (λ x. let y : Machine = record p { bits = q.bits; desired = q.desired; spent = x } in y) spent
    ∙ ap (λ x. let y : Machine = record { bits = q.bits; desired = q.desired; spent = q.spent; locations = x } in y) locations

marks_same : (c : ChipData) (p q : Machine) (n : ℕ) → IsSound c → n < length c.fields → ((r : ℕ) → r < length c.regs → IsLike c r p q) →
    get_or p.spent n false ≡ get_or q.spent n false
marks_same c p q n sound inside like =
    let s = seated c n sound inside in
    let reg = (field_of c n).shape.reg in
    let k = n - first_of c reg in
    let number : first_of c reg + k ≡ n = omega (arith, s.first) in
    let low : k < length (fields_of c reg) = omega (arith, s.first, s.last, length-fields_of c reg sound s.reg) in
    ap (λ j. get_or p.spent j false) (sym number) ∙ (like reg s.reg).same.marks k low ∙ ap (λ j. get_or q.spent j false) number

pub machines_same : (c : ChipData) (p q : Machine) → IsSound c → IsMirrorOf c (mirror_of p) → IsMirrorOf c (mirror_of q) → p.locations ≡ q.locations →
    ((r : ℕ) → r < length c.regs → IsLike c r p q) → p ≡ q
machines_same c p q sound built also locations like =
    same_machine p q
    (same_lists p.bits q.bits (built.registers ∙ sym also.registers)
    (λ k d low. get_or_default p.bits k d 0 low ∙ (like k (subst (λ n. k < n) built.registers low)).same.bits ∙ get_or_default q.bits k 0 d (subst (λ n. k < n) (built.registers ∙ sym also.registers)
    low)))
    (same_lists p.desired q.desired (built.wishes ∙ sym also.wishes)
    (λ k d low. get_or_default p.desired k d 0 low ∙ (like k (subst (λ n. k < n) built.wishes low)).desired ∙ get_or_default q.desired k 0 d (subst (λ n. k < n) (built.wishes ∙ sym also.wishes) low)))
    (same_lists p.spent q.spent (built.marks ∙ sym also.marks)
    (λ k d low. get_or_default p.spent k d false low ∙ marks_same c p q k sound (subst (λ n. k < n) built.marks low) like ∙ get_or_default q.spent k false d (subst (λ n. k < n) (built.marks ∙ sym
    also.marks) low)))
    locations

-- ---- in any order

pub courses_same : (m : ModelData) (xs ys : List Access) (p : Machine) → IsSound m.chip → All (IsAsked m) xs → Differ xs → Differ ys →
    IsKept m.chip (mirror_of p) → IsPermutation xs ys →
    (course_of m p xs).machine ≡ (course_of m p ys).machine
courses_same m xs ys p sound asked differ also kept same =
    let others = All-permutation (IsAsked m) xs ys same asked in
    machines_same m.chip (course_of m p xs).machine (course_of m p ys).machine sound (course_kept m xs p sound asked kept).built (course_kept m ys p sound others kept).built
    (course_locations m xs p asked ∙ sym (course_locations m ys p others))
    (λ r low. ends_like m xs ys p r sound asked differ also kept same low)
