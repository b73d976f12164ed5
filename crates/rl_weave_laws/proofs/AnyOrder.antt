-- Whatever the order of its words, a weave is the course of its accesses in the order in which they were added.
use Rattle.std.proofs.Common.{◌≡◌, ℕ, ◌<◌, Bool, true, false, cond, List, [], ◌∷◌, length, get_or, map, All, refl, sym, ap, ◌∙◌, subst, arith}
use Rattle.std.specs.Prelude.{AllPairs}
use Rattle.std.specs.List.Sorted.{IsPermutation}
use Rattle.std.proofs.lemmas.List.{get_or-map, length-map}
use Rattle.std.proofs.lemmas.List.Elements.{All-map}
use Rattle.std.proofs.lemmas.List.Kept.{AllPairs-cons}
use Rattle.std.proofs.lemmas.List.Sorted.{IsPermutation-refl, IsPermutation-cons, IsPermutation-trans, IsPermutation-map, All-permutation}
use Rattle.std.proofs.lemmas.Simd.{map-map}
use Rattle.rl_access.specs.declared.event.Event.{Event}
use Rattle.rl_access.specs.Call.{Scene}
use Rattle.rl_access.specs.Model.{ModelData}
use Rattle.rl_plain.specs.Calls.{without_items}
use Rattle.rl_plain.specs.Courses.{Course, through}
use Rattle.rl_plain.specs.Machine.{mirror_of, seen, machine_step}
use Rattle.rl_plain.proofs.Kept.{IsKept}
use Rattle.rl_weave.specs.declared.access.Access.{Access}
use Rattle.rl_weave.specs.Access.{op_of, no_woven, woven_at, IsWovenOn}
use Rattle.rl_weave.specs.Weave.{WeaveData, IsWeave, is_over, without, stepped}
use Rattle.rl_weave.proofs.Endings.{reg_in}
use Rattle.rl_weave.proofs.Weaves.{at_open, apart_from, weave_stepped}
use Rattle.rl_weave_laws.specs.Half.{IsOpen}
use Rattle.rl_weave_laws.specs.Runs.{Turn, RunsTo, ended, op_at, events_of}
use Rattle.rl_weave_laws.specs.Order.{added, OrderDoesNotMatter}
use Rattle.rl_weave_laws.proofs.Commuting.{IsAsked, course_of, events_are, courses_same}
use Rattle.rl_weave_laws.proofs.Courses.{weave_is_plain}
use Rattle.rl_weave_laws.proofs.Moves.{regs_differ}
use Rattle.rl_weave_laws.proofs.Orders.{pulled, op_kept, map_each}

-- ---- the numbers of the accesses in the order in which they end

abbrev numbers : WeaveData → List Turn → List ℕ
numbers w [] = []
numbers w (t ∷ turns) = cond (is_over (woven_at w.accesses t.which) t.step.item) (t.which ∷ numbers (stepped w t.which t.step.item) turns) (numbers (stepped w t.which t.step.item) turns)

ended_is : (turns : List Turn) (w left : WeaveData) (s new : Scene) → IsWeave w → RunsTo w s turns left new →
    ended w turns ≡ map (op_at w) (numbers w turns)
ended_is [] w left s new ok run = refl
ended_is (t ∷ turns) w left s new ok run =
    by (is_over (woven_at w.accesses t.which) t.step.item)
    (ended_is turns (stepped w t.which t.step.item) left run.0 new (weave_stepped w t.which t.step.item ok run.2) run.4
    ∙ map_each (op_at (stepped w t.which t.step.item)) (op_at w) (numbers (stepped w t.which t.step.item) turns) (λ i. op_kept w t.which i t.step.item (at_open w t.which ok run.2).inside))
  where
    by : (over : Bool) → ended (stepped w t.which t.step.item) turns ≡ map (op_at w) (numbers (stepped w t.which t.step.item) turns) →
        cond over (op_at w t.which ∷ ended (stepped w t.which t.step.item) turns) (ended (stepped w t.which t.step.item) turns)
        ≡ map (op_at w) (cond over (t.which ∷ numbers (stepped w t.which t.step.item) turns) (numbers (stepped w t.which t.step.item) turns))
    by true e = ap (λ os. op_at w t.which ∷ os) e
    by false e = e

over_perm : (w : WeaveData) (t : Turn) (rest : List ℕ) (over : Bool) → IsWeave w → IsOpen w t.which →
    is_over (woven_at w.accesses t.which) t.step.item ≡ over → IsPermutation (stepped w t.which t.step.item).still_open rest →
    IsPermutation w.still_open (cond over (t.which ∷ rest) rest)
over_perm w t rest true ok here e more =
    let opens : (stepped w t.which t.step.item).still_open ≡ without t.which w.still_open = ap (λ b. cond b (without t.which w.still_open) w.still_open) e in
    IsPermutation-trans w.still_open (t.which ∷ without t.which w.still_open) (t.which ∷ rest) (pulled t.which w.still_open ok.in_order here)
    (IsPermutation-cons t.which (without t.which w.still_open) rest (subst (λ xs. IsPermutation xs rest) opens more))
over_perm w t rest false ok here e more = subst (λ xs. IsPermutation xs rest) (ap (λ b. cond b (without t.which w.still_open) w.still_open) e) more

numbers_perm : (turns : List Turn) (w left : WeaveData) (s new : Scene) → IsWeave w → RunsTo w s turns left new → left.still_open ≡ [] →
    IsPermutation w.still_open (numbers w turns)
numbers_perm [] w left s new ok run none = subst (λ xs. IsPermutation xs []) (sym (ap (λ (x : WeaveData). x.still_open) (sym run.0) ∙ none)) (IsPermutation-refl [])
numbers_perm (t ∷ turns) w left s new ok run none =
    over_perm w t (numbers (stepped w t.which t.step.item) turns) (is_over (woven_at w.accesses t.which) t.step.item) ok run.2 refl
    (numbers_perm turns (stepped w t.which t.step.item) left run.0 new (weave_stepped w t.which t.step.item ok run.2) run.4 none)

abbrev Distinct : List ℕ → Type 0
Distinct xs = AllPairs (λ i k. i ≡ k → ⊥) xs

none_distinct : Distinct []
none_distinct i j d low inside = absurd (omega (arith, inside))

over_distinct : (w : WeaveData) (t : Turn) (rest : List ℕ) (over : Bool) → is_over (woven_at w.accesses t.which) t.step.item ≡ over →
    IsPermutation (stepped w t.which t.step.item).still_open rest → Distinct rest → Distinct (cond over (t.which ∷ rest) rest)
over_distinct w t rest true e more distinct =
    let opens : (stepped w t.which t.step.item).still_open ≡ without t.which w.still_open = ap (λ b. cond b (without t.which w.still_open) w.still_open) e in
    let away : All (λ k. k ≡ t.which → ⊥) rest = All-permutation (λ k. k ≡ t.which → ⊥) (without t.which w.still_open) rest (subst (λ xs. IsPermutation xs rest) opens more) (apart_from t.which
    w.still_open) in
    AllPairs-cons (λ i k. i ≡ k → ⊥) t.which rest (λ k d low same. away k d low (sym same)) distinct
over_distinct w t rest false e more distinct = distinct

numbers_distinct : (turns : List Turn) (w left : WeaveData) (s new : Scene) → IsWeave w → RunsTo w s turns left new → left.still_open ≡ [] →
    Distinct (numbers w turns)
numbers_distinct [] w left s new ok run none = none_distinct
numbers_distinct (t ∷ turns) w left s new ok run none =
    let next = stepped w t.which t.step.item in
    let more = weave_stepped w t.which t.step.item ok run.2 in
    over_distinct w t (numbers next turns) (is_over (woven_at w.accesses t.which) t.step.item) refl (numbers_perm turns next left run.0 new more run.4 none) (numbers_distinct turns next left run.0
    new more run.4 none)

-- ---- the accesses of these numbers

abbrev access_at : WeaveData → ℕ → Access
access_at w i = (woven_at w.accesses i).access

accesses_differ : (w : WeaveData) (xs : List ℕ) → IsWeave w → All (λ i. i < length w.accesses) xs → Distinct xs →
    AllPairs (λ a b. a.reg ≡ b.reg → ⊥) (map (access_at w) xs)
accesses_differ w xs ok inside distinct i j d low high e =
    let high_in : j < length xs = subst (λ n. j < n) (length-map xs (access_at w)) high in
    let low_in : i < length xs = omega (arith, low, high_in) in
    let first : get_or (map (access_at w) xs) i d ≡ access_at w (get_or xs i 0) = get_or-map (access_at w) xs i 0 d low_in in
    let second : get_or (map (access_at w) xs) j d ≡ access_at w (get_or xs j 0) = get_or-map (access_at w) xs j 0 d high_in in
    regs_differ w.accesses (get_or xs i 0) (get_or xs j 0) ok.apart (inside i 0 low_in) (inside j 0 high_in) (distinct i j 0 low high_in)
    (sym (ap (λ (a : Access). a.reg) first) ∙ e ∙ ap (λ (a : Access). a.reg) second)

asked_at : (m : ModelData) (w : WeaveData) (i : ℕ) → All (IsWovenOn m) w.accesses → i < length w.accesses → IsAsked m (access_at w i)
asked_at m w i on inside =
    let one = on i no_woven inside in
    let a = access_at w i in
    record { reg = reg_in m a.reg a.map a.value one.numbers; place = (woven_at w.accesses i).place; granted = one.granted }

ascending_distinct : (xs : List ℕ) → AllPairs (λ i k. i < k) xs → Distinct xs
ascending_distinct xs up i j d low high e = let less = up i j d low high in omega (arith, less, e)

pub order_does_not_matter : OrderDoesNotMatter
order_does_not_matter s new p w left turns model a is ok on unsent run built none =
    let m = s.model in
    let c = m.chip in
    let l = m.layout in
    let plain = weave_is_plain s new p w left turns model a is ok on unsent run built none in
    let order = numbers w turns in
    let xs = map (access_at w) w.still_open in
    let ys = map (access_at w) order in
    let numbers_same = numbers_perm turns w left s new ok run none in
    let same : IsPermutation xs ys = IsPermutation-map (access_at w) w.still_open order numbers_same in
    let low : All (λ i. i < length w.accesses) w.still_open = λ k d inside. (ok.left k d inside).inside in
    let also : All (λ i. i < length w.accesses) order = All-permutation (λ i. i < length w.accesses) w.still_open order numbers_same low in
    let asked : All (IsAsked m) xs = All-map (IsAsked m) (access_at w) w.still_open (λ k d inside. asked_at m w (get_or w.still_open k d) on (low k d inside)) in
    let asked_too : All (IsAsked m) ys = All-map (IsAsked m) (access_at w) order (λ k d inside. asked_at m w (get_or order k d) on (also k d inside)) in
    let differ = accesses_differ w w.still_open ok low (ascending_distinct w.still_open ok.in_order) in
    let differ_too = accesses_differ w order ok also (numbers_distinct turns w left s new ok run none) in
    let mirror : m.mirror ≡ mirror_of p = ap (λ (x : ModelData). x.mirror) is in
    let kept : IsKept c (mirror_of p) = subst (IsKept c) mirror (record { built = model.mirror; reach = model.reach }) in
    let first : course_of m p xs ≡ through c l p (added w) = ap (through c l p) (map-map op_of (access_at w) w.still_open) in
    let second : course_of m p ys ≡ through c l p (ended w turns) = ap (through c l p) (map-map op_of (access_at w) order ∙ sym (ended_is turns w left s new ok run)) in
    let machine : (through c l p (ended w turns)).machine ≡ (through c l p (added w)).machine =
    ap (λ (x : Course). x.machine) (sym second) ∙ sym (courses_same m xs ys p model.chip asked differ differ_too kept same) ∙ ap (λ (x : Course). x.machine) first in
    let event : Access → Event = λ b. (machine_step c l p (op_of b)).event in
    let events_first : (through c l p (added w)).events ≡ map event xs = ap (λ (x : Course). x.events) (sym first) ∙ events_are m xs p model.chip asked differ kept in
    let events_second : map without_items (events_of turns) ≡ map event ys = plain.2 ∙ ap (λ (x : Course). x.events) (sym second) ∙ events_are m ys p model.chip asked_too differ_too kept in (
      plain.1 ∙ ap (seen c l) machine,
      subst (λ es. IsPermutation es (map without_items (events_of turns))) (sym events_first)
          (subst (IsPermutation (map event xs)) (sym events_second) (IsPermutation-map event xs ys same)),
    )
