-- How many lines a register has.
use Rattle.std.proofs.Common.{◌≡◌, ℕ, zero, suc, ◌+◌, ◌*◌, ◌≤◌, ◌==◌, Bool, true, false, not, ◌||◌, if◌then◌else◌, List, [], ◌∷◌, length, length-append, filter_map, Option, Some, None, refl, sym, ap, subst, ◌∙◌, arith}
use Rattle.std.proofs.lemmas.List.Elements.{filter_map-append}
use Rattle.rl_model.specs.Rows.{ChipData}
use Rattle.rl_access.specs.declared.event.Op.{Op}
use Rattle.rl_plan.specs.declared.step.Sort.{Sort}
use Rattle.rl_plan.specs.declared.step.Sort.TheVariants as sort
use Rattle.rl_plan.specs.declared.step.Step.{Step}
use Rattle.rl_plan.specs.declared.target.Target.{Target}
use Rattle.rl_plan.specs.declared.visit.Visit.TheVariants as visit
use Rattle.rl_plan.specs.declared.way.Way.{Way}
use Rattle.rl_plan.specs.Laws.{LinesAreFew}
use Rattle.rl_plan.specs.Plan.{further_ops_as, further_steps, has_value, is_seen_as, op_of, ops_as, some_op, sort_of, visit_op}
use Rattle.rl_plan.specs.Steps.{further_steps_of, steps_of}
use Rattle.rl_plan.specs.Text.{reg_target, reg_ways}
use Rattle.rl_plan.proofs.Pushed.{of_one}

one_most : (o : Option Op) → length (some_op o) ≤ 1
one_most None = omega arith
one_most (Some o) = omega arith

no_more : {X : Type 0} (h : X → Option Op) (xs : List X) → length (filter_map h xs) ≤ length xs
no_more h [] = omega arith
no_more h (x ∷ xs) =
    let here : length (filter_map h (x ∷ [])) ≤ 1 = subst (λ l. length l ≤ 1) (sym (of_one h x (h x) refl)) (one_most (h x)) in
    let others = no_more h xs in
    let split : length (filter_map h (x ∷ xs)) ≡ length (filter_map h (x ∷ [])) + length (filter_map h xs) =
    ap length (filter_map-append h (x ∷ []) xs) ∙ length-append (filter_map h (x ∷ [])) (filter_map h xs) in
    omega (arith, here, others, split)

steps_most : (s : Sort) → length (steps_of s) ≤ 30
steps_most sort.Both = omega arith
steps_most sort.Bus = omega arith
steps_most sort.Reads = omega arith
steps_most sort.Unseen = omega arith

further_most : (s : Sort) → length (further_steps_of s) ≤ 8
further_most sort.Both = omega arith
further_most sort.Bus = omega arith
further_most sort.Reads = omega arith
further_most sort.Unseen = omega arith

both_most : (s : Sort) → length (steps_of s) + length (further_steps_of s) ≤ 32
both_most sort.Both = omega arith
both_most sort.Bus = omega arith
both_most sort.Reads = omega arith
both_most sort.Unseen = omega arith

if_most : (b : Bool) (steps : List Step) → length (if b then [] else steps) ≤ length steps
if_most true steps = omega arith
if_most false steps = omega arith

module _ (t : Target) where
  first_most : (s : Sort) (ways : List Way) → length (ops_as s t ways) ≤ length (steps_of s) + length ways
  first_most s ways =
      let steps = no_more (op_of t 0) (steps_of s) in
      let touches = no_more (visit_op (visit.Touch t (is_seen_as s))) ways in
      let split = length-append (filter_map (op_of t 0) (steps_of s)) (filter_map (visit_op (visit.Touch t (is_seen_as s))) ways) in
      omega (arith, steps, touches, split)

  -- the steps of one kind
  kind_most : (c : ChipData) (s : Sort) (k : ℕ) → length (filter_map (op_of t k) (further_steps c s t.reg k)) ≤ length (further_steps_of s)
  kind_most c s k =
      let made = no_more (op_of t k) (further_steps c s t.reg k) in
      let few = if_most (k == 0 || not (has_value c t.reg k)) (further_steps_of s) in
      omega (arith, made, few)

  kinds_most : (c : ChipData) (s : Sort) (n : ℕ) → length (further_ops_as c s t n) ≤ 8 * n
  kinds_most c s zero = omega arith
  kinds_most c s (suc k) =
      let before = kinds_most c s k in
      let here = kind_most c s k in
      let few = further_most s in
      let split = length-append (further_ops_as c s t k) (filter_map (op_of t k) (further_steps c s t.reg k)) in
      omega (arith, before, here, few, split)

  -- of two kinds the first is HARD
  two_most : (c : ChipData) (s : Sort) (n : ℕ) → n ≡ 2 → length (further_ops_as c s t n) ≤ length (further_steps_of s)
  two_most c s n two =
      let here : length (further_ops_as c s t 2) ≤ length (further_steps_of s) = kind_most c s 1 in
      subst (λ n. length (further_ops_as c s t n) ≤ length (further_steps_of s)) (sym two) here

pub lines_few : LinesAreFew
lines_few = record {
  first = λ m asked reg.
      let t = reg_target m asked reg in
      let steps = first_most t (sort_of m.chip t) (reg_ways m reg) in
      let most = steps_most (sort_of m.chip t) in
      omega (arith, steps, most);
  further = λ m asked reg. let t = reg_target m asked reg in kinds_most t m.chip (sort_of m.chip t) (length m.chip.kinds);
  forty = λ m asked reg two few.
      let t = reg_target m asked reg in
      let s = sort_of m.chip t in
      let steps = first_most t s (reg_ways m reg) in
      let others = two_most t m.chip s (length m.chip.kinds) two in
      let most = both_most s in
      omega (arith, steps, others, most, few);
}
