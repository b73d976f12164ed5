-- The accesses of a weave that ran to its end, in the order in which they ended.
use Rattle.std.proofs.Common.{◌≡◌, ℕ, suc, ◌<◌, ◌==◌, Bool, true, false, not, cond, eqb, eq-eqb, eqb-true, List}
use Rattle.std.proofs.Common.{[], ◌∷◌, ◌++◌, length, get_or, map, filter, refl, sym, ap, ◌∙◌, subst, inl, inr, arith}
use Rattle.std.specs.Prelude.{Contains, AllPairs, All}
use Rattle.std.specs.List.Sorted.{IsPermutation}
use Rattle.std.proofs.lemmas.Bool.{cases_eq}
use Rattle.std.proofs.lemmas.List.{get_or-set_same, get_or-set_other}
use Rattle.std.proofs.lemmas.List.Sorted.{IsPermutation-refl, IsPermutation-cons, IsPermutation-trans, IsPermutation-map, IsPermutation-filter_both}
use Rattle.rl_access.specs.declared.event.Op.{Op}
use Rattle.rl_access.specs.declared.trace.TraceItem.{TraceItem}
use Rattle.rl_weave.specs.declared.woven.Woven.{Woven}
use Rattle.rl_weave.specs.Access.{op_of, no_woven, woven_at}
use Rattle.rl_weave.specs.Weave.{WeaveData, is_over, going_on, without, stepped}
use Rattle.rl_weave.proofs.Weaves.{at_open, weave_stepped}
use Rattle.rl_weave_laws.specs.Runs.{ended, op_at, EndedAreAll}
use Rattle.rl_weave_laws.proofs.Halves.{has_at}

-- ---- one number of ascending ones

none_more : (which : ℕ) (xs : List ℕ) → All (λ k. which < k) xs → filter (λ j. j == which) xs ≡ []
none_more which [] above = refl
none_more which (x ∷ xs) above =
    let low : which < x = above 0 x (omega arith) in
    by (eqb x which) refl low (none_more which xs (λ k d inside. above (suc k) d (omega (arith, inside))))
  where
    by : (t : Bool) → eqb x which ≡ t → which < x → filter (λ j. j == which) xs ≡ [] →
        cond t (x ∷ filter (λ j. j == which) xs) (filter (λ j. j == which) xs) ≡ []
    by true e low rest = let same = eqb-true x which e in absurd (omega (arith, low, same))
    by false e low rest = rest

tail_ascends : (x : ℕ) (xs : List ℕ) → AllPairs (λ i k. i < k) (x ∷ xs) → AllPairs (λ i k. i < k) xs
tail_ascends x xs up i j d low inside = up (suc i) (suc j) d (omega (arith, low)) (omega (arith, inside))

one_left : (which : ℕ) (xs : List ℕ) → AllPairs (λ i k. i < k) xs → Contains xs which → filter (λ j. j == which) xs ≡ which ∷ []
one_left which [] up h = let low = h.1 in absurd (omega (arith, low))
one_left which (x ∷ xs) up h =
    elim (has_at x which h.0 xs h.1 h.2) [
      | inl same ↦
          ap (λ t. cond t (x ∷ filter (λ j. j == which) xs) (filter (λ j. j == which) xs)) (eq-eqb x which same)
          ∙ ap (λ ys. x ∷ ys) (none_more which xs (λ k d inside. subst (λ n. n < get_or xs k d) same (up 0 (suc k) d (omega arith) (omega (arith, inside)))))
          ∙ ap (λ n. n ∷ []) same
      | inr more ↦
          let low : x < which = subst (λ n. x < n) more.2 (up 0 (suc more.0) which (omega arith) (more_inside more.0 more.1)) in
          ap (λ t. cond t (x ∷ filter (λ j. j == which) xs) (filter (λ j. j == which) xs)) (not_equal low) ∙ one_left which xs (tail_ascends x xs up) more
    ]
  where
    more_inside : (k : ℕ) → k < length xs → suc k < suc (length xs)
    more_inside k low = omega (arith, low)

    not_equal : x < which → eqb x which ≡ false
    not_equal low = by (eqb x which) refl low
      where
        by : (t : Bool) → eqb x which ≡ t → x < which → t ≡ false
        by true e low = let same = eqb-true x which e in absurd (omega (arith, low, same))
        by false e low = refl

pub pulled : (which : ℕ) (xs : List ℕ) → AllPairs (λ i k. i < k) xs → Contains xs which → IsPermutation xs (which ∷ without which xs)
pulled which xs up h =
    subst (λ ys. IsPermutation xs (ys ++ without which xs)) (one_left which xs up h)
    (IsPermutation-filter_both (λ j. j == which) (λ j. not (j == which)) (λ j. refl) xs)

-- ---- a step keeps the operation of each access

pub op_kept : (w : WeaveData) (which i : ℕ) (item : TraceItem) → which < length w.accesses → op_at (stepped w which item) i ≡ op_at w i
op_kept w which i item inside =
    elim (cases_eq i which) [
      | inl e ↦
          ap (op_at (stepped w which item)) e
          ∙ ap (λ (v : Woven). op_of v.access) (get_or-set_same w.accesses which (going_on (woven_at w.accesses which) item) no_woven inside)
          ∙ ap (op_at w) (sym e)
      | inr apart ↦ ap (λ (v : Woven). op_of v.access) (get_or-set_other w.accesses which i (going_on (woven_at w.accesses which) item) no_woven apart)
    ]

pub map_each : (f g : ℕ → Op) (xs : List ℕ) → ((i : ℕ) → f i ≡ g i) → map f xs ≡ map g xs
map_each f g [] h = refl
map_each f g (x ∷ xs) h = ap (λ o. o ∷ map f xs) (h x) ∙ ap (λ os. g x ∷ os) (map_each f g xs h)

pub ended_are_all : EndedAreAll
ended_are_all w s [] left new ok run none =
    subst (λ xs. IsPermutation (map (op_at w) xs) []) (sym (ap (λ (x : WeaveData). x.still_open) (sym run.0) ∙ none)) (IsPermutation-refl [])
ended_are_all w s (t ∷ turns) left new ok run none =
    by (is_over (woven_at w.accesses t.which) t.step.item) refl (ended_are_all (stepped w t.which t.step.item) run.0 turns left new (weave_stepped w t.which t.step.item ok run.2) run.4 none)
  where
    inside : t.which < length w.accesses
    inside = (at_open w t.which ok run.2).inside

    by : (over : Bool) → is_over (woven_at w.accesses t.which) t.step.item ≡ over →
        IsPermutation (map (op_at (stepped w t.which t.step.item)) (stepped w t.which t.step.item).still_open) (ended (stepped w t.which t.step.item) turns) →
        IsPermutation (map (op_at w) w.still_open) (cond over (op_at w t.which ∷ ended (stepped w t.which t.step.item) turns) (ended (stepped w t.which t.step.item) turns))
    by true e rest =
        let kept = map_each (op_at (stepped w t.which t.step.item)) (op_at w) (without t.which w.still_open) (λ i. op_kept w t.which i t.step.item inside) in
        let opens : (stepped w t.which t.step.item).still_open ≡ without t.which w.still_open = ap (λ b. cond b (without t.which w.still_open) w.still_open) e in
        let more : IsPermutation (map (op_at w) (without t.which w.still_open)) (ended (stepped w t.which t.step.item) turns) =
        subst (λ os. IsPermutation os (ended (stepped w t.which t.step.item) turns)) (ap (map (op_at (stepped w t.which t.step.item))) opens ∙ kept) rest in
        IsPermutation-trans (map (op_at w) w.still_open) (op_at w t.which ∷ map (op_at w) (without t.which w.still_open)) (op_at w t.which ∷ ended (stepped w t.which t.step.item) turns)
        (IsPermutation-map (op_at w) w.still_open (t.which ∷ without t.which w.still_open) (pulled t.which w.still_open ok.in_order run.2))
        (IsPermutation-cons (op_at w t.which) (map (op_at w) (without t.which w.still_open)) (ended (stepped w t.which t.step.item) turns) more)
    by false e rest =
        let kept = map_each (op_at (stepped w t.which t.step.item)) (op_at w) w.still_open (λ i. op_kept w t.which i t.step.item inside) in
        let opens : (stepped w t.which t.step.item).still_open ≡ w.still_open = ap (λ b. cond b (without t.which w.still_open) w.still_open) e in
        subst (λ os. IsPermutation os (ended (stepped w t.which t.step.item) turns)) (ap (map (op_at (stepped w t.which t.step.item))) opens ∙ kept) rest
