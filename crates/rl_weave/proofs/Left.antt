-- Each step takes one of the words that are left, and a weave has at most 512 of them.
use Rattle.std.proofs.Common.{◌≡◌, ℕ, zero, suc, ◌+◌, ◌*◌, ◌<◌, ◌≤◌, Bool, true, false, not, cond, eqb, eq-eqb}
use Rattle.std.proofs.Common.{List, [], ◌∷◌, ◌++◌, length, get_or, All, refl, sym, ap, ◌∙◌, subst, inl, inr, arith}
use Rattle.std.specs.Prelude.{Contains, sum_by}
use Rattle.std.proofs.lemmas.Bool.{cases_eq}
use Rattle.std.proofs.lemmas.List.{length_push, get_or-set_same, get_or-set_other}
use Rattle.std.proofs.lemmas.List.Sums.{sum_by-cons}
use Rattle.rl_access.specs.declared.trace.TraceItem.{TraceItem}
use Rattle.rl_access.specs.Model.{ModelData, IsModel}
use Rattle.rl_weave.specs.declared.woven.Woven.{Woven}
use Rattle.rl_weave.specs.Access.{no_woven, woven_at}
use Rattle.rl_weave.specs.Weave.{WeaveData, IsWeave, IsWeaveOn, is_over, going_on, without, stepped, left_of, words_left}
use Rattle.rl_weave.proofs.Endings.{few_words}
use Rattle.rl_weave.proofs.Granted.{granted_is}
use Rattle.rl_weave.proofs.Weaves.{at_open}

-- ---- sums over numbers

-- one of the terms
one_term : (f : ℕ → ℕ) (xs : List ℕ) (k d : ℕ) → k < length xs → f (get_or xs k d) ≤ sum_by f xs
one_term f [] k d low = absurd (omega (arith, low))
one_term f (x ∷ xs) zero d low = omega (arith, sum_by-cons f x xs)
one_term f (x ∷ xs) (suc k) d low = omega (arith, sum_by-cons f x xs, one_term f xs k d (omega (arith, low)))

no_more : (f g : ℕ → ℕ) (xs : List ℕ) → ((i : ℕ) → g i ≤ f i) → sum_by g xs ≤ sum_by f xs
no_more f g [] le = omega arith
no_more f g (x ∷ xs) le = omega (arith, sum_by-cons f x xs, sum_by-cons g x xs, le x, no_more f g xs le)

-- a term is less, and none is more
less : (f g : ℕ → ℕ) (which : ℕ) (xs : List ℕ) (k d : ℕ) → ((i : ℕ) → g i ≤ f i) → g which < f which → k < length xs
    → get_or xs k d ≡ which → sum_by g xs < sum_by f xs
less f g which [] k d le lt low e = absurd (omega (arith, low))
less f g which (x ∷ xs) zero d le lt low e =
    let here : g x < f x = subst (λ i. g i < f i) (sym e) lt in
    omega (arith, sum_by-cons f x xs, sum_by-cons g x xs, here, no_more f g xs le)
less f g which (x ∷ xs) (suc k) d le lt low e =
    omega (arith, sum_by-cons f x xs, sum_by-cons g x xs, le x, less f g which xs k d le lt (omega (arith, low)) e)

-- a term is left out, and none of the others is more
out_by : (f g : ℕ → ℕ) (which x : ℕ) (t : Bool) (rest more : ℕ) → eqb x which ≡ t → ((x ≡ which → ⊥) → g x ≤ f x) → rest ≤ more
    → cond (not t) (g x + rest) rest ≤ f x + more
out_by f g which x true rest more e le h = omega (arith, h)
out_by f g which x false rest more e le h = omega (arith, le (λ same. differ (eqb x which) (eq-eqb x which same) e), h)
  where
    differ : (t : Bool) → t ≡ true → t ≡ false → ⊥
    differ t p q = cc

sum_cond : (g : ℕ → ℕ) (t : Bool) (x : ℕ) (xs : List ℕ) → sum_by g (cond t (x ∷ xs) xs) ≡ cond t (g x + sum_by g xs) (sum_by g xs)
sum_cond g true x xs = sum_by-cons g x xs
sum_cond g false x xs = refl

left_out : (f g : ℕ → ℕ) (which : ℕ) (xs : List ℕ) → ((i : ℕ) → (i ≡ which → ⊥) → g i ≤ f i)
    → sum_by g (without which xs) ≤ sum_by f xs
left_out f g which [] le = omega arith
left_out f g which (x ∷ xs) le =
    subst (λ n. n ≤ sum_by f (x ∷ xs)) (sym (sum_cond g (not (eqb x which)) x (without which xs)))
    (subst (λ n. cond (not (eqb x which)) (g x + sum_by g (without which xs)) (sum_by g (without which xs)) ≤ n)
    (sym (sum_by-cons f x xs))
    (out_by f g which x (eqb x which) (sum_by g (without which xs)) (sum_by f xs) refl (le x) (left_out f g which xs le)))

one_out : (f g : ℕ → ℕ) (which : ℕ) (xs : List ℕ) (k d : ℕ) → ((i : ℕ) → (i ≡ which → ⊥) → g i ≤ f i) → 0 < f which
    → k < length xs → get_or xs k d ≡ which → sum_by g (without which xs) < sum_by f xs
one_out f g which [] k d le some low e = absurd (omega (arith, low))
one_out f g which (x ∷ xs) zero d le some low e =
    let out : sum_by g (without which (x ∷ xs)) ≡ sum_by g (without which xs) =
    ap (λ t. sum_by g (cond (not t) (x ∷ without which xs) (without which xs))) (eq-eqb x which e) in
    let here : 0 < f x = subst (λ i. 0 < f i) (sym e) some in
    omega (arith, sum_by-cons f x xs, out, here, left_out f g which xs le)
one_out f g which (x ∷ xs) (suc k) d le some low e =
    let more = one_out f g which xs k d le some (omega (arith, low)) e in
    subst (λ n. n < sum_by f (x ∷ xs)) (sym (sum_cond g (not (eqb x which)) x (without which xs)))
    (subst (λ n. cond (not (eqb x which)) (g x + sum_by g (without which xs)) (sum_by g (without which xs)) < n)
    (sym (sum_by-cons f x xs)) (by (eqb x which) refl more))
  where
    differ : (t : Bool) → t ≡ true → t ≡ false → ⊥
    differ t p q = cc

    by : (t : Bool) → eqb x which ≡ t → sum_by g (without which xs) < sum_by f xs
        → cond (not t) (g x + sum_by g (without which xs)) (sum_by g (without which xs)) < f x + sum_by f xs
    by true same h = omega (arith, h)
    by false other h = omega (arith, h, le x (λ same. differ (eqb x which) (eq-eqb x which same) other))

-- each term is at most eight
few_each : (f : ℕ → ℕ) (xs : List ℕ) → All (λ i. f i ≤ 8) xs → sum_by f xs ≤ 8 * length xs
few_each f [] each = omega arith
few_each f (x ∷ xs) each =
    let first : f x ≤ 8 = each 0 x (omega arith) in
    let rest = few_each f xs (λ k d low. each (suc k) d (omega (arith, low))) in
    omega (arith, sum_by-cons f x xs, first, rest)

-- ---- a step

left_other : (w : WeaveData) (which : ℕ) (item : TraceItem) (i : ℕ) → (i ≡ which → ⊥)
    → left_of (woven_at (stepped w which item).accesses i) ≡ left_of (woven_at w.accesses i)
left_other w which item i apart =
    ap left_of (get_or-set_other w.accesses which i (going_on (woven_at w.accesses which) item) no_woven apart)

left_here : (w : WeaveData) (which : ℕ) (item : TraceItem) → which < length w.accesses
    → left_of (woven_at (stepped w which item).accesses which) ≡ left_of (going_on (woven_at w.accesses which) item)
left_here w which item inside =
    ap left_of (get_or-set_same w.accesses which (going_on (woven_at w.accesses which) item) no_woven inside)

one_less : (v : Woven) (item : TraceItem) → length v.items < v.words → is_over v item ≡ false
    → left_of (going_on v item) < left_of v
one_less v item short going =
    let items : length (going_on v item).items ≡ length v.items + 1 =
    ap (λ b. length (cond b [] (v.items ++ item ∷ []))) going ∙ length_push v.items item in
    omega (arith, items, short)

pub step_takes : (w : WeaveData) (which : ℕ) (item : TraceItem) → IsWeave w → Contains w.still_open which
    → words_left (stepped w which item) < words_left w
step_takes w which item ok there = by (is_over (woven_at w.accesses which) item) refl
  where
    before : ℕ → ℕ
    before i = left_of (woven_at w.accesses i)

    after : ℕ → ℕ
    after i = left_of (woven_at (stepped w which item).accesses i)

    others : (i : ℕ) → (i ≡ which → ⊥) → after i ≤ before i
    others i apart = omega (arith, left_other w which item i apart)

    some : 0 < before which
    some = omega (arith, (at_open w which ok there).short)

    none_more : is_over (woven_at w.accesses which) item ≡ false → (i : ℕ) → after i ≤ before i
    none_more going i = elim (cases_eq i which) [
      | inl same ↦
          let here = left_here w which item (at_open w which ok there).inside in
          let fewer = one_less (woven_at w.accesses which) item (at_open w which ok there).short going in
          subst (λ n. after n ≤ before n) (sym same) (omega (arith, here, fewer))
      | inr apart ↦ others i apart
    ]

    by : (t : Bool) → is_over (woven_at w.accesses which) item ≡ t → words_left (stepped w which item) < words_left w
    by true over =
        let opens : (stepped w which item).still_open ≡ without which w.still_open = ap (λ b. cond b (without which w.still_open) w.still_open) over in
        subst (λ xs. sum_by after xs < words_left w) (sym opens)
        (one_out before after which w.still_open there.0 which others some there.1 there.2)
    by false going =
        let opens : (stepped w which item).still_open ≡ w.still_open = ap (λ b. cond b (without which w.still_open) w.still_open) going in
        let left = at_open w which ok there in
        let fewer : after which < before which = omega (arith, left_here w which item left.inside, one_less (woven_at w.accesses which) item left.short going) in
        subst (λ xs. sum_by after xs < words_left w) (sym opens)
        (less before after which w.still_open there.0 which (none_more going) fewer there.1 there.2)

-- ---- how many there are

pub few_left : (m : ModelData) (w : WeaveData) → IsModel m → IsWeave w → IsWeaveOn m w → words_left w ≤ 512
few_left m w sound ok on =
    let each : All (λ i. left_of (woven_at w.accesses i) ≤ 8) w.still_open = λ k d low.
    let i = get_or w.still_open k d in
    let v = woven_at w.accesses i in
    let one = on i no_woven (ok.left k d low).inside in
    let at = granted_is m v.access.reg v.access.map v.access.value v.place one.granted in
    omega (arith, one.words, few_words m v.place sound at.there.inside) in
    omega (arith, few_each (λ i. left_of (woven_at w.accesses i)) w.still_open each, ok.few_open, ok.few)

-- where no word is left no access is open
pub none_left : (w : WeaveData) → IsWeave w → words_left w ≤ 0 → length w.still_open ≡ 0
none_left w ok none = by w.still_open refl
  where
    by : (xs : List ℕ) → w.still_open ≡ xs → length w.still_open ≡ 0
    by [] e = ap length e
    by (x ∷ xs) e =
        let low : 0 < length w.still_open = subst (λ ys. 0 < length ys) (sym e) (omega arith) in
        let left = ok.left 0 0 low in
        let term = one_term (λ i. left_of (woven_at w.accesses i)) w.still_open 0 0 low in
        absurd (omega (arith, left.short, term, none))
