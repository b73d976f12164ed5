-- What is added to a weave, and what a step leaves of it.
use Rattle.std.proofs.Common.{◌≡◌, ◌⊎◌, ℕ, suc, ◌+◌, ◌<◌, ◌≤◌, Bool, true, false, not, ◌||◌, ◌==◌, eqb, ltb, cond, eq-eqb}
use Rattle.std.proofs.Common.{List, [], ◌∷◌, ◌++◌, length, get_or, set, filter, All, Some, None, refl, sym, ap, ◌∙◌, subst, inl, inr, arith}
use Rattle.std.specs.Prelude.{position, AllPairs, Contains}
use Rattle.std.specs.List.{position_or_len}
use Rattle.std.proofs.lemmas.Bool.{cases_eq, cases_lt}
use Rattle.std.proofs.lemmas.Bool.Decides.{nat_tests}
use Rattle.std.proofs.lemmas.List.{length-set, length_push, get_or-set_same, get_or-set_other, get_or_push, get_or_append_left, get_or_default}
use Rattle.std.proofs.lemmas.List.Elements.{All-push, All-set, All-filter, filter_passes}
use Rattle.std.proofs.lemmas.List.Kept.{AllPairs-filter}
use Rattle.std.proofs.lemmas.List.Quantifiers.{all_pairs_push}
use Rattle.std.proofs.lemmas.List.Sums.{prefix_len_passes}
use Rattle.rl_access.specs.declared.trace.TraceItem.{TraceItem}
use Rattle.rl_weave.specs.declared.woven.Woven.{Woven}
use Rattle.rl_access.specs.Event.{ItemFits}
use Rattle.rl_access.specs.Model.{ModelData}
use Rattle.rl_weave.specs.Access.{no_woven, woven_at, IsWovenOn}
use Rattle.rl_weave.specs.Weave.{WeaveData, HasSentNothing, IsWeave, IsLeft, appended, is_over, without, stepped}

abbrev pub weave : List Woven → List ℕ → WeaveData
weave accesses left = record { accesses = accesses; still_open = left; fresh = false }

-- ---- no access has the register

not_before : (p : Woven → Bool) (xs : List Woven) → position p xs ≡ None → length xs ≤ position_or_len p xs
not_before p xs e = by (ltb (position_or_len p xs) (length xs)) refl e
  where
    by : (t : Bool) → ltb (position_or_len p xs) (length xs) ≡ t → cond t (Some (position_or_len p xs)) None ≡ None → length xs ≤ position_or_len p xs
    by true f g = absurd cc
    by false f g = grind (arith, nat_tests)

not_same : (a b : ℕ) → not (eqb a b) ≡ true → a ≡ b → ⊥
not_same a b e same = clash (eqb a b) (eq-eqb a b same) e
  where
    clash : (t : Bool) → t ≡ true → not t ≡ true → ⊥
    clash t p q = cc

pub none_has : (reg : ℕ) (accesses : List Woven) → position (λ v. v.access.reg == reg) accesses ≡ None → All (λ v. v.access.reg ≡ reg → ⊥) accesses
none_has reg accesses e k d inside =
    let past = not_before (λ v. v.access.reg == reg) accesses e in
    not_same (get_or accesses k d).access.reg reg (prefix_len_passes (λ v. not (v.access.reg == reg)) accesses k d (omega (arith, past, inside)))

-- ---- one more

still_left : (accesses : List Woven) (v : Woven) (k : ℕ) → IsLeft accesses k → IsLeft (accesses ++ v ∷ []) k
still_left accesses v k h = record {
  inside = omega (arith, h.inside, length_push accesses v);
  short = subst (λ (u : Woven). length u.items < u.words) (sym (get_or_append_left accesses (v ∷ []) no_woven k h.inside)) h.short;
}

unsent_appended : (w : WeaveData) (v : Woven) → HasSentNothing w → length v.items ≡ 0 → HasSentNothing (appended w v)
unsent_appended w v none empty = record {
  all_open = length_push w.still_open (length w.accesses) ∙ ap (λ n. n + 1) none.all_open ∙ sym (length_push w.accesses v);
  no_items = All-push (λ u. length u.items ≡ 0) w.accesses v none.no_items empty;
}

-- nothing of a weave that isn't fresh
not_fresh : {P : Type 0} → false ≡ true → P
not_fresh e = absurd (cc)

pub weave_appended : (w : WeaveData) (v : Woven) → IsWeave w → length w.accesses < 64 → All (λ u. u.access.reg ≡ v.access.reg → ⊥) w.accesses →
    length v.items < v.words → length v.items ≡ 0 → IsWeave (appended w v)
weave_appended w v ok room apart short empty = record {
  few = omega (arith, length_push w.accesses v, room);
  apart = all_pairs_push (λ u x. u.access.reg ≡ x.access.reg → ⊥) w.accesses v ok.apart apart;
  few_open = omega (arith, length_push w.accesses v, length_push w.still_open (length w.accesses), ok.few_open);
  in_order = all_pairs_push (λ i k. i < k) w.still_open (length w.accesses) ok.in_order (λ k d inside. (ok.left k d inside).inside);
  left = All-push (IsLeft (w.accesses ++ v ∷ [])) w.still_open (length w.accesses)
      (λ k d inside. still_left w.accesses v (get_or w.still_open k d) (ok.left k d inside))
      (record {
        inside = omega (arith, length_push w.accesses v);
        short = subst (λ (u : Woven). length u.items < u.words) (sym (get_or_push w.accesses v no_woven (length w.accesses) refl)) short;
      });
  unsent = λ fresh. unsent_appended w v (ok.unsent fresh) empty;
}

-- ---- a step

pub at_open : (w : WeaveData) (which : ℕ) → IsWeave w → Contains w.still_open which → IsLeft w.accesses which
at_open w which ok there = subst (IsLeft w.accesses) there.2 (ok.left there.0 which there.1)

-- the access that a step is of isn't left among the open ones
pub apart_from : (which : ℕ) (numbers : List ℕ) → All (λ k. k ≡ which → ⊥) (without which numbers)
apart_from which numbers k d inside = not_same (get_or (without which numbers) k d) which (filter_passes (λ i. not (i == which)) numbers k d inside)

filter_shorter : (p : ℕ → Bool) (xs : List ℕ) → length (filter p xs) ≤ length xs
filter_shorter p [] = omega arith
filter_shorter p (x ∷ xs) = by (p x) (filter_shorter p xs)
  where
    by : (t : Bool) → length (filter p xs) ≤ length xs → length (cond t (x ∷ filter p xs) (filter p xs)) ≤ suc (length xs)
    by true h = omega (arith, h)
    by false h = omega (arith, h)

set_left : (accesses : List Woven) (which : ℕ) (v : Woven) (k : ℕ) → IsLeft accesses k → (k ≡ which → ⊥) → IsLeft (set accesses which v) k
set_left accesses which v k h other = record {
  inside = subst (λ n. k < n) (sym (length-set accesses which v)) h.inside;
  short = subst (λ (u : Woven). length u.items < u.words) (sym (get_or-set_other accesses which k v no_woven other)) h.short;
}

set_here : (accesses : List Woven) (which : ℕ) (v : Woven) → which < length accesses → length v.items < v.words → IsLeft (set accesses which v) which
set_here accesses which v inside short = record {
  inside = subst (λ n. which < n) (sym (length-set accesses which v)) inside;
  short = subst (λ (u : Woven). length u.items < u.words) (sym (get_or-set_same accesses which v no_woven inside)) short;
}

pub reg_kept : (accesses : List Woven) (which : ℕ) (v : Woven) (k : ℕ) (d : Woven) → which < length accesses →
    v.access.reg ≡ (woven_at accesses which).access.reg → k < length accesses →
    (get_or (set accesses which v) k d).access.reg ≡ (get_or accesses k d).access.reg
reg_kept accesses which v k d inside same low =
    elim (cases_eq k which) [
      | inl here ↦
          ap (λ n. (get_or (set accesses which v) n d).access.reg) here
          ∙ ap (λ (u : Woven). u.access.reg) (get_or-set_same accesses which v d inside)
          ∙ same
          ∙ ap (λ (u : Woven). u.access.reg) (get_or_default accesses which no_woven d inside)
          ∙ ap (λ n. (get_or accesses n d).access.reg) (sym here)
      | inr other ↦ ap (λ (u : Woven). u.access.reg) (get_or-set_other accesses which k v d other)
    ]

pub regs_apart : (accesses : List Woven) (which : ℕ) (v : Woven) → which < length accesses → v.access.reg ≡ (woven_at accesses which).access.reg →
    AllPairs (λ u x. u.access.reg ≡ x.access.reg → ⊥) accesses →
    AllPairs (λ u x. u.access.reg ≡ x.access.reg → ⊥) (set accesses which v)
regs_apart accesses which v inside same apart i j d low high e =
    let within : j < length accesses = subst (λ n. j < n) (length-set accesses which v) high in
    apart i j d low within (sym (reg_kept accesses which v i d inside same (omega (arith, low, within))) ∙ e ∙ reg_kept accesses which v j d inside same within)

-- it goes on
pub weave_kept : (w : WeaveData) (which : ℕ) (v : Woven) → IsWeave w → which < length w.accesses →
    v.access.reg ≡ (woven_at w.accesses which).access.reg → length v.items < v.words →
    IsWeave (record { accesses = set w.accesses which v; still_open = w.still_open; fresh = false })
weave_kept w which v ok inside same short = record {
  few = subst (λ n. n ≤ 64) (sym (length-set w.accesses which v)) ok.few;
  apart = regs_apart w.accesses which v inside same ok.apart;
  few_open = subst (λ n. length w.still_open ≤ n) (sym (length-set w.accesses which v)) ok.few_open;
  in_order = ok.in_order;
  left = λ k d low.
      elim (cases_eq (get_or w.still_open k d) which) [
        | inl here ↦ subst (IsLeft (set w.accesses which v)) (sym here) (set_here w.accesses which v inside short)
        | inr other ↦ set_left w.accesses which v (get_or w.still_open k d) (ok.left k d low) other
      ];
  unsent = not_fresh;
}

-- it is over
pub weave_closed : (w : WeaveData) (which : ℕ) (v : Woven) → IsWeave w → which < length w.accesses →
    v.access.reg ≡ (woven_at w.accesses which).access.reg →
    IsWeave (record { accesses = set w.accesses which v; still_open = without which w.still_open; fresh = false })
weave_closed w which v ok inside same = record {
  few = subst (λ n. n ≤ 64) (sym (length-set w.accesses which v)) ok.few;
  apart = regs_apart w.accesses which v inside same ok.apart;
  few_open = subst (λ n. length (without which w.still_open) ≤ n) (sym (length-set w.accesses which v)) (omega (arith, filter_shorter (λ i. not (i == which)) w.still_open, ok.few_open));
  in_order = AllPairs-filter (λ i k. i < k) (λ i. not (i == which)) w.still_open ok.in_order;
  left = λ k d low.
      set_left w.accesses which v (get_or (without which w.still_open) k d)
      (All-filter (λ i. not (i == which)) (IsLeft w.accesses) w.still_open ok.left k d low) (apart_from which w.still_open k d low);
  unsent = not_fresh;
}

-- ---- what a step leaves, by whether it was the last one of its access

pub stepped_over : (w : WeaveData) (which : ℕ) (v u : Woven) (item : TraceItem) (left : List ℕ) → v ≡ woven_at w.accesses which →
    is_over v item ≡ true → u ≡ record v { items = [] } → left ≡ without which w.still_open →
    weave (set w.accesses which u) left ≡ stepped w which item
stepped_over w which v u item left here over is opens =
    let x = woven_at w.accesses which in
    ap (λ (y : Woven). weave (set w.accesses which y) left) (is ∙ ap (λ (y : Woven). let z : Woven = record y { items = [] } in z) here)
    ∙ ap (weave (set w.accesses which (record x { items = [] }))) opens
    ∙ ap (λ t. weave (set w.accesses which (record x { items = cond t [] (x.items ++ item ∷ []) })) (cond t (without which w.still_open) w.still_open))
    (sym (sym (ap (λ y. is_over y item) here) ∙ over))

-- each access is on the model, with the items that it then has
pub on_kept : (m : ModelData) (accesses : List Woven) (which : ℕ) (v : Woven) → All (IsWovenOn m) accesses → IsWovenOn m v →
    All (IsWovenOn m) (set accesses which v)
on_kept m accesses which v all on = All-set (IsWovenOn m) accesses which v on all

pub on_with : (m : ModelData) (v : Woven) (items : List TraceItem) → IsWovenOn m v → All (ItemFits m.layout) items →
    IsWovenOn m (record v { items = items })
on_with m v items on fit = record { numbers = on.numbers; granted = on.granted; words = on.words; items = fit }

pub at_index : (accesses : List Woven) (which : ℕ) (v : Woven) → which < length accesses → v ≡ get_or accesses which v → v ≡ woven_at accesses which
at_index accesses which v inside e = e ∙ get_or_default accesses which v no_woven inside

-- an access that is open, as it was found
pub record IsFound (m : ModelData) (w : WeaveData) (which : ℕ) (v : Woven) : Type 0 where
  pub inside : which < length w.accesses
  pub here : v ≡ woven_at w.accesses which
  pub on : IsWovenOn m v
  pub short : length v.items < v.words

pub is_found : (m : ModelData) (w : WeaveData) (which : ℕ) (v : Woven) → IsWeave w → Contains w.still_open which → All (IsWovenOn m) w.accesses →
    v ≡ get_or w.accesses which v → IsFound m w which v
is_found m w which v ok there all e =
    let left = at_open w which ok there in
    let here = at_index w.accesses which v left.inside e in
    record {
      inside = left.inside;
      here = here;
      on = subst (IsWovenOn m) (sym here) (all which no_woven left.inside);
      short = subst (λ (u : Woven). length u.items < u.words) (sym here) left.short;
    }

-- the same of a weave that is opened, where the access is open of what it was seen as
pub found_in : (m : ModelData) (w seen : WeaveData) (which : ℕ) (v : Woven) → w ≡ seen → IsWeave w → Contains seen.still_open which → All (IsWovenOn m) seen.accesses →
    v ≡ get_or w.accesses which v → IsFound m w which v
found_in m w seen which v same ok there all e =
    is_found m w which v ok (subst (λ (x : WeaveData). Contains x.still_open which) (sym same) there) (subst (λ (x : WeaveData). All (IsWovenOn m) x.accesses) (sym same) all) e

or_second : (a b : Bool) → (a || b) ≡ false → b ≡ false
or_second true b e = absurd cc
or_second false b e = e

-- an access that isn't over has a word left
pub not_over : (v : Woven) (item : TraceItem) (items : List TraceItem) → length v.items < v.words → is_over v item ≡ false →
    items ≡ v.items ++ item ∷ [] → length items < v.words
not_over v item items short going is =
    let long : length items ≡ length v.items + 1 = ap length is ∙ length_push v.items item in
    by (cases_eq (length v.items + 1) v.words) long
  where
    clash : (t : Bool) → t ≡ true → t ≡ false → ⊥
    clash t p q = cc

    strict : (a b n : ℕ) → a < b → (a + 1 ≡ b → ⊥) → n ≡ a + 1 → n < b
    strict a b n low apart e = elim (cases_lt n b) [ inl l ↦ l | inr le ↦ absurd (apart (omega (arith, low, e, le))) ]

    by : (length v.items + 1 ≡ v.words) ⊎ (length v.items + 1 ≡ v.words → ⊥) → length items ≡ length v.items + 1 → length items < v.words
    by (inl same) long = absurd (clash (eqb (length v.items + 1) v.words) (eq-eqb (length v.items + 1) v.words same) (or_second item.answer.failed (eqb (length v.items + 1) v.words) going))
    by (inr more) long = strict (length v.items) v.words (length items) short more long

pub stepped_going : (w : WeaveData) (which : ℕ) (item : TraceItem) → is_over (woven_at w.accesses which) item ≡ false →
    weave (set w.accesses which (record (woven_at w.accesses which) { items = (woven_at w.accesses which).items ++ item ∷ [] })) w.still_open ≡ stepped w which item
stepped_going w which item going =
    let x = woven_at w.accesses which in
    ap (λ t. weave (set w.accesses which (record x { items = cond t [] (x.items ++ item ∷ []) })) (cond t (without which w.still_open) w.still_open)) (sym going)

-- a step leaves a weave
pub weave_stepped : (w : WeaveData) (which : ℕ) (item : TraceItem) → IsWeave w → Contains w.still_open which → IsWeave (stepped w which item)
weave_stepped w which item ok there = by (is_over (woven_at w.accesses which) item) refl
  where
    by : (t : Bool) → is_over (woven_at w.accesses which) item ≡ t → IsWeave (stepped w which item)
    by true over =
        let v = woven_at w.accesses which in
        let left = at_open w which ok there in
        subst IsWeave (stepped_over w which v (record v { items = [] }) item (without which w.still_open) refl over refl refl) (weave_closed w which (record v { items = [] }) ok left.inside refl)
    by false going =
        let v = woven_at w.accesses which in
        let left = at_open w which ok there in
        subst IsWeave (stepped_going w which item going)
        (weave_kept w which (record v { items = v.items ++ item ∷ [] }) ok left.inside refl (not_over v item (v.items ++ item ∷ []) left.short going refl))
