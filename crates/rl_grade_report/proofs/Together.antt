-- The sums of the shares of a grading are the totals of the whole.
use Rattle.std.proofs.Common.{◌≡◌, inl, inr, ℕ, zero, suc, ◌+◌, ◌-◌, ◌^◌, ◌<◌, ◌≤◌, min, Bool, true, false, cond, eqb, not, ◌||◌, List, [], ◌∷◌, ◌++◌, length, map, All}
use Rattle.std.proofs.Common.{Option, Some, None, Ok, get_or, refl, sym, ap, ◌∙◌, zero-add, arith}
use Rattle.std.specs.Prelude.{count_by, find, is_ok}
use Rattle.std.specs.List.{range_with_len, sum_by}
use Rattle.std.proofs.lemmas.Bool.{and_parts, cases_Bool, cases_eq, eq-eqb, eqb-true, false≢true, ne_eqb, not-false, or_parts, true≢false}
use Rattle.std.proofs.lemmas.List.Elements.{All-cons, All-head, All-nil, All-tail}
use Rattle.std.proofs.lemmas.List.Sums.{sum_by-append, sum_by-cons}
use Rattle.rl_flaw.specs.declared.flaw.Flaw.{Flaw}
use Rattle.rl_desc.specs.Data.{DescData}
use Rattle.rl_grade.specs.declared.grade.Graded.{Graded}
use Rattle.rl_grade.specs.declared.grade.Share.{Share}
use Rattle.rl_grade.specs.declared.place.Place.{Place}
use Rattle.rl_grade.specs.Parts.{EachIsInOne, WholeHasAll, part}
use Rattle.rl_grade.specs.Place.{flaws_at}
use Rattle.rl_grade.specs.Share.{graded_by, is_in_share, share_of}
use Rattle.rl_grade_report.specs.declared.asked.Asked.{Asked}
use Rattle.rl_grade_report.specs.declared.said.Head.{Head}
use Rattle.rl_grade_report.specs.declared.shares.Part.{Part}
use Rattle.rl_grade_report.specs.declared.totals.Totals.{Totals}
use Rattle.rl_grade_report.specs.declared.verdict.Judged.{Judged}
use Rattle.rl_grade_report.specs.declared.verdict.Verdict.TheVariants.{Hidden, Waived}
use Rattle.rl_grade_report.specs.Asked.{whole}
use Rattle.rl_grade_report.specs.Judging.{judged_by}
use Rattle.rl_grade_report.specs.Grading.{Base, all_judged, flaws_behind, judged_at, judged_from}
use Rattle.rl_grade_report.specs.Places.{places_of}
use Rattle.rl_grade_report.specs.Sums.{has_share, is_of, lacking_in, other_in, sum_of, sums_from, sums_unless, twice_in}
use Rattle.rl_grade_report.specs.Together.{IsCounted, SumsAreOfAll, share_totals}
use Rattle.rl_grade_report.specs.Totals.{capped}
use Rattle.rl_grade_report.specs.Verdict.{has_verdict, is_needless}
use Rattle.rl_grade_report.proofs.AddLemmas.{same_totals}

-- ---- sums over a list

capped_both : (a b sum other most : ℕ) → a ≡ min b most → min sum most ≡ min other most → min (a + sum) most ≡ min (b + other) most
capped_both a b sum other most first rest = omega arith

module _ {X : Type 0} where
  sum_none : (xs : List X) → sum_by (λ (x : X). 0) xs ≡ 0
  sum_none [] = refl
  sum_none (x ∷ xs) = omega (arith, sum_by-cons (λ (x : X). 0) x xs, sum_none xs)

  sum_same : (f g : X → ℕ) (xs : List X) → All (λ x. f x ≡ g x) xs → sum_by f xs ≡ sum_by g xs
  sum_same f g [] h = refl
  sum_same f g (x ∷ xs) h =
      let first : f x ≡ g x = All-head (λ x. f x ≡ g x) x xs h in
      omega (arith, sum_by-cons f x xs, sum_by-cons g x xs, first, sum_same f g xs (All-tail (λ x. f x ≡ g x) x xs h))

  sum_both : (f g : X → ℕ) (xs : List X) → sum_by (λ x. f x + g x) xs ≡ sum_by f xs + sum_by g xs
  sum_both f g [] = omega arith
  sum_both f g (x ∷ xs) =
      omega (arith, sum_by-cons (λ x. f x + g x) x xs, sum_by-cons f x xs, sum_by-cons g x xs, sum_both f g xs)

  sum_ones : (xs : List X) → sum_by (λ (x : X). 1) xs ≡ length xs
  sum_ones [] = refl
  sum_ones (x ∷ xs) = omega (arith, sum_by-cons (λ (x : X). 1) x xs, sum_ones xs)

  sum_map : {Y : Type 0} (f : X → ℕ) (g : Y → X) (ys : List Y) → sum_by f (map g ys) ≡ sum_by (λ y. f (g y)) ys
  sum_map f g [] = refl
  sum_map f g (y ∷ ys) =
      omega (arith, sum_by-cons f (g y) (map g ys), sum_by-cons (λ y. f (g y)) y ys, sum_map f g ys)

  sum_if : (f : X → ℕ) (b : Bool) (x : X) (xs : List X) → sum_by f (cond b (x ∷ xs) xs) ≡ cond b (f x) 0 + sum_by f xs
  sum_if f true x xs = sum_by-cons f x xs
  sum_if f false x xs = sym (zero-add (sum_by f xs))

  -- the sum of numbers that were capped, capped, is that of the numbers
  sum_capped : (f g : X → ℕ) (xs : List X) → All (λ x. f x ≡ capped (g x)) xs → capped (sum_by f xs) ≡ capped (sum_by g xs)
  sum_capped f g [] h = refl
  sum_capped f g (x ∷ xs) h =
      ap capped (sum_by-cons f x xs)
      ∙ capped_both (f x) (g x) (sum_by f xs) (sum_by g xs) (2 ^ 64 - 1) (All-head (λ x. f x ≡ capped (g x)) x xs h)
      (sum_capped f g xs (All-tail (λ x. f x ≡ capped (g x)) x xs h))
      ∙ sym (ap capped (sum_by-cons g x xs))

-- ---- one of them

once_by : (b : Bool) (p : Part) (rest : Option Part) → cond b (Some p) rest ≡ None → (b ≡ false) × (rest ≡ None)
once_by true p rest h = absurd (cc)
once_by false p rest h = (refl, h)

or_later : (a b : Bool) → a ≡ false → (a || b) ≡ true → b ≡ true
or_later true b fails h = absurd (true≢false fails)
or_later false b fails h = h

module _ (j k : ℕ) where
  -- k for the share of the number j
  abbrev of_number : Part → ℕ
  of_number p = cond (eqb p.head.share.first j) k 0

  none_sum : (ps : List Part) → has_share j ps ≡ false → sum_by of_number ps ≡ 0
  none_sum [] h = refl
  none_sum (p ∷ ps) h =
      let both = or_parts (eqb p.head.share.first j) (has_share j ps) h in
      let here : of_number p ≡ 0 = ap (λ b. cond b k 0) both.0 in
      omega (arith, sum_by-cons of_number p ps, here, none_sum ps both.1)

  one_sum : (ps : List Part) → twice_in ps ≡ None → has_share j ps ≡ true → sum_by of_number ps ≡ k
  one_sum [] once has = absurd (false≢true has)
  one_sum (p ∷ ps) once has =
      let both = once_by (has_share p.head.share.first ps) p (twice_in ps) once in
      elim (cases_Bool (eqb p.head.share.first j)) [
        | inl is ↦
            let same : p.head.share.first ≡ j = eqb-true p.head.share.first j is in
            let none : has_share j ps ≡ false = ap (λ n. has_share n ps) (sym same) ∙ both.0 in
            let here : of_number p ≡ k = ap (λ b. cond b k 0) is in
            omega (arith, sum_by-cons of_number p ps, here, none_sum ps none)
        | inr other ↦
            let later : has_share j ps ≡ true = or_later (eqb p.head.share.first j) (has_share j ps) other has in
            let here : of_number p ≡ 0 = ap (λ b. cond b k 0) other in
            omega (arith, sum_by-cons of_number p ps, here, one_sum ps both.1 later)
      ]

-- ---- the flaws

-- of each number exactly one share takes the flaw
abbrev EachOnce : List Part → Type 0
EachOnce parts = (m k : ℕ) → 0 < m → sum_by (λ p. cond (is_in_share p.head.share m) k 0) parts ≡ k

module _ (parts : List Part) (once : EachOnce parts) where
  shares_sum : (w : Flaw → ℕ) (before : ℕ) (flaws : List Flaw)
      → sum_by (λ p. sum_by w (share_of p.head.share before flaws)) parts ≡ sum_by w flaws
  shares_sum w before [] = sum_none parts
  shares_sum w before (flaw ∷ flaws) =
      let here = λ (p : Part). cond (is_in_share p.head.share (before + 1)) (w flaw) 0 in
      let rest = λ (p : Part). sum_by w (share_of p.head.share (before + 1) flaws) in
      let all = λ (p : Part). sum_by w (share_of p.head.share before (flaw ∷ flaws)) in
      let each : (p : Part) → all p ≡ here p + rest p =
      λ p. sum_if w (is_in_share p.head.share (before + 1)) flaw (share_of p.head.share (before + 1) flaws) in
      sum_same all (λ p. here p + rest p) parts (λ i d low. each (get_or parts i d)) ∙ sum_both here rest parts
      ∙ omega (arith, once (before + 1) (w flaw) (omega arith), shares_sum w (before + 1) flaws, sum_by-cons w flaw flaws)

  module _ (whole_all : WholeHasAll) (asked : Asked) (d : DescData) (base : Base) where
    abbrev with_share : Share → Asked
    with_share share = record asked { share = share }

    abbrev graded : Flaw → Graded
    graded flaw = graded_by d base.tasks base.seen flaw

    judged_sum : (w : Judged → ℕ) (flaws : List Flaw)
        → sum_by w (map (judged_by d base.waivers) (map graded flaws)) ≡ sum_by (λ flaw. w (judged_by d base.waivers (graded flaw))) flaws
    judged_sum w flaws =
        sum_map w (judged_by d base.waivers) (map graded flaws) ∙ sum_map (λ g. w (judged_by d base.waivers g)) graded flaws

    place_sum : (w : Judged → ℕ) (before : ℕ) (place : Place)
        → sum_by (λ p. sum_by w (judged_at (with_share p.head.share) d base before place)) parts
        ≡ sum_by w (judged_at (with_share whole) d base before place)
    place_sum w before place =
        let flaws = flaws_at d base.items place in
        let mine = λ (p : Part). sum_by (λ flaw. w (judged_by d base.waivers (graded flaw))) (share_of p.head.share before flaws) in
        sum_same (λ p. sum_by w (judged_at (with_share p.head.share) d base before place)) mine parts
        (λ i e low. judged_sum w (share_of (get_or parts i e).head.share before flaws))
        ∙ shares_sum (λ flaw. w (judged_by d base.waivers (graded flaw))) before flaws ∙ sym (judged_sum w flaws)
        ∙ ap (λ (fs : List Flaw). sum_by w (map (judged_by d base.waivers) (map graded fs))) (sym (whole_all before flaws))

    places_sum : (w : Judged → ℕ) (before : ℕ) (places : List Place)
        → sum_by (λ p. sum_by w (judged_from (with_share p.head.share) d base before places)) parts
        ≡ sum_by w (judged_from (with_share whole) d base before places)
    unfolding judged_from
    places_sum w before [] = sum_none parts
    places_sum w before (place ∷ places) =
        let next = flaws_behind d base before place in
        let here = λ (s : Share). judged_at (with_share s) d base before place in
        let rest = λ (s : Share). judged_from (with_share s) d base next places in
        let both = λ (p : Part). sum_by w (here p.head.share) + sum_by w (rest p.head.share) in
        sum_same (λ p. sum_by w (here p.head.share ++ rest p.head.share)) both parts
        (λ i e low. sum_by-append w (here (get_or parts i e).head.share) (rest (get_or parts i e).head.share))
        ∙ sum_both (λ p. sum_by w (here p.head.share)) (λ p. sum_by w (rest p.head.share)) parts
        ∙ omega (arith, place_sum w before place, places_sum w next places, sum_by-append w (here whole) (rest whole))

    -- those of a share
    abbrev of_share : Share → List Judged
    of_share share = all_judged (with_share share) d base

    capped_sum : (counted : Totals → ℕ) (w : Judged → ℕ)
        → All (λ p. counted p.totals ≡ capped (sum_by w (of_share p.head.share))) parts
        → capped (sum_by (λ p. counted p.totals) parts) ≡ capped (sum_by w (of_share whole))
    capped_sum counted w each =
        sum_capped (λ p. counted p.totals) (λ p. sum_by w (of_share p.head.share)) parts each
        ∙ ap capped (places_sum w 0 (places_of d.chip))

-- ---- what the checks say

found_none : {X : Type 0} (b : Bool) (x : X) (rest : Option X) → cond b (Some x) rest ≡ None → (b ≡ false) × (rest ≡ None)
found_none true x rest h = absurd (cc)
found_none false x rest h = (refl, h)

each_fails : (test : Part → Bool) (ps : List Part) → find test ps ≡ None → All (λ p. test p ≡ false) ps
each_fails test [] h = All-nil (λ p. test p ≡ false)
each_fails test (p ∷ ps) h =
    let both = found_none (test p) p (find test ps) h in
    All-cons (λ p. test p ≡ false) p ps both.0 (each_fails test ps both.1)

number_fails : (test : ℕ → Bool) (first n j : ℕ) → find test (range_with_len first n) ≡ None → first ≤ j → j < first + n → test j ≡ false
number_fails test first zero j h from low = absurd (omega (arith, from, low))
number_fails test first (suc n) j h from low =
    let both = found_none (test first) first (find test (range_with_len (first + 1) n)) h in
    elim (cases_eq first j) [
      | inl is ↦ ap test (sym is) ∙ both.0
      | inr other ↦ number_fails test (first + 1) n j both.1 (omega (arith, from, other)) (omega (arith, low))
    ]

module _ (one : EachIsInOne) where
  takes_by : (n m : ℕ) → 0 < n → 0 < m → (p : Part) → 0 < p.head.share.first → p.head.share.first ≤ n → p.head.share.every ≡ n
      → (k : ℕ) → (is_in_share (part k n) m ≡ true)
      → ((j : ℕ) → 0 < j → j ≤ n → is_in_share (part j n) m ≡ true → j ≡ k)
      → is_in_share p.head.share m ≡ eqb p.head.share.first k
  takes_by n m some number p low most every k takes alone =
      let j = p.head.share.first in
      let is : is_in_share p.head.share m ≡ is_in_share (part j n) m = ap (λ e. is_in_share (part j e) m) every in
      elim (cases_Bool (is_in_share (part j n) m)) [
        | inl taken ↦ is ∙ taken ∙ sym (eq-eqb j k (alone j low most taken))
        | inr passed ↦
            let other : j ≡ k → ⊥ =
            λ same. true≢false (sym takes ∙ ap (λ i. is_in_share (part i n) m) (sym same) ∙ passed) in
            is ∙ passed ∙ sym (ne_eqb j k other)
      ]

  module _ (asked : Asked) (d : DescData) (base : Base) where
    -- it is one of so many
    abbrev IsOneOf : ℕ → Part → Type 0
    IsOneOf n p = (0 < p.head.share.first) × (p.head.share.first ≤ n) × (p.head.share.every ≡ n)

    each_once : (n : ℕ) (parts : List Part) → 0 < n → All (IsOneOf n) parts → twice_in parts ≡ None → lacking_in n parts ≡ None
        → EachOnce parts
    each_once n parts some each twice lacking m k number =
        let of = one n m some number in
        let has : has_share of.k parts ≡ true =
        not-false (has_share of.k parts)
        (number_fails (λ i. not (has_share i parts)) 1 n of.k lacking (omega (arith, of.from_one)) (omega (arith, of.up_to_n))) in
        sum_same (λ p. cond (is_in_share p.head.share m) k 0) (of_number of.k k) parts
        (λ i e low. let h = each i e low in
        ap (λ b. cond b k 0) (takes_by n m some number (get_or parts i e) h.0 h.1 h.2 of.k of.takes of.alone))
        ∙ one_sum of.k k parts twice has

    every_is : (first : Head) (p : Part) → is_of first p ≡ true → p.head.share.every ≡ first.share.every
    every_is first p is =
        eqb-true p.head.share.every first.share.every
        (and_parts (eqb p.head.mark first.mark) (eqb p.head.share.every first.share.every) is).1

    one_of : (first : Head) (parts : List Part) → other_in first parts ≡ None → All (IsCounted asked d base) parts
        → All (IsOneOf first.share.every) parts
    one_of first parts others counted i e low =
        let p = get_or parts i e in
        let c = counted i e low in
        let is = every_is first p (not-false (is_of first p) (each_fails (λ p. not (is_of first p)) parts others i e low)) in
        (c.from_one, omega (arith, c.up_to_n, is), is)

    -- ---- together

    unless_none : (other twice : Option Part) (lacking : Option ℕ) (every : ℕ) (all sums : Totals)
        → sums_unless other twice lacking every all ≡ Ok sums → (other ≡ None) × (twice ≡ None) × (lacking ≡ None) × (all ≡ sums)
    unless_none (Some p) twice lacking every all sums h = absurd (cc)
    unless_none None (Some p) lacking every all sums h = absurd (cc)
    unless_none None None (Some number) every all sums h = absurd (cc)
    unless_none None None None every all sums h = (refl, refl, refl, cc)

    flaws_of : (share : Share) → (share_totals asked d base share).flaws ≡ capped (sum_by (λ (j : Judged). 1) (all_judged (record asked { share = share }) d base))
    flaws_of share =
        let judged = all_judged (record asked { share = share }) d base in
        ap capped (zero-add (length judged) ∙ sym (sum_ones judged))

    found_of : (share : Share) → (share_totals asked d base share).found
        ≡ capped (sum_by (λ (j : Judged). cond (is_ok j.found) 1 0) (all_judged (record asked { share = share }) d base))
    found_of share =
        ap capped (zero-add (count_by (λ (j : Judged). is_ok j.found) (all_judged (record asked { share = share }) d base)))

    hidden_of : (share : Share) → (share_totals asked d base share).hidden
        ≡ capped (sum_by (λ (j : Judged). cond (has_verdict Hidden j) 1 0) (all_judged (record asked { share = share }) d base))
    hidden_of share =
        ap capped (zero-add (count_by (λ (j : Judged). has_verdict Hidden j) (all_judged (record asked { share = share }) d base)))

    waived_of : (share : Share) → (share_totals asked d base share).waived
        ≡ capped (sum_by (λ (j : Judged). cond (has_verdict Waived j) 1 0) (all_judged (record asked { share = share }) d base))
    waived_of share =
        ap capped (zero-add (count_by (λ (j : Judged). has_verdict Waived j) (all_judged (record asked { share = share }) d base)))

    needless_of : (share : Share) → (share_totals asked d base share).needless
        ≡ capped (sum_by (λ (j : Judged). cond (is_needless j) 1 0) (all_judged (record asked { share = share }) d base))
    needless_of share =
        ap capped (zero-add (count_by (λ (j : Judged). is_needless j) (all_judged (record asked { share = share }) d base)))

    sums_by_first : WholeHasAll → (p : Part) (ps : List Part) (sums : Totals) → All (IsCounted asked d base) (p ∷ ps)
        → sums_from p.head (p ∷ ps) ≡ Ok sums → sums ≡ share_totals asked d base whole
    sums_by_first whole_all p ps sums counted is =
        let parts : List Part = p ∷ ps in
        let n = p.head.share.every in
        let none = unless_none (other_in p.head parts) (twice_in parts) (lacking_in n parts) n (sum_of parts) sums is in
        let first = All-head (IsCounted asked d base) p ps counted in
        let once = each_once n parts (omega (arith, first.from_one, first.up_to_n)) (one_of p.head parts none.0 counted) none.1 none.2 in
        let flaws = capped_sum parts once whole_all asked d base (λ t. t.flaws) (λ (j : Judged). 1)
        (λ i e low. let c = counted i e low in ap (λ (t : Totals). t.flaws) c.totals ∙ flaws_of (get_or parts i e).head.share) in
        let found = capped_sum parts once whole_all asked d base (λ t. t.found) (λ (j : Judged). cond (is_ok j.found) 1 0)
        (λ i e low. let c = counted i e low in ap (λ (t : Totals). t.found) c.totals ∙ found_of (get_or parts i e).head.share) in
        let hidden = capped_sum parts once whole_all asked d base (λ t. t.hidden) (λ (j : Judged). cond (has_verdict Hidden j) 1 0)
        (λ i e low. let c = counted i e low in ap (λ (t : Totals). t.hidden) c.totals ∙ hidden_of (get_or parts i e).head.share) in
        let waived = capped_sum parts once whole_all asked d base (λ t. t.waived) (λ (j : Judged). cond (has_verdict Waived j) 1 0)
        (λ i e low. let c = counted i e low in ap (λ (t : Totals). t.waived) c.totals ∙ waived_of (get_or parts i e).head.share) in
        let needless = capped_sum parts once whole_all asked d base (λ t. t.needless) (λ (j : Judged). cond (is_needless j) 1 0)
        (λ i e low. let c = counted i e low in ap (λ (t : Totals). t.needless) c.totals ∙ needless_of (get_or parts i e).head.share) in
        sym none.3
        ∙ same_totals _ _ _ _ _ _ _ _ _ _ (flaws ∙ sym (flaws_of whole)) (found ∙ sym (found_of whole)) (hidden ∙ sym (hidden_of whole))
        (waived ∙ sym (waived_of whole)) (needless ∙ sym (needless_of whole))

pub sums_are_of_all : EachIsInOne → WholeHasAll → SumsAreOfAll
sums_are_of_all one whole_all asked d base [] sums counted is = absurd (cc)
sums_are_of_all one whole_all asked d base (p ∷ ps) sums counted is = sums_by_first one asked d base whole_all p ps sums counted is
