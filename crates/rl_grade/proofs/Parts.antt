-- The shares of a count take each flaw once between them.
use Rattle.std.proofs.Common.{◌≡◌, ℕ, ◌+◌, ◌-◌, ◌*◌, ◌/◌, ◌%◌, ◌<◌, ◌≤◌, zero, suc, Bool, true, false, ◌&&◌, ◌==◌, if◌then◌else◌, List, [], ◌∷◌, ◌++◌, length, Some}
use Rattle.std.proofs.Common.{refl, sym, ap, subst, ◌∙◌, arith}
use Rattle.std.specs.Prelude.{Contains, nat_le, slice_get}
use Rattle.std.proofs.lemmas.Bool.{and_parts, eq-eqb, eqb-true, le-leb, leb-true}
use Rattle.std.proofs.lemmas.Nat.{mod_below, mod-mul-add}
use Rattle.std.proofs.Math.Nat.{mod-add-div'}
use Rattle.rl_flaw.specs.declared.flaw.Flaw.{Flaw}
use Rattle.rl_grade.specs.declared.grade.Share.{Share}
use Rattle.rl_grade.specs.Parts.{EachIsInOne, HasNumberIn, IsByNumber, IsInOne, PlacesAddUp, ShareIsByNumber, WholeHasAll, part}
use Rattle.rl_grade.specs.Share.{is_in_share, share_of}

both_true : (a b : Bool) → a ≡ true → b ≡ true → (a && b) ≡ true
both_true true b p q = q
both_true false b p q = absurd cc

-- ---- which share

takes_if : (first every number : ℕ) → first ≤ number → (number - first) % every ≡ 0 → is_in_share (part first every) number ≡ true
takes_if first every number low whole = both_true (nat_le first number) _ (le-leb first number low) (eq-eqb ((number - first) % every) 0 whole)

-- a number that is so many times n behind share j's first
behind_by : (j n number : ℕ) → 0 < j → j ≤ n → is_in_share (part j n) number ≡ true → (number - 1) % n ≡ j - 1
behind_by j n number some most takes =
    let parts = and_parts (nat_le j number) ((number - j) % n == 0) takes in
    let low : j ≤ number = leb-true j number parts.0 in
    let whole : (number - j) % n ≡ 0 = eqb-true ((number - j) % n) 0 parts.1 in
    let q = (number - j) / n in
    let times : (number - j) % n + q * n ≡ number - j = mod-add-div' (number - j) n in
    let is : number - 1 ≡ q * n + (j - 1) = omega (arith, low, whole, times, some) in
    ap (λ m. m % n) is ∙ mod-mul-add q n (j - 1) (omega (arith, some, most))

pub in_one : EachIsInOne
in_one n number some first =
    let r = (number - 1) % n in
    let q = (number - 1) / n in
    let below : r < n = mod_below (number - 1) n some in
    let times : r + q * n ≡ number - 1 = mod-add-div' (number - 1) n in
    let rest : number - (r + 1) ≡ q * n + 0 = omega (arith, times, first) in
    record {
      k = r + 1;
      from_one = omega arith;
      up_to_n = omega (arith, below);
      takes = takes_if (r + 1) n number (omega (arith, times, first)) (ap (λ m. m % n) rest ∙ mod-mul-add q n 0 some);
      alone = λ j low most takes. let is : r ≡ j - 1 = behind_by j n number low most takes in omega (arith, is, low);
    }

-- ---- which flaws

one_takes : (before : ℕ) → is_in_share (part 1 1) (before + 1) ≡ true
one_takes before =
    let none : (before + 1 - 1) % 1 ≡ 0 = omega arith in takes_if 1 1 (before + 1) (omega arith) none

pub whole_has_all : WholeHasAll
whole_has_all before [] = refl
whole_has_all before (flaw ∷ flaws) =
    let others = share_of (part 1 1) (before + 1) flaws in
    ap (λ b. if b then flaw ∷ others else others) (one_takes before) ∙ ap (λ fs. flaw ∷ fs) (whole_has_all (before + 1) flaws)

add_if : (b : Bool) (flaw : Flaw) (all first others : List Flaw) → all ≡ first ++ others
    → (if b then flaw ∷ all else all) ≡ (if b then flaw ∷ first else first) ++ others
add_if true flaw all first others is = ap (λ fs. flaw ∷ fs) is
add_if false flaw all first others is = is

pub places_add_up : PlacesAddUp
places_add_up share before [] others = let none : before ≡ before + 0 = omega arith in ap (λ n. share_of share n others) none
places_add_up share before (flaw ∷ first) others =
    let next : before + 1 + length first ≡ before + length (flaw ∷ first) = omega arith in
    add_if (is_in_share share (before + 1)) flaw (share_of share (before + 1) (first ++ others)) (share_of share (before + 1) first)
    (share_of share (before + length (flaw ∷ first)) others)
    (places_add_up share (before + 1) first others ∙ ap (λ n. share_of share (before + 1) first ++ share_of share n others) next)

module _ (share : Share) where
  first_number : (before : ℕ) → is_in_share share (before + 1) ≡ is_in_share share (before + 0 + 1)
  first_number before = let same : before + 1 ≡ before + 0 + 1 = omega arith in ap (is_in_share share) same

  next_number : (before at : ℕ) → is_in_share share (before + 1 + at + 1) ≡ is_in_share share (before + suc at + 1)
  next_number before at = let same : before + 1 + at + 1 ≡ before + suc at + 1 = omega arith in ap (is_in_share share) same

  later : (before : ℕ) (f : Flaw) (flaws : List Flaw) (flaw : Flaw) → HasNumberIn share (before + 1) flaws flaw → HasNumberIn share before (f ∷ flaws) flaw
  later before f flaws flaw h =
      record { at = suc h.at; there = h.there; takes = sym (next_number before h.at) ∙ h.takes }

  taken_by : (before : ℕ) (f : Flaw) (flaws : List Flaw) (flaw : Flaw) (b : Bool) → is_in_share share (before + 1) ≡ b
      → (Contains (share_of share (before + 1) flaws) flaw → HasNumberIn share (before + 1) flaws flaw)
      → Contains (if b then f ∷ share_of share (before + 1) flaws else share_of share (before + 1) flaws) flaw → HasNumberIn share before (f ∷ flaws) flaw
  taken_by before f flaws flaw true takes rest (zero, low, is) =
      record { at = 0; there = ap Some is; takes = sym (first_number before) ∙ takes }
  taken_by before f flaws flaw true takes rest (suc k, low, is) = later before f flaws flaw (rest (k, omega (arith, low), is))
  taken_by before f flaws flaw false takes rest has = later before f flaws flaw (rest has)

  pub taken : (before : ℕ) (flaws : List Flaw) (flaw : Flaw) → Contains (share_of share before flaws) flaw → HasNumberIn share before flaws flaw
  taken before [] flaw (k, low, is) = absurd (omega (arith, low))
  taken before (f ∷ flaws) flaw has =
      taken_by before f flaws flaw (is_in_share share (before + 1)) refl (taken (before + 1) flaws flaw) has

  behind_one : (f flaw : Flaw) (flaws : List Flaw) → Contains flaws flaw → Contains (f ∷ flaws) flaw
  behind_one f flaw flaws (k, low, is) = (suc k, omega (arith, low), is)

  has_if : (b : Bool) (f flaw : Flaw) (flaws : List Flaw) → Contains flaws flaw → Contains (if b then f ∷ flaws else flaws) flaw
  has_if true f flaw flaws has = behind_one f flaw flaws has
  has_if false f flaw flaws has = has

  has_first : (b : Bool) (f flaw : Flaw) (flaws : List Flaw) → b ≡ true → f ≡ flaw → Contains (if b then f ∷ flaws else flaws) flaw
  has_first true f flaw flaws so is = (0, omega arith, is)
  has_first false f flaw flaws so is = absurd cc

  pub takes : (before : ℕ) (flaws : List Flaw) (flaw : Flaw) (at : ℕ) → slice_get flaws at ≡ Some flaw → is_in_share share (before + at + 1) ≡ true
      → Contains (share_of share before flaws) flaw
  takes before [] flaw at there so = absurd cc
  takes before (f ∷ flaws) flaw zero there so =
      has_first (is_in_share share (before + 1)) f flaw (share_of share (before + 1) flaws) (first_number before ∙ so) cc
  takes before (f ∷ flaws) flaw (suc at) there so =
      has_if (is_in_share share (before + 1)) f flaw (share_of share (before + 1) flaws) (takes (before + 1) flaws flaw at there (next_number before at ∙ so))

pub share_is_by_number : ShareIsByNumber
share_is_by_number share before flaws flaw =
    record { taken = taken share before flaws flaw; takes = λ h. takes share before flaws flaw h.at h.there h.takes }
