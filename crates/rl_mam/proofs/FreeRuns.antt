-- A search for the lowest free run that is long enough, or for the longest one.
use Rattle.std.proofs.Common.{◌≡◌, ◌⊎◌, ℕ, suc, ◌+◌, ◌-◌, ◌<◌, ◌≤◌, max, Bool, true, false, nat_le, cond, List, [], ◌∷◌, length}
use Rattle.std.proofs.Common.{get_or, drop, drop-cons, Result, Ok, Err, refl, sym, ap, ◌∙◌, subst, inl, inr, arith}
use Rattle.std.proofs.lemmas.Bool.{cases_lt}
use Rattle.std.proofs.lemmas.Bool.Decides.{nat_tests}
use Rattle.std.proofs.lemmas.List.{drop_all}
use Rattle.rl_mam.specs.declared.region.Region.{Region}
use Rattle.rl_mam.specs.declared.region.MamFault.{MamFault}
use Rattle.rl_mam.specs.declared.region.MamFault.TheVariants.{NoRoom}
use Rattle.rl_mam.specs.Regions.{AreApart, IsFree, IsLowestFree, IsLongestFree, RequestCause}
use Rattle.rl_mam.proofs.RegionLists.{IsClear, is_clear, not_taken}

-- what the search answers from a location on, where the longest run before it has so many locations
abbrev pub search_from : (len size from longest : ℕ) → List Region → Result ℕ MamFault
search_from len size from longest [] = cond (nat_le len (size - from)) (Ok from) (Err (NoRoom (max longest (size - from))))
search_from len size from longest (r ∷ rs) = cond (nat_le len (r.first - from)) (Ok from) (search_from len size (r.first + r.len) (max longest (r.first - from)) rs)

clear_before : (first len to size : ℕ) (rs : List Region) → first + len ≤ to → AreApart to size rs → IsClear first len rs
clear_before first len to size [] low h = tt
clear_before first len to size (r ∷ rs) low h =
    let later : to ≤ r.first = h.0 in
    ((λ begins. absurd (omega arith)), clear_before first len (r.first + r.len) size rs (omega arith) h.3)

-- ---- a run that is long enough

pub record IsLowest (len size from : ℕ) (rs : List Region) (p : ℕ) : Type 0 where
  pub later : from ≤ p
  pub inside : p + len ≤ size
  pub clear : IsClear p len rs
  pub lowest : (f : ℕ) → from ≤ f → f + len ≤ size → IsClear f len rs → p ≤ f

pub search_ok : (len size from longest : ℕ) (rs : List Region) (p : ℕ) → AreApart from size rs → from ≤ size → 0 < len → search_from len size from longest rs ≡ Ok p → IsLowest len size from rs p
search_ok len size from longest [] p h low some e = by (nat_le len (size - from)) refl e
  where
    by : (t : Bool) → nat_le len (size - from) ≡ t → cond t (Ok from) (Err (NoRoom (max longest (size - from)))) ≡ Ok p → IsLowest len size from [] p
    by true is e =
        let fits : len ≤ size - from = grind (arith, nat_tests) in
        let same : from ≡ p = cc in
        record { later = omega arith; inside = omega arith; clear = tt; lowest = λ f later inside clear. omega arith }
    by false is e = cc
search_ok len size from longest (r ∷ rs) p h low some e = by (nat_le len (r.first - from)) refl e (search_ok len size (r.first + r.len) (max longest (r.first - from)) rs p h.3 h.2 some)
  where
    by : (t : Bool) → nat_le len (r.first - from) ≡ t
        → cond t (Ok from) (search_from len size (r.first + r.len) (max longest (r.first - from)) rs) ≡ Ok p
        → (search_from len size (r.first + r.len) (max longest (r.first - from)) rs ≡ Ok p → IsLowest len size (r.first + r.len) rs p)
        → IsLowest len size from (r ∷ rs) p
    by true is e more =
        let fits : len ≤ r.first - from = grind (arith, nat_tests) in
        let begins : from ≤ r.first = h.0 in
        let ends : r.first + r.len ≤ size = h.2 in
        let same : from ≡ p = cc in
        subst (IsLowest len size from (r ∷ rs)) same (record {
          later = omega arith;
          inside = omega arith;
          clear = ((λ meets. absurd (omega arith)), clear_before from len (r.first + r.len) size rs (omega arith) h.3);
          lowest = λ f later inside clear. later;
        })
    by false is e more =
        let short : r.first - from < len = grind (arith, nat_tests) in
        let begins : from ≤ r.first = h.0 in
        let there = more e in
        let after : r.first + r.len ≤ p = there.later in
        record {
          later = omega arith;
          inside = there.inside;
          clear = ((λ meets. after), there.clear);
          lowest = λ f later inside clear.
              let apart : r.first < f + len → r.first + r.len ≤ f = clear.0 in
              there.lowest f (omega arith) inside clear.1;
        }

-- ---- no run that is long enough

pub record IsLongest (size from before : ℕ) (rs : List Region) (longest : ℕ) : Type 0 where
  pub least : before ≤ longest
  pub most : (f n : ℕ) → from ≤ f → 0 < n → f + n ≤ size → IsClear f n rs → n ≤ longest
  pub reached : (longest ≡ before) ⊎ ((f : ℕ) × (from ≤ f) × (f + longest ≤ size) × IsClear f longest rs)

abbrev pub NoneFits : (len size from before : ℕ) → List Region → MamFault → Type 0
NoneFits len size from before rs e = (longest : ℕ) × (e ≡ NoRoom longest) × (longest < len) × IsLongest size from before rs longest

max_cases : (a b : ℕ) → ((max a b ≡ a) × (b ≤ a)) ⊎ ((max a b ≡ b) × (a ≤ b))
max_cases a b = by (cases_lt a b)
  where
    by : (a < b) ⊎ (b ≤ a) → ((max a b ≡ a) × (b ≤ a)) ⊎ ((max a b ≡ b) × (a ≤ b))
    by (inl low) = inr (omega arith, omega arith)
    by (inr low) = inl (omega arith, low)

last_longest : (size from before : ℕ) → from ≤ size → IsLongest size from before [] (max before (size - from))
last_longest size from before low = record { least = omega arith; most = λ f n later some inside clear. omega arith; reached = by (max before (size - from)) (max_cases before (size - from)) }
  where
    by : (longest : ℕ) → ((longest ≡ before) × (size - from ≤ before)) ⊎ ((longest ≡ size - from) × (before ≤ size - from)) → (longest ≡ before) ⊎ ((f : ℕ) × (from ≤ f) × (f + longest ≤ size) ×
        IsClear f longest [])
    by longest (inl old) = inl old.0
    by longest (inr new) = let e : longest ≡ size - from = new.0 in inr (from, omega arith, omega arith, tt)

more_most : (size from before : ℕ) (r : Region) (rs : List Region) (longest : ℕ) → AreApart from size (r ∷ rs) → IsLongest size (r.first + r.len) (max before (r.first - from)) rs longest
    → (f n : ℕ) → from ≤ f → 0 < n → f + n ≤ size → IsClear f n (r ∷ rs) → n ≤ longest
more_most size from before r rs longest h there f n later some inside clear = by (cases_lt r.first (f + n))
  where
    by : (r.first < f + n) ⊎ (f + n ≤ r.first) → n ≤ longest
    by (inl meets) = there.most f n (clear.0 meets) some inside clear.1
    by (inr short) = let l : max before (r.first - from) ≤ longest = there.least in omega arith

more_reached : (size from before : ℕ) (r : Region) (rs : List Region) (longest m : ℕ) → AreApart from size (r ∷ rs) → ((m ≡ before) × (r.first - from ≤ before)) ⊎ ((m ≡ r.first - from) ×
    (before ≤ r.first - from))
    → (longest ≡ m) ⊎ ((f : ℕ) × (r.first + r.len ≤ f) × (f + longest ≤ size) × IsClear f longest rs)
    → (longest ≡ before) ⊎ ((f : ℕ) × (from ≤ f) × (f + longest ≤ size) × IsClear f longest (r ∷ rs))
more_reached size from before r rs longest m h (inl old) (inl e) = let k : m ≡ before = old.0 in inl (e ∙ k)
more_reached size from before r rs longest m h (inr here) (inl e) =
    let k : m ≡ r.first - from = here.0 in
    let begins : from ≤ r.first = h.0 in
    let ends : r.first + r.len ≤ size = h.2 in
    inr (from, omega arith, omega arith, ((λ meets. absurd (omega arith)), clear_before from longest (r.first + r.len) size rs (omega arith) h.3))
more_reached size from before r rs longest m h either (inr run) =
    let begins : from ≤ r.first = h.0 in
    let after : r.first + r.len ≤ run.0 = run.1 in
    inr (run.0, omega arith, run.2, ((λ meets. after), run.3))

more_longest : (size from before : ℕ) (r : Region) (rs : List Region) (longest : ℕ) → AreApart from size (r ∷ rs) → IsLongest size (r.first + r.len) (max before (r.first - from)) rs longest →
    IsLongest size from before (r ∷ rs) longest
more_longest size from before r rs longest h there = record {
  least = (let l : max before (r.first - from) ≤ longest = there.least in omega arith);
  most = more_most size from before r rs longest h there;
  reached = more_reached size from before r rs longest (max before (r.first - from)) h (max_cases before (r.first - from)) there.reached;
}

pub search_err : (len size from before : ℕ) (rs : List Region) (e : MamFault) → AreApart from size rs → from ≤ size → before < len → search_from len size from before rs ≡ Err e →
    NoneFits len size from before rs e
search_err len size from before [] e h low short is = by (nat_le len (size - from)) refl is
  where
    by : (t : Bool) → nat_le len (size - from) ≡ t → cond t (Ok from) (Err (NoRoom (max before (size - from)))) ≡ Err e → NoneFits len size from before [] e
    by true test is = cc
    by false test is =
        let over : size - from < len = grind (arith, nat_tests) in
        (max before (size - from), cc, omega arith, last_longest size from before low)
search_err len size from before (r ∷ rs) e h low short is = by (nat_le len (r.first - from)) refl is (search_err len size (r.first + r.len) (max before (r.first - from)) rs e h.3 h.2)
  where
    by : (t : Bool) → nat_le len (r.first - from) ≡ t
        → cond t (Ok from) (search_from len size (r.first + r.len) (max before (r.first - from)) rs) ≡ Err e
        → (max before (r.first - from) < len → search_from len size (r.first + r.len) (max before (r.first - from)) rs ≡ Err e → NoneFits len size (r.first + r.len) (max before (r.first - from)) rs e)
        → NoneFits len size from before (r ∷ rs) e
    by true test is more = cc
    by false test is more =
        let over : r.first - from < len = grind (arith, nat_tests) in
        let there = more (omega arith) is in
        (there.0, there.1, there.2, more_longest size from before r rs there.0 h there.3)

-- ---- in words of locations

pub lowest_free : (len size : ℕ) (rs : List Region) (p : ℕ) → AreApart 0 size rs → 0 < len → search_from len size 0 0 rs ≡ Ok p → IsLowestFree size rs len p
lowest_free len size rs p h some e =
    let found = search_ok len size 0 0 rs p h (omega arith) some e in
    record {
      fits = record { inside = found.inside; free = λ x low high. not_taken p len x rs found.clear low high };
      lowest = λ f free. found.lowest f (omega arith) free.inside (is_clear 0 size f len rs h some free.free);
    }

most_run : (size : ℕ) (rs : List Region) (longest : ℕ) → AreApart 0 size rs → IsLongest size 0 0 rs longest → (f n : ℕ) → IsFree size rs f n → n ≤ longest
most_run size rs longest h found f n free = by (cases_lt 0 n)
  where
    by : (0 < n) ⊎ (n ≤ 0) → n ≤ longest
    by (inl some) = found.most f n (omega arith) some free.inside (is_clear 0 size f n rs h some free.free)
    by (inr none) = omega arith

longest_run : (size : ℕ) (rs : List Region) (longest : ℕ) → AreApart 0 size rs → IsLongest size 0 0 rs longest → IsLongestFree size rs longest
longest_run size rs longest h found = by found.reached
  where
    by : (longest ≡ 0) ⊎ ((f : ℕ) × (0 ≤ f) × (f + longest ≤ size) × IsClear f longest rs) → IsLongestFree size rs longest
    by (inl none) = record { first = 0; run = record { inside = omega arith; free = λ x low high. absurd (omega arith) }; most = most_run size rs longest h found }
    by (inr run) = record { first = run.0; run = record { inside = run.2; free = λ x low high. not_taken run.0 longest x rs run.3 low high }; most = most_run size rs longest h found }

pub no_room : (len size : ℕ) (rs : List Region) (e : MamFault) → AreApart 0 size rs → 0 < len → search_from len size 0 0 rs ≡ Err e → RequestCause size rs len e
no_room len size rs e h some is =
    let found = search_err len size 0 0 rs e h (omega arith) some is in
    subst (RequestCause size rs len) (sym found.1) (found.2, longest_run size rs found.0 h found.3)

-- ---- the search over the regions that are left

pub hit_before : (len size from longest : ℕ) (rs : List Region) (i : ℕ) (d : Region) → i < length rs → len ≤ (get_or rs i d).first - from → search_from len size from longest (drop i rs) ≡ Ok from
hit_before len size from longest rs i d low fits =
    let test : nat_le len ((get_or rs i d).first - from) ≡ true = grind (arith, nat_tests) in
    ap (search_from len size from longest) (drop-cons rs i d low)
    ∙ ap (λ t. cond t (Ok from) (search_from len size ((get_or rs i d).first + (get_or rs i d).len) (max longest ((get_or rs i d).first - from)) (drop (suc i) rs))) test

pub hit_last : (len size from longest : ℕ) (rs : List Region) (i : ℕ) → length rs ≤ i → len ≤ size - from → search_from len size from longest (drop i rs) ≡ Ok from
hit_last len size from longest rs i all fits =
    let test : nat_le len (size - from) ≡ true = grind (arith, nat_tests) in
    ap (search_from len size from longest) (drop_all i rs all)
    ∙ ap (λ t. cond t (Ok from) (Err (NoRoom (max longest (size - from))))) test

pub none_hit : (len size from longest : ℕ) (rs : List Region) (i : ℕ) → length rs ≤ i → size - from < len → search_from len size from longest (drop i rs) ≡ Err (NoRoom (max longest (size - from)))
none_hit len size from longest rs i all over =
    let test : nat_le len (size - from) ≡ false = grind (arith, nat_tests) in
    ap (search_from len size from longest) (drop_all i rs all)
    ∙ ap (λ t. cond t (Ok from) (Err (NoRoom (max longest (size - from))))) test
