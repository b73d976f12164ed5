-- Lists of regions that are apart: what comes, goes and is found.
use Rattle.std.proofs.Common.{◌≡◌, ◌⊎◌, ℕ, zero, suc, ◌+◌, ◌<◌, ◌≤◌, Bool, true, false, nat_lt, nat_le, ◌==◌, not, ◌&&◌, cond, Result}
use Rattle.std.proofs.Common.{Ok, Err, List, [], ◌∷◌, length, get_or, Option, Some, None, refl, sym, subst, inl, inr, arith}
use Rattle.std.specs.Prelude.{find, filter, insert, position, All, Any, AllPairs, IfSome, IfOk}
use Rattle.std.specs.List.{position_or_len}
use Rattle.std.proofs.lemmas.Bool.{cases_lt}
use Rattle.std.proofs.lemmas.Bool.Decides.{nat_tests}
use Rattle.std.proofs.lemmas.List.Elements.{All-nil, All-cons, All-weaker}
use Rattle.std.proofs.lemmas.List.Kept.{AllPairs-cons}
use Rattle.rl_mam.specs.declared.region.Region.{Region}
use Rattle.rl_mam.specs.Regions.{AreApart, IsIn, IsTaken, IsFirstMet, Meets, place_of, added, region_at, location_of, location_at}
use Rattle.rl_mam.specs.declared.region.RegionFault.{RegionFault}
use Rattle.rl_mam.specs.declared.region.RegionFault.TheVariants.{NoSuchRegion, OutsideRegion}

-- ---- some element

pub any_here : {X : Type 0} (P : X → Type 0) (x : X) (xs : List X) → P x → Any P (x ∷ xs)
any_here P x xs p = (0, x, omega arith, refl, p)

pub any_there : {X : Type 0} (P : X → Type 0) (x : X) (xs : List X) → Any P xs → Any P (x ∷ xs)
any_there P x xs t = let low : t.0 < length xs = t.2 in (suc t.0, t.1, omega arith, t.3, t.4)

any_at : {X : Type 0} (P : X → Type 0) (x : X) (xs : List X) (k : ℕ) (y : X) → k < length (x ∷ xs) → get_or (x ∷ xs) k y ≡ y → P y → P x ⊎ Any P xs
any_at P x xs zero y low e p = inl (subst P (sym e) p)
any_at P x xs (suc k) y low e p = inr (k, y, omega arith, e, p)

pub any_cases : {X : Type 0} (P : X → Type 0) (x : X) (xs : List X) → Any P (x ∷ xs) → P x ⊎ Any P xs
any_cases P x xs t = any_at P x xs t.0 t.1 t.2 t.3 t.4

-- ---- what the order says of each region

pub all_from : (from size : ℕ) (rs : List Region) → AreApart from size rs → All (λ r. from ≤ r.first) rs
all_from from size [] h = All-nil (λ r. from ≤ r.first)
all_from from size (r ∷ rs) h =
    let low : from ≤ r.first = h.0 in
    All-cons (λ q. from ≤ q.first) r rs h.0 (All-weaker (λ q. r.first + r.len ≤ q.first) (λ q. from ≤ q.first) (λ q later. omega arith) rs (all_from (r.first + r.len) size rs h.3))

pub all_some : (from size : ℕ) (rs : List Region) → AreApart from size rs → All (λ r. 0 < r.len) rs
all_some from size [] h = All-nil (λ r. 0 < r.len)
all_some from size (r ∷ rs) h = All-cons (λ q. 0 < q.len) r rs h.1 (all_some (r.first + r.len) size rs h.3)

pub all_inside : (from size : ℕ) (rs : List Region) → AreApart from size rs → All (λ r. r.first + r.len ≤ size) rs
all_inside from size [] h = All-nil (λ r. r.first + r.len ≤ size)
all_inside from size (r ∷ rs) h = All-cons (λ q. q.first + q.len ≤ size) r rs h.2 (all_inside (r.first + r.len) size rs h.3)

pub all_apart : (from size : ℕ) (rs : List Region) → AreApart from size rs → AllPairs (λ r q. r.first + r.len ≤ q.first) rs
all_apart from size [] h = λ i j d low high. absurd (omega arith)
all_apart from size (r ∷ rs) h = AllPairs-cons (λ a b. a.first + a.len ≤ b.first) r rs (all_from (r.first + r.len) size rs h.3) (all_apart (r.first + r.len) size rs h.3)

pub lower : (from to size : ℕ) (rs : List Region) → from ≤ to → AreApart to size rs → AreApart from size rs
lower from to size [] low h = tt
lower from to size (r ∷ rs) low h = let later : to ≤ r.first = h.0 in (omega arith, h.1, h.2, h.3)

-- ---- fewer regions

pub apart-filter : (p : Region → Bool) (from size : ℕ) (rs : List Region) → AreApart from size rs → AreApart from size (filter p rs)
apart-filter p from size [] h = tt
apart-filter p from size (r ∷ rs) h = by (p r) (apart-filter p (r.first + r.len) size rs h.3)
  where
    by : (t : Bool) → AreApart (r.first + r.len) size (filter p rs) → AreApart from size (cond t (r ∷ filter p rs) (filter p rs))
    by true more = (h.0, h.1, h.2, more)
    by false more = let low : from ≤ r.first = h.0 in lower from (r.first + r.len) size (filter p rs) (omega arith) more

-- ---- one more region

pub place_within : (p : Region → Bool) (rs : List Region) → position_or_len p rs ≤ length rs
place_within p [] = omega arith
place_within p (r ∷ rs) = by (p r) (place_within p rs)
  where
    by : (t : Bool) → position_or_len p rs ≤ length rs → cond (not t) (1 + position_or_len p rs) 0 ≤ length (r ∷ rs)
    by true more = omega arith
    by false more = omega arith

pub place_some : (p : Region → Bool) (rs : List Region) (k : ℕ) → Some k ≡ position p rs → k ≡ position_or_len p rs
place_some p rs k e = by (nat_lt (position_or_len p rs) (length rs)) e
  where
    by : (t : Bool) → Some k ≡ cond t (Some (position_or_len p rs)) None → k ≡ position_or_len p rs
    by true e = cc
    by false e = cc

pub place_none : (p : Region → Bool) (rs : List Region) → None ≡ position p rs → length rs ≡ position_or_len p rs
place_none p rs e = by (nat_lt (position_or_len p rs) (length rs)) refl e
  where
    by : (t : Bool) → nat_lt (position_or_len p rs) (length rs) ≡ t → None ≡ cond t (Some (position_or_len p rs)) None → length rs ≡ position_or_len p rs
    by true is e = cc
    by false is e =
        let most : length rs ≤ position_or_len p rs = grind (arith, nat_tests) in
        let within : position_or_len p rs ≤ length rs = place_within p rs in
        omega arith

-- the locations and each region have none in common
abbrev pub IsClear : (first len : ℕ) → List Region → Type 0
IsClear first len [] = Unit {0}
IsClear first len (r ∷ rs) = (r.first < first + len → r.first + r.len ≤ first) × IsClear first len rs

ends_before : (r s : Region) → r.first < s.first → (s.first < r.first + r.len → s.first + s.len ≤ r.first) → r.first + r.len ≤ s.first
ends_before r s before apart = by (cases_lt s.first (r.first + r.len))
  where
    by : (s.first < r.first + r.len) ⊎ (r.first + r.len ≤ s.first) → r.first + r.len ≤ s.first
    by (inl over) = let done : s.first + s.len ≤ r.first = apart over in omega arith
    by (inr clear) = clear

pub apart-added : (from size : ℕ) (r : Region) (rs : List Region) → AreApart from size rs → from ≤ r.first → 0 < r.len → r.first + r.len ≤ size → IsClear r.first r.len rs →
    AreApart from size (added r rs)
apart-added from size r [] h low some inside clear = (low, some, inside, tt)
apart-added from size r (s ∷ rs) h low some inside clear = by (nat_lt r.first s.first) refl (apart-added (s.first + s.len) size r rs h.3)
  where
    by : (t : Bool) → nat_lt r.first s.first ≡ t
        → (s.first + s.len ≤ r.first → 0 < r.len → r.first + r.len ≤ size → IsClear r.first r.len rs → AreApart (s.first + s.len) size (added r rs))
        → AreApart from size (insert (s ∷ rs) (cond (not t) (1 + place_of rs r.first) 0) r)
    by true e more =
        let before : r.first < s.first = grind (arith, nat_tests) in
        (low, some, inside, (ends_before r s before clear.0, h.1, h.2, h.3))
    by false e more =
        let behind : s.first ≤ r.first = grind (arith, nat_tests) in
        let apart : s.first < r.first + r.len → s.first + s.len ≤ r.first = clear.0 in
        let next : suc (place_of rs r.first) ≡ 1 + place_of rs r.first = omega arith in
        subst (λ n. AreApart from size (insert (s ∷ rs) n r)) next (h.0, h.1, h.2, more (apart (omega arith)) some inside clear.1)

-- ---- taken locations

here_free : (first len : ℕ) (r : Region) → 0 < len → 0 < r.len → ((x : ℕ) → first ≤ x → x < first + len → IsIn r x → ⊥) → r.first < first + len → r.first + r.len ≤ first
here_free first len r some full free meets = by (cases_lt first (r.first + r.len))
  where
    at : (first < r.first) ⊎ (r.first ≤ first) → first < r.first + r.len → ⊥
    at (inl behind) ends = free r.first (omega arith) meets (omega arith, omega arith)
    at (inr before) ends = free first (omega arith) (omega arith) (before, ends)

    by : (first < r.first + r.len) ⊎ (r.first + r.len ≤ first) → r.first + r.len ≤ first
    by (inl ends) = absurd (at (cases_lt first r.first) ends)
    by (inr done) = done

pub is_clear : (from size first len : ℕ) (rs : List Region) → AreApart from size rs → 0 < len → ((x : ℕ) → first ≤ x → x < first + len → IsTaken rs x → ⊥) → IsClear first len rs
is_clear from size first len [] h some free = tt
is_clear from size first len (r ∷ rs) h some free = (
  here_free first len r some h.1 (λ x low high taken. free x low high (any_here (λ q. IsIn q x) r rs taken)),
  is_clear (r.first + r.len) size first len rs h.3 some (λ x low high taken. free x low high (any_there (λ q. IsIn q x) r rs taken)),
)

pub not_taken : (first len x : ℕ) (rs : List Region) → IsClear first len rs → first ≤ x → x < first + len → IsTaken rs x → ⊥
not_taken first len x [] clear low high taken = let none : taken.0 < length {A = Region} [] = taken.2 in absurd (omega arith)
not_taken first len x (r ∷ rs) clear low high taken = by (any_cases (λ q. IsIn q x) r rs taken) (not_taken first len x rs clear.1 low high)
  where
    by : IsIn r x ⊎ IsTaken rs x → (IsTaken rs x → ⊥) → ⊥
    by (inl inside) none =
        let begins : r.first ≤ x = inside.0 in
        let ends : x < r.first + r.len = inside.1 in
        let over : r.first + r.len ≤ first = clear.0 (omega arith) in
        omega arith
    by (inr more) none = none more

-- ---- the first region met

abbrev pub is_met : (first len : ℕ) → Region → Bool
is_met first len r = nat_lt r.first (first + len) && nat_lt first (r.first + r.len)

pub first_found : (from size first len : ℕ) (rs : List Region) (r : Region) → AreApart from size rs → find (is_met first len) rs ≡ Some r → IsFirstMet rs first len r.first
first_found from size first len [] r h e = cc
first_found from size first len (s ∷ rs) r h e = by (is_met first len s) refl e (first_found (s.first + s.len) size first len rs r h.3)
  where
    met : is_met first len s ≡ true → Meets first len s
    met is = (grind (arith, nat_tests), grind (arith, nat_tests))

    not_met : is_met first len s ≡ false → Meets first len s → ⊥
    not_met is m = let begins : s.first < first + len = m.0 in let ends : first < s.first + s.len = m.1 in grind (arith, nat_tests)

    by : (t : Bool) → is_met first len s ≡ t → cond t (Some s) (find (is_met first len) rs) ≡ Some r
        → (find (is_met first len) rs ≡ Some r → IsFirstMet rs first len r.first) → IsFirstMet (s ∷ rs) first len r.first
    by true is e more =
        let same : s ≡ r = cc in
        subst (λ (q : Region). IsFirstMet (s ∷ rs) first len q.first) same (record {
          met = any_here (λ q. (q.first ≡ s.first) × Meets first len q) s rs (refl, met is);
          least = All-cons (λ q. Meets first len q → s.first ≤ q.first) s rs (λ m. omega arith)
              (All-weaker (λ q. s.first + s.len ≤ q.first) (λ q. Meets first len q → s.first ≤ q.first) (λ q later m. omega arith) rs (all_from (s.first + s.len) size rs h.3));
        })
    by false is e more =
        let there = more e in
        record {
          met = any_there (λ q. (q.first ≡ r.first) × Meets first len q) s rs there.met;
          least = All-cons (λ q. Meets first len q → r.first ≤ q.first) s rs (λ m. absurd (not_met is m)) there.least;
        }

pub none_found : (first len : ℕ) (rs : List Region) → find (is_met first len) rs ≡ None → IsClear first len rs
none_found first len [] e = tt
none_found first len (s ∷ rs) e = by (is_met first len s) refl e (none_found first len rs)
  where
    by : (t : Bool) → is_met first len s ≡ t → cond t (Some s) (find (is_met first len) rs) ≡ None
        → (find (is_met first len) rs ≡ None → IsClear first len rs) → (s.first < first + len → s.first + s.len ≤ first) × IsClear first len rs
    by true is e more = cc
    by false is e more = (λ begins. grind (arith, nat_tests), more e)

-- ---- the region that begins there

begins_there : (from size first : ℕ) (rs : List Region) (r : Region) → AreApart from size rs → Some r ≡ region_at rs first → (r.first ≡ first) × (first + r.len ≤ size)
begins_there from size first [] r h e = cc
begins_there from size first (s ∷ rs) r h e = by (s.first == first) refl e (begins_there (s.first + s.len) size first rs r h.3)
  where
    by : (t : Bool) → (s.first == first) ≡ t → Some r ≡ cond t (Some s) (region_at rs first)
        → (Some r ≡ region_at rs first → (r.first ≡ first) × (first + r.len ≤ size)) → (r.first ≡ first) × (first + r.len ≤ size)
    by true is e more =
        let same : s ≡ r = cc in
        let at : s.first ≡ first = grind (arith, nat_tests) in
        let ends : s.first + s.len ≤ size = h.2 in
        let inside : first + s.len ≤ size = omega arith in
        subst (λ (q : Region). (q.first ≡ first) × (first + q.len ≤ size)) same (at, inside)
    by false is e more = more e

pub some_first : (size first : ℕ) (rs : List Region) (o : Option Region) → AreApart 0 size rs → o ≡ region_at rs first → IfSome o (λ r. r.first ≡ first)
some_first size first rs None h e = tt
some_first size first rs (Some r) h e = (begins_there 0 size first rs r h e).0

pub some_inside : (size first : ℕ) (rs : List Region) (o : Option Region) → AreApart 0 size rs → size ≤ 65536 → o ≡ region_at rs first → IfSome o (λ r. r.first + r.len ≤ 65536)
some_inside size first rs None h small e = tt
some_inside size first rs (Some r) h small e =
    let both = begins_there 0 size first rs r h e in
    let begins : r.first ≡ first = both.0 in
    let ends : first + r.len ≤ size = both.1 in
    omega arith

pub location_none : (o : Option Region) (k count : ℕ) → None ≡ o → Err NoSuchRegion ≡ location_at o k count
location_none o k count e = subst (λ (x : Option Region). Err NoSuchRegion ≡ location_at x k count) e refl

pub location_some : (o : Option Region) (r : Region) (k count : ℕ) (x : Result ℕ RegionFault) → Some r ≡ o → x ≡ location_of r k count → x ≡ location_at o k count
location_some o r k count x e is = subst (λ (y : Option Region). x ≡ location_at y k count) e is

pub location_first : (r : Region) (first k count : ℕ) (x : Result ℕ RegionFault) → r.first ≡ first → x ≡ location_of r k count → IfOk x (λ at. at ≡ first + k)
location_first r first k count x begins is = subst (λ (y : Result ℕ RegionFault). IfOk y (λ at. at ≡ first + k)) (sym is) (by (nat_le (k + count) r.len))
  where
    by : (t : Bool) → IfOk {E = RegionFault} (cond t (Ok (r.first + k)) (Err (OutsideRegion r.len))) (λ at. at ≡ first + k)
    by true = omega arith
    by false = tt
