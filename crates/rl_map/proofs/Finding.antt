-- The refusals for shared addresses, in the order of places, are the first clash.
use Rattle.std.proofs.Common.{◌≡◌, ℕ, zero, suc, ◌+◌, ◌<◌, ◌≤◌, ◌⊎◌, inl, inr, Bool, true, false, ◌==◌, ◌&&◌, cond, nat_lt, List, [], ◌∷◌, ◌++◌, length}
use Rattle.std.proofs.Common.{get_or, map, Option, Some, None, is_some, unwrap_or, refl, sym, ap, ◌∙◌, subst, arith, eqb-true, eq-eqb, length-append}
use Rattle.std.specs.Prelude.{All, filter, flat_map, fold, min, option_map, position, IsPermutation}
use Rattle.std.specs.List.{range_with_len, AllByRecursion}
use Rattle.std.proofs.Math.Nat.{min-eq_left, min-eq_right}
use Rattle.std.proofs.Math.ListN.{get_or-map}
use Rattle.std.proofs.Math.Seq.{get_or-append_seam}
use Rattle.std.proofs.lemmas.Bool.{cases_lt}
use Rattle.std.proofs.lemmas.List.{get_or_append_left}
use Rattle.std.proofs.lemmas.List.Sums.{position_or_len_is}
use Rattle.std.proofs.lemmas.List.Quantifiers.{position-Some}
use Rattle.rl_model.specs.declared.fault.Array.TheVariants as array
use Rattle.rl_model.specs.declared.fault.Spot.{Spot}
use Rattle.rl_model.specs.Rules.{or_else}
use Rattle.rl_map.specs.declared.fault.MapCause.{MapCause}
use Rattle.rl_map.specs.declared.fault.MapCause.TheVariants.{SharedAddress, TooMany}
use Rattle.rl_map.specs.declared.fault.MapFault.{MapFault}
use Rattle.rl_map.specs.declared.fault.MapFault.TheVariants.{Bad}
use Rattle.rl_map.specs.declared.rows.PlaceRow.{PlaceRow}
use Rattle.rl_map.specs.declared.shared.Shared.{Shared}
use Rattle.rl_map.specs.Layout.{LayoutData, no_place, place_at, IsLocation, IsRowOf}
use Rattle.rl_map.specs.Maps.{all_rows}
use Rattle.rl_map.specs.Faults.{Placed, address_in, stands_on, clash, sharer, addresses_of, least, shared, first_of, row_at}
use Rattle.rl_map.specs.Steps.{shared_check, shared_faults}
use Rattle.rl_map.specs.Building.{placed_in}
use Rattle.rl_map.specs.Clashes.{NotAfter, IsMade, IsLeast}
use Rattle.rl_map.proofs.Lists.{filter_none, all_flat, append_twice, mapped_length}
use Rattle.rl_map.proofs.Sorting.{some_row}
use Rattle.rl_map.proofs.Sound.{IsTested}
use Rattle.rl_map.proofs.Sharing.{placed_of, may_not_both, Shares, StandsAt, word_at_byte, byte_at_word, stands_from, stands_to, shares_least, made_shares}
use Rattle.rl_map.proofs.Bools.{and_true, at_zero, both, lt_false, lt_true, not_true, some_is}

-- ---- positions

position_at : {X : Type 0} (p : X → Bool) (xs : List X) (i : ℕ) (d : X) → i < length xs → ((k : ℕ) → k < i → p (get_or xs k d) ≡ false) → p (get_or xs i d) ≡ true → position p xs ≡ Some i
position_at p xs i d low before here =
    let at = position_or_len_is p xs i d (omega arith) before (λ q. here) in
    ap (λ n. cond (nat_lt n (length xs)) (Some n) None) at ∙ ap (λ t. cond t (Some i) None) (lt_true i (length xs) low)

position_nowhere : {X : Type 0} (p : X → Bool) (xs : List X) (d : X) → ((k : ℕ) → k < length xs → p (get_or xs k d) ≡ false) → position p xs ≡ None
position_nowhere p xs d h =
    let at = position_or_len_is p xs (length xs) d (omega arith) h (λ q. absurd (omega arith)) in
    ap (λ n. cond (nat_lt n (length xs)) (Some n) None) at ∙ ap (λ t. cond t (Some (length xs)) None) (lt_false (length xs) (length xs) (omega arith))

-- ---- the least of those that pass

abbrev IsIn : ℕ → List ℕ → Type 0
IsIn a [] = ⊥
IsIn a (x ∷ xs) = (a ≡ x) ⊎ IsIn a xs

in_left : (a : ℕ) (xs ys : List ℕ) → IsIn a xs → IsIn a (xs ++ ys)
in_left a [] ys h = absurd h
in_left a (x ∷ xs) ys (inl e) = inl e
in_left a (x ∷ xs) ys (inr h) = inr (in_left a xs ys h)

in_right : (a : ℕ) (xs ys : List ℕ) → IsIn a ys → IsIn a (xs ++ ys)
in_right a [] ys h = h
in_right a (x ∷ xs) ys h = inr (in_right a xs ys h)

in_mapped : (f : ℕ → ℕ) (first n j : ℕ) → j < n → IsIn (f (first + j)) (map f (range_with_len first n))
in_mapped f first zero j low = absurd (omega arith)
in_mapped f first (suc n) zero low = inl (ap f (let e : first + 0 ≡ first = omega arith in e))
in_mapped f first (suc n) (suc j) low =
    inr (subst (λ k. IsIn (f k) (map f (range_with_len (first + 1) n))) (let e : first + 1 + j ≡ first + suc j = omega arith in e) (in_mapped f (first + 1) n j (omega arith)))

in_flat : (f : ℕ → List ℕ) (a first n i : ℕ) → i < n → IsIn a (f (first + i)) → IsIn a (flat_map f (range_with_len first n))
in_flat f a first zero i low h = absurd (omega arith)
in_flat f a first (suc n) zero low h = in_left a (f first) (flat_map f (range_with_len (first + 1) n)) (subst (λ k. IsIn a (f k)) (let e : first + 0 ≡ first = omega arith in e) h)
in_flat f a first (suc n) (suc i) low h =
    in_right a (f first) (flat_map f (range_with_len (first + 1) n))
    (in_flat f a (first + 1) n i (omega arith) (subst (λ k. IsIn a (f k)) (let e : first + suc i ≡ first + 1 + i = omega arith in e) h))

all_mapped : (f : ℕ → ℕ) (P : ℕ → Type 0) (first n : ℕ) → ((j : ℕ) → j < n → P (f (first + j))) → AllByRecursion P (map f (range_with_len first n))
all_mapped f P first zero h = tt
all_mapped f P first (suc n) h = (
  subst (λ k. P (f k)) (let e : first + 0 ≡ first = omega arith in e) (h 0 (omega arith)),
  all_mapped f P (first + 1) n (λ j low. subst (λ k. P (f k)) (let e : first + suc j ≡ first + 1 + j = omega arith in e) (h (suc j) (omega arith))),
)

all_addresses : (p : Placed) (P : ℕ → Type 0) → ((i j : ℕ) → i < p.row.size → j < p.row.bytes → P (address_in p i j)) → AllByRecursion P (addresses_of p)
all_addresses p P h =
    all_flat (λ i. map (address_in p i) (range_with_len 0 p.row.bytes)) P 0 p.row.size (λ i low_i.
    subst (λ k. AllByRecursion P (map (address_in p k) (range_with_len 0 p.row.bytes))) (sym (at_zero i))
    (all_mapped (address_in p i) P 0 p.row.bytes (λ j low_j. subst (λ k. P (address_in p i k)) (sym (at_zero j)) (h i j low_i low_j))))

in_addresses : (p : Placed) (i j : ℕ) → i < p.row.size → j < p.row.bytes → IsIn (address_in p i j) (addresses_of p)
in_addresses p i j low_i low_j =
    in_flat (λ i. map (address_in p i) (range_with_len 0 p.row.bytes)) (address_in p i j) 0 p.row.size i low_i
    (subst (λ k. IsIn (address_in p i j) (map (address_in p k) (range_with_len 0 p.row.bytes))) (sym (at_zero i))
    (subst (λ k. IsIn (address_in p i k) (map (address_in p i) (range_with_len 0 p.row.bytes))) (at_zero j) (in_mapped (address_in p i) 0 p.row.bytes j low_j)))

filter_in : (T : ℕ → Bool) (xs : List ℕ) (a : ℕ) → IsIn a xs → T a ≡ true → IsIn a (filter T xs)
filter_in T [] a h e = absurd h
filter_in T (x ∷ xs) a (inl f) e = subst (λ t. IsIn a (cond t (x ∷ filter T xs) (filter T xs))) (sym (ap T (sym f) ∙ e)) (inl f)
filter_in T (x ∷ xs) a (inr h) e = by (T x) (filter_in T xs a h e)
  where
    by : (t : Bool) → IsIn a (filter T xs) → IsIn a (cond t (x ∷ filter T xs) (filter T xs))
    by true g = inr g
    by false g = g

filter_least : (T : ℕ → Bool) (xs : List ℕ) (a : ℕ) → AllByRecursion (λ x. T x ≡ true → a ≤ x) xs → AllByRecursion (λ x. a ≤ x) (filter T xs)
filter_least T [] a h = tt
filter_least T (x ∷ xs) a h = by (T x) refl (filter_least T xs a h.1)
  where
    by : (t : Bool) → T x ≡ t → AllByRecursion (λ x. a ≤ x) (filter T xs) → AllByRecursion (λ x. a ≤ x) (cond t (x ∷ filter T xs) (filter T xs))
    by true e g = (h.0 e, g)
    by false e g = g

fold_is : (a x : ℕ) (xs : List ℕ) → IsIn a (x ∷ xs) → a ≤ x → AllByRecursion (λ y. a ≤ y) xs → fold min x xs ≡ a
fold_is a x [] (inl e) low h = sym e
fold_is a x [] (inr g) low h = absurd g
fold_is a x (y ∷ ys) (inl e) low h =
    fold_is a (min x y) ys (inl (e ∙ sym (min-eq_left (let f : x ≤ y = omega (arith, e, h.0) in f)))) (let f : min x y ≡ x = min-eq_left (omega (arith, e, h.0)) in omega (arith, f, e)) h.1
fold_is a x (y ∷ ys) (inr (inl e)) low h =
    let f : min x y ≡ y = min-eq_right (omega (arith, e, low)) in
    fold_is a (min x y) ys (inl (e ∙ sym f)) (omega (arith, f, e)) h.1
fold_is a x (y ∷ ys) (inr (inr g)) low h = fold_is a (min x y) ys (inr g) (min_above a x y low h.0) h.1
  where
    min_above : (a x y : ℕ) → a ≤ x → a ≤ y → a ≤ min x y
    min_above a x y p q = elim (cases_lt x y) [
      | inl r ↦ let f : min x y ≡ x = min-eq_left (omega arith) in omega (arith, f, p)
      | inr r ↦ let f : min x y ≡ y = min-eq_right (omega arith) in omega (arith, f, q)
    ]

least_is : (xs : List ℕ) (a : ℕ) → IsIn a xs → AllByRecursion (λ x. a ≤ x) xs → least xs ≡ Some a
least_is [] a h low = absurd h
least_is (x ∷ xs) a h low = ap Some (fold_is a x xs h low.0 low.1)

-- ---- the earlier places that share an address with a place

abbrev tests : LayoutData → (p q address : ℕ) → Bool
tests l p q address = clash (placed_of l q) (placed_of l p) && stands_on address (placed_of l q)

to_shares : (l : LayoutData) → IsTested l → (p q address : ℕ) → q < p → p < length l.places → tests l p q address ≡ true → StandsAt l p address → Shares l p q address
to_shares l t p q address less low e later =
    let h = and_true (clash (placed_of l q) (placed_of l p)) (stands_on address (placed_of l q)) e in
    let c = and_true ((place_at l q).port == (place_at l p).port) (may_not_both (place_at l q) (place_at l p)) h.0 in
    record {
      less = less;
      later_in = low;
      port = eqb-true (place_at l q).port (place_at l p).port c.0;
      may_not = c.1;
      earlier = stands_from l t q address (omega arith) h.1;
      later = later;
    }

from_shares : (l : LayoutData) → IsTested l → (p q address : ℕ) → Shares l p q address → tests l p q address ≡ true
from_shares l t p q address s =
    both (clash (placed_of l q) (placed_of l p)) (stands_on address (placed_of l q))
    (both ((place_at l q).port == (place_at l p).port) (may_not_both (place_at l q) (place_at l p)) (eq-eqb (place_at l q).port (place_at l p).port s.port) s.may_not)
    (stands_to l t q address s.earlier)

-- the places before one
pub record AreBefore (l : LayoutData) (earlier : List PlaceRow) (p : ℕ) : Type 0 where
  pub many : length earlier ≡ p
  pub each : (q : ℕ) → q < p → get_or earlier q no_place ≡ place_at l q
  pub inside : p < length l.places

placed_at_q : (l : LayoutData) (earlier : List PlaceRow) (p q : ℕ) → AreBefore l earlier p → q < p
    → get_or (map (placed_in l.maps l.ports) earlier) q (placed_in l.maps l.ports no_place) ≡ placed_of l q
placed_at_q l earlier p q b low = get_or-map (placed_in l.maps l.ports) earlier q no_place ∙ ap (placed_in l.maps l.ports) (b.each q low)

sharer_none : (l : LayoutData) (earlier : List PlaceRow) (p address : ℕ) → AreBefore l earlier p → ((q : ℕ) → q < p → tests l p q address ≡ false)
    → sharer (map (placed_in l.maps l.ports) earlier) (placed_of l p) address ≡ None
sharer_none l earlier p address b h =
    let E = map (placed_in l.maps l.ports) earlier in
    let long : length E ≡ p = mapped_length (placed_in l.maps l.ports) earlier ∙ b.many in
    position_nowhere (λ q. clash q (placed_of l p) && stands_on address q) E (placed_in l.maps l.ports no_place)
    (λ k low. let in_k : k < p = omega (arith, long) in
    ap (λ q. clash q (placed_of l p) && stands_on address q) (placed_at_q l earlier p k b in_k) ∙ h k in_k)

sharer_some : (l : LayoutData) (earlier : List PlaceRow) (p address q : ℕ) → AreBefore l earlier p → q < p → tests l p q address ≡ true
    → ((k : ℕ) → k < q → tests l p k address ≡ false) → sharer (map (placed_in l.maps l.ports) earlier) (placed_of l p) address ≡ Some q
sharer_some l earlier p address q b low here before =
    let E = map (placed_in l.maps l.ports) earlier in
    let long : length E ≡ p = mapped_length (placed_in l.maps l.ports) earlier ∙ b.many in
    position_at (λ q. clash q (placed_of l p) && stands_on address q) E q (placed_in l.maps l.ports no_place) (omega (arith, long))
    (λ k less. ap (λ q. clash q (placed_of l p) && stands_on address q) (placed_at_q l earlier p k b (omega arith)) ∙ before k less)
    (ap (λ q. clash q (placed_of l p) && stands_on address q) (placed_at_q l earlier p q b low) ∙ here)

some_sharer : (l : LayoutData) (earlier : List PlaceRow) (p address : ℕ) → AreBefore l earlier p → is_some (sharer (map (placed_in l.maps l.ports) earlier) (placed_of l p) address) ≡ true
    → (q : ℕ) × (q < p) × (tests l p q address ≡ true)
some_sharer l earlier p address b e =
    let E = map (placed_in l.maps l.ports) earlier in
    let long : length E ≡ p = mapped_length (placed_in l.maps l.ports) earlier ∙ b.many in
    let found = some_is (sharer E (placed_of l p) address) e in
    let q = found.0 in
    let at = position-Some (λ q. clash q (placed_of l p) && stands_on address q) E q (placed_in l.maps l.ports no_place) found.1 in
    let low : q < p = omega (arith, at.0, long) in
    (q, low, sym (ap (λ q. clash q (placed_of l p) && stands_on address q) (placed_at_q l earlier p q b low)) ∙ at.1)

stands_byte : (l : LayoutData) → IsTested l → (p i j : ℕ) → p < length l.places → i < (place_at l p).size → j < (place_at l p).bytes → StandsAt l p (address_in (placed_of l p) i j)
stands_byte l t p i j low low_i low_j =
    let loc : IsLocation l p i = record { place_in = low; index_in = low_i } in
    record { index = i; location = loc; word = word_at_byte l t p i j loc low_j }

shared_none : (l : LayoutData) → IsTested l → (earlier : List PlaceRow) (p : ℕ) → AreBefore l earlier p → ((q address : ℕ) → Shares l p q address → ⊥)
    → shared (map (placed_in l.maps l.ports) earlier) (placed_of l p) ≡ None
shared_none l t earlier p b none =
    let E = map (placed_in l.maps l.ports) earlier in
    let P = placed_of l p in
    let T : ℕ → Bool = λ address. is_some (sharer E P address) in
    let empty : filter T (addresses_of P) ≡ [] =
    filter_none T (addresses_of P) (all_addresses P (λ address. T address ≡ false) (λ i j low_i low_j.
    ap is_some (sharer_none l earlier p (address_in P i j) b (λ q low. not_true (tests l p q (address_in P i j))
    (λ e. none q (address_in P i j) (to_shares l t p q (address_in P i j) low b.inside e (stands_byte l t p i j b.inside low_i low_j))))))) in
    ap (λ xs. option_map (λ address. SharedAddress address (unwrap_or (sharer E P address) 0)) (least xs)) empty

shared_some : (l : LayoutData) → IsTested l → (earlier : List PlaceRow) (p q address : ℕ) → AreBefore l earlier p → Shares l p q address
    → ((k a : ℕ) → Shares l p k a → address ≤ a) → ((k : ℕ) → Shares l p k address → q ≤ k)
    → shared (map (placed_in l.maps l.ports) earlier) (placed_of l p) ≡ Some (SharedAddress address q)
shared_some l t earlier p q address b s lowest first =
    let E = map (placed_in l.maps l.ports) earlier in
    let P = placed_of l p in
    let T : ℕ → Bool = λ a. is_some (sharer E P a) in
    let here : sharer E P address ≡ Some q =
    sharer_some l earlier p address q b s.less (from_shares l t p q address s) (λ k less. not_true (tests l p k address)
    (λ e. absurd (let low = first k (to_shares l t p k address (omega (arith, s.less)) b.inside e s.later) in omega arith))) in
    let byte = byte_at_word l t p s.later.index s.later.word.number s.later.location s.later.word.inside in
    let inside : IsIn address (addresses_of P) =
    subst (λ a. IsIn a (addresses_of P)) (byte.address_is ∙ s.later.word.address_is) (in_addresses P s.later.index byte.byte s.later.location.index_in byte.inside) in
    let at : least (filter T (addresses_of P)) ≡ Some address =
    least_is (filter T (addresses_of P)) address (filter_in T (addresses_of P) address inside (ap is_some here))
    (filter_least T (addresses_of P) address (all_addresses P (λ a. T a ≡ true → address ≤ a) (λ i j low_i low_j e.
    let h = some_sharer l earlier p (address_in P i j) b e in
    lowest h.0 (address_in P i j) (to_shares l t p h.0 (address_in P i j) h.1 b.inside h.2 (stands_byte l t p i j b.inside low_i low_j))))) in
    ap (option_map (λ a. SharedAddress a (unwrap_or (sharer E P a) 0))) at ∙ ap (λ o. Some (SharedAddress address (unwrap_or o 0))) here

-- ---- place by place

abbrev pub fault_of : Shared → MapFault
fault_of s = Bad (SharedAddress s.address s.other) (row_at array.Place s.place)

check_none : (spot : Spot) (E : List Placed) (P : Placed) → shared E P ≡ None → first_of spot (shared_check E P) ≡ None
check_none spot E P e = ap (λ o. cond (is_some o) (Some (Bad (unwrap_or o TooMany) spot)) None) e

check_some : (spot : Spot) (E : List Placed) (P : Placed) (cause : MapCause) → shared E P ≡ Some cause → first_of spot (shared_check E P) ≡ Some (Bad cause spot)
check_some spot E P cause e = ap (λ o. cond (is_some o) (Some (Bad (unwrap_or o TooMany) spot)) None) e

pub record IsFirstClash (l : LayoutData) (best : Option Shared) : Type 0 where
  pub least : (p q address : ℕ) → Shares l p q address → NotAfter best (record { place = p; address = address; other = q })
  pub made : (s : Shared) → best ≡ Some s → Shares l s.place s.other s.address

before_of : (l : LayoutData) (earlier : List PlaceRow) (p : PlaceRow) (ps : List PlaceRow) → earlier ++ p ∷ ps ≡ l.places → AreBefore l earlier (length earlier) × (p ≡ place_at l (length earlier))
before_of l earlier p ps e = (
  record {
    many = refl;
    each = λ q low. sym (get_or_append_left earlier (p ∷ ps) no_place q low) ∙ ap (λ xs. get_or xs q no_place) e;
    inside = omega (arith, ap length e, length-append earlier (p ∷ ps));
  },
  sym (get_or-append_seam earlier p ps no_place) ∙ ap (λ xs. get_or xs (length earlier) no_place) e,
)

one_more : (earlier : List PlaceRow) (p : PlaceRow) → length (earlier ++ p ∷ []) ≡ length earlier + 1
one_more earlier p = omega (arith, length-append earlier (p ∷ []))

faults_none : (l : LayoutData) → IsTested l → IsFirstClash l None → (earlier ps : List PlaceRow) → earlier ++ ps ≡ l.places → shared_faults l.maps l.ports earlier ps ≡ None
faults_none l t h earlier [] e = refl
faults_none l t h earlier (p ∷ ps) e =
    let b = before_of l earlier p ps e in
    let none = shared_none l t earlier (length earlier) b.0 (λ q address s. h.least (length earlier) q address s) in
    let here : shared (map (placed_in l.maps l.ports) earlier) (placed_in l.maps l.ports p) ≡ None =
    ap (λ x. shared (map (placed_in l.maps l.ports) earlier) (placed_in l.maps l.ports x)) b.1 ∙ none in
    ap (λ o. or_else o (shared_faults l.maps l.ports (earlier ++ p ∷ []) ps))
    (check_none (row_at array.Place (length earlier)) (map (placed_in l.maps l.ports) earlier) (placed_in l.maps l.ports p) here)
    ∙ faults_none l t h (earlier ++ p ∷ []) ps (append_twice earlier (p ∷ []) ps ∙ e)

faults_some : (l : LayoutData) → IsTested l → (s : Shared) → IsFirstClash l (Some s) → (earlier ps : List PlaceRow) → earlier ++ ps ≡ l.places → length earlier ≤ s.place
    → shared_faults l.maps l.ports earlier ps ≡ Some (fault_of s)
faults_some l t s h earlier [] e low =
    let m = h.made s refl in absurd (omega (arith, low, m.later_in, ap length e, length-append earlier []))
faults_some l t s h earlier (p ∷ ps) e low =
    let n = length earlier in
    let b = before_of l earlier p ps e in
    let E = map (placed_in l.maps l.ports) earlier in
    let as_p : (o : Option MapCause) → shared E (placed_of l n) ≡ o → shared E (placed_in l.maps l.ports p) ≡ o = λ o f. ap (λ x. shared E (placed_in l.maps l.ports x)) b.1 ∙ f in
    elim (cases_lt n s.place) [
      | inl less ↦
          let none = shared_none l t earlier n b.0 (λ q address x. let f = h.least n q address x in absurd (omega (arith, f.place, less))) in
          ap (λ o. or_else o (shared_faults l.maps l.ports (earlier ++ p ∷ []) ps)) (check_none (row_at array.Place n) E (placed_in l.maps l.ports p) (as_p None none))
          ∙ faults_some l t s h (earlier ++ p ∷ []) ps (append_twice earlier (p ∷ []) ps ∙ e) (omega (arith, one_more earlier p, less))
      | inr above ↦
          let same : s.place ≡ n = omega arith in
          let m = subst (λ k. Shares l k s.other s.address) same (h.made s refl) in
          let cause = shared_some l t earlier n s.other s.address b.0 m
          (λ k a x. let f = h.least n k a x in f.address same)
          (λ k x. let f = h.least n k s.address x in f.other same refl) in
          ap (λ o. or_else o (shared_faults l.maps l.ports (earlier ++ p ∷ []) ps)) (check_some (row_at array.Place n) E (placed_in l.maps l.ports p) (SharedAddress s.address s.other) (as_p _ cause))
          ∙ ap (λ k. Some (Bad (SharedAddress s.address s.other) (row_at array.Place k))) (sym same)
    ]

faults_are : (l : LayoutData) → IsTested l → (best : Option Shared) → IsFirstClash l best → shared_faults l.maps l.ports [] l.places ≡ option_map fault_of best
faults_are l t None h = faults_none l t h [] l.places refl
faults_are l t (Some s) h = faults_some l t s h [] l.places refl (omega arith)

pub shared_is : (l : LayoutData) → IsTested l → IsPermutation (all_rows l) l.rows → All (IsRowOf l) l.rows → (best : Option Shared) → IsLeast l.places l.rows best
    → ((s : Shared) → best ≡ Some s → IsMade l.places l.rows s) → shared_faults l.maps l.ports [] l.places ≡ option_map fault_of best
shared_is l t moved rows best least made =
    faults_are l t best (record {
      least = λ p q address s. shares_least l t moved best least p q address s;
      made = λ s e. made_shares l rows some_row s (made s e);
    })
