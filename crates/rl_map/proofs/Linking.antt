-- The places of each item, linked backwards.
use Rattle.std.proofs.Common.{◌≡◌, ◌≢◌, ℕ, suc, ◌+◌, ◌-◌, ◌<◌, ◌≤◌, ◌⊎◌, inl, inr, Bool, true, false, not, ◌==◌, ◌&&◌, ◌||◌, cond, List, [], ◌∷◌, ◌++◌, length}
use Rattle.std.proofs.Common.{get_or, set, nat_lt, Option, Some, None, refl, sym, ap, ◌∙◌, subst, arith, eq-eqb, eqb-true, get_or-set_other, get_or-set_same}
use Rattle.std.specs.Prelude.{position, MatchOption, IfSome, is_some}
use Rattle.std.specs.List.{list_any, position_or_len}
use Rattle.std.proofs.lemmas.Bool.{cases_lt}
use Rattle.std.proofs.lemmas.Bool.Decides.{nat_tests}
use Rattle.std.proofs.lemmas.List.{get_or_append_left}
use Rattle.std.proofs.Math.Seq.{get_or-append_seam}
use Rattle.std.proofs.lemmas.List.Sums.{position_or_len_is}
use Rattle.rl_model.specs.declared.rows.Item.{Item}
use Rattle.rl_model.specs.declared.rows.Item.TheVariants as item
use Rattle.rl_map.specs.declared.rows.PlaceRow.{PlaceRow}
use Rattle.rl_map.specs.Layout.{LayoutData, no_place, same_item, is_in, place_at, place_of}
use Rattle.rl_map.specs.Faults.{is_placed}
use Rattle.rl_map.specs.Links.{number_of_item, IsLast, AreLinked}
use Rattle.rl_map.proofs.Lookups.{same_from, place_there}
use Rattle.rl_map.proofs.Accepting.{at_first, at_none}
use Rattle.rl_map.proofs.Lists.{one_longer}

-- ---- items and their numbers

number_same : (a b : Item) → number_of_item a ≡ number_of_item b → a ≡ b
number_same (item.Reg a) (item.Reg b) e = let same : a ≡ b = omega (arith, e) in ap (λ n. item.Reg n) same
number_same (item.Mem a) (item.Mem b) e = let same : a ≡ b = omega (arith, e) in ap (λ n. item.Mem n) same
number_same (item.Reg a) (item.Mem b) e = absurd (omega (arith, e))
number_same (item.Mem a) (item.Reg b) e = absurd (omega (arith, e))

equal_self : (n : ℕ) → (n == n) ≡ true
equal_self n = eq-eqb n n refl

same_self : (a : Item) → same_item a a ≡ true
same_self (item.Reg a) = equal_self a
same_self (item.Mem a) = equal_self a

not_same : (a b : Item) → (number_of_item a ≡ number_of_item b → ⊥) → same_item a b ≡ false
not_same a b h = by (same_item a b) refl
  where
    by : (t : Bool) → same_item a b ≡ t → t ≡ false
    by true e = absurd (h (ap number_of_item (same_from a b e)))
    by false e = refl

-- ---- one place more

last_keeps : (places places' : List PlaceRow) (n : ℕ) (i : Item) (above : ℕ) → ((p : ℕ) → p < n → get_or places' p no_place ≡ get_or places p no_place)
    → IsLast places n i above → IsLast places' n i above
last_keeps places places' n i above same h = record {
  most = h.most;
  has = λ some. ap (λ (r : PlaceRow). same_item r.item i) (same (above - 1) (omega (arith, h.most))) ∙ h.has some;
  none = λ p from low. ap (λ (r : PlaceRow). same_item r.item i) (same p low) ∙ h.none p from low;
}

last_later : (places : List PlaceRow) (n : ℕ) (i : Item) (above : ℕ) → IsLast places n i above → same_item (get_or places n no_place).item i ≡ false → IsLast places (n + 1) i above
last_later places n i above h other = record {
  most = omega (arith, h.most);
  has = h.has;
  none = λ p from low. at p from (cases_lt p n) low;
}
  where
    at : (p : ℕ) → above ≤ p → (p < n) ⊎ (n ≤ p) → p < n + 1 → same_item (get_or places p no_place).item i ≡ false
    at p from (inl g) low = h.none p from g
    at p from (inr g) low = subst (λ k. same_item (get_or places k no_place).item i ≡ false) (let e : n ≡ p = omega arith in e) other

last_here : (places : List PlaceRow) (n : ℕ) (i : Item) → same_item (get_or places n no_place).item i ≡ true → IsLast places (n + 1) i (n + 1)
last_here places n i e = record {
  most = omega arith;
  has = λ some. subst (λ k. same_item (get_or places k no_place).item i ≡ true) (let f : n ≡ n + 1 - 1 = omega arith in f) e;
  none = λ p from low. absurd (omega arith);
}

equal_or_not : (a b : ℕ) → (a ≡ b) ⊎ (a ≢ b)
equal_or_not a b = by (a == b) refl
  where
    by : (t : Bool) → (a == b) ≡ t → (a ≡ b) ⊎ (a ≢ b)
    by true e = inl (eqb-true a b e)
    by false e = inr (λ f. let g : (a == b) ≡ true = ap (λ x. a == x) (sym f) ∙ equal_self a in let h = sym g ∙ e in cc)

pub linked_more : (places : List PlaceRow) (row : PlaceRow) (lasts grown lasts' before before' : List ℕ) (x value : ℕ) → AreLinked places lasts before
    → ((k : ℕ) → get_or grown k 0 ≡ get_or lasts k 0) → number_of_item row.item < length grown → x ≡ get_or grown (number_of_item row.item) 0
    → before' ≡ before ++ x ∷ [] → value ≡ length places + 1 → lasts' ≡ set grown (number_of_item row.item) value → AreLinked (places ++ row ∷ []) lasts' before'
linked_more places row lasts grown lasts' before before' x value was same inside x_is before_is value_is lasts_is = record {
  long = omega (arith, ap length before_is, one_longer before x, one_longer places row, was.long);
  each_item = λ i. subst (λ n. IsLast all n i (get_or lasts' (number_of_item i) 0)) (sym (one_longer places row)) (of_item i (equal_or_not (number_of_item row.item) (number_of_item i)));
  each_place = λ p low. of_place p low (cases_lt p (length places));
}
  where
    all : List PlaceRow
    all = places ++ row ∷ []

    kept : (n : ℕ) (i : Item) (above : ℕ) → n ≤ length places → IsLast places n i above → IsLast (places ++ row ∷ []) n i above
    kept n i above few h = last_keeps places (places ++ row ∷ []) n i above (λ p low. get_or_append_left places (row ∷ []) no_place p (omega arith)) h

    added : get_or (places ++ row ∷ []) (length places) no_place ≡ row
    added = get_or-append_seam places row [] no_place

    of_item : (i : Item) → (number_of_item row.item ≡ number_of_item i) ⊎ (number_of_item row.item ≢ number_of_item i)
        → IsLast (places ++ row ∷ []) (length places + 1) i (get_or lasts' (number_of_item i) 0)
    of_item i (inl e) =
        let value_at : get_or lasts' (number_of_item i) 0 ≡ length places + 1 =
        ap (λ xs. get_or xs (number_of_item i) 0) lasts_is ∙ ap (λ n. get_or (set grown (number_of_item row.item) value) n 0) (sym e)
        ∙ get_or-set_same grown (number_of_item row.item) value 0 inside ∙ value_is in
        let same_one : same_item (get_or (places ++ row ∷ []) (length places) no_place).item i ≡ true =
        ap (λ (r : PlaceRow). same_item r.item i) added ∙ ap (λ a. same_item a i) (number_same row.item i e) ∙ same_self i in
        subst (IsLast (places ++ row ∷ []) (length places + 1) i) (sym value_at) (last_here (places ++ row ∷ []) (length places) i same_one)
    of_item i (inr other) =
        let value_at : get_or lasts' (number_of_item i) 0 ≡ get_or lasts (number_of_item i) 0 =
        ap (λ xs. get_or xs (number_of_item i) 0) lasts_is ∙ get_or-set_other grown (number_of_item row.item) (number_of_item i) value 0 (λ f. other (sym f)) ∙ same (number_of_item i) in
        let not_one : same_item (get_or (places ++ row ∷ []) (length places) no_place).item i ≡ false =
        ap (λ (r : PlaceRow). same_item r.item i) added ∙ not_same row.item i other in
        subst (IsLast (places ++ row ∷ []) (length places + 1) i) (sym value_at)
        (last_later (places ++ row ∷ []) (length places) i _ (kept (length places) i _ (omega arith) (was.each_item i)) not_one)

    of_place : (p : ℕ) → p < length (places ++ row ∷ []) → (p < length places) ⊎ (length places ≤ p)
        → IsLast (places ++ row ∷ []) p (get_or (places ++ row ∷ []) p no_place).item (get_or before' p 0)
    of_place p low (inl g) =
        let value_at : get_or before' p 0 ≡ get_or before p 0 = ap (λ xs. get_or xs p 0) before_is ∙ get_or_append_left before (x ∷ []) 0 p (omega (arith, was.long)) in
        subst (λ a. IsLast (places ++ row ∷ []) p (get_or (places ++ row ∷ []) p no_place).item a) (sym value_at)
        (subst (λ (r : PlaceRow). IsLast (places ++ row ∷ []) p r.item (get_or before p 0)) (sym (get_or_append_left places (row ∷ []) no_place p g))
        (kept p _ _ (omega arith) (was.each_place p g)))
    of_place p low (inr g) =
        let here : p ≡ length places = omega (arith, one_longer places row) in
        let value_at : get_or before' p 0 ≡ get_or lasts (number_of_item row.item) 0 =
        ap (λ n. get_or before' n 0) (here ∙ sym was.long) ∙ ap (λ xs. get_or xs (length before) 0) before_is ∙ get_or-append_seam before x [] 0 ∙ x_is ∙ same (number_of_item row.item) in
        subst (λ a. IsLast (places ++ row ∷ []) p (get_or (places ++ row ∷ []) p no_place).item a) (sym value_at)
        (subst (λ n. IsLast (places ++ row ∷ []) n (get_or (places ++ row ∷ []) n no_place).item (get_or lasts (number_of_item row.item) 0)) (sym here)
        (subst (λ (r : PlaceRow). IsLast (places ++ row ∷ []) (length places) r.item (get_or lasts (number_of_item row.item) 0)) (sym added)
        (kept (length places) row.item _ (omega arith) (was.each_item row.item))))

-- ---- the way back

-- a place of the item in the map that is wanted
abbrev pub fits : Item → Option ℕ → PlaceRow → Bool
fits i map p = same_item p.item i && is_in map p.map

abbrev pub NoneFits : List PlaceRow → Item → Option ℕ → (from to : ℕ) → Type 0
NoneFits places i map from to = (p : ℕ) → from ≤ p → p < to → fits i map (get_or places p no_place) ≡ false

-- what is found among the places from `above` on
pub record IsFoundFrom (places : List PlaceRow) (i : Item) (map : Option ℕ) (above : ℕ) (found : Option ℕ) : Type 0 where
  pub most : above ≤ length places
  pub has : 0 < above → same_item (get_or places (above - 1) no_place).item i ≡ true
  pub first : MatchOption found (NoneFits places i map above (length places))
      (λ b. (above ≤ b) × (b < length places) × (fits i map (get_or places b no_place) ≡ true) × NoneFits places i map above b)

not_fit : (i : Item) (map : Option ℕ) (p : PlaceRow) → same_item p.item i ≡ false → fits i map p ≡ false
not_fit i map p e = ap (λ t. t && is_in map p.map) e

pub found_first : (places : List PlaceRow) (i : Item) (map : Option ℕ) (above : ℕ) → IsLast places (length places) i above → IsFoundFrom places i map above None
found_first places i map above h = record { most = h.most; has = h.has; first = λ p from low. not_fit i map (get_or places p no_place) (h.none p from low) }

pub found_next : (places : List PlaceRow) (i : Item) (map : Option ℕ) (above next place m : ℕ) (found : Option ℕ) → IsFoundFrom places i map above found → 0 < above → place ≡ above - 1
    → IsLast places place (get_or places place no_place).item next → m ≡ (get_or places place no_place).map
    → IsFoundFrom places i map next (cond (is_in map m) (Some place) found)
found_next places i map above next place m found was some place_is last m_is = record {
  most = omega (arith, last.most, was.most);
  has = λ h. ap (same_item (get_or places (next - 1) no_place).item) (sym same) ∙ last.has h;
  first = at (is_in map m) refl found was.first;
}
  where
    same : (get_or places place no_place).item ≡ i
    same = same_from _ i (ap (λ n. same_item (get_or places n no_place).item i) place_is ∙ was.has some)

    between : NoneFits places i map next place
    between p from low = not_fit i map (get_or places p no_place) (ap (same_item (get_or places p no_place).item) (sym same) ∙ last.none p from low)

    is_one : same_item (get_or places place no_place).item i ≡ true
    is_one = ap (λ a. same_item a i) same ∙ same_self i

    further : (to : ℕ) → fits i map (get_or places place no_place) ≡ false → NoneFits places i map above to → NoneFits places i map next to
    further to other none p from low = by (cases_lt p place) (cases_lt place p)
      where
        by : (p < place) ⊎ (place ≤ p) → (place < p) ⊎ (p ≤ place) → fits i map (get_or places p no_place) ≡ false
        by (inl g) h = between p from g
        by (inr g) (inl h) = none p (omega arith) low
        by (inr g) (inr h) = subst (λ k. fits i map (get_or places k no_place) ≡ false) (let e : place ≡ p = omega arith in e) other

    at : (t : Bool) → is_in map m ≡ t → (f : Option ℕ)
        → MatchOption f (NoneFits places i map above (length places)) (λ b. (above ≤ b) × (b < length places) × (fits i map (get_or places b no_place) ≡ true) × NoneFits places i map above b)
        → MatchOption (cond t (Some place) f) (NoneFits places i map next (length places))
        (λ b. (next ≤ b) × (b < length places) × (fits i map (get_or places b no_place) ≡ true) × NoneFits places i map next b)
    at true e f h = (last.most, omega (arith, was.most), ap (λ t. t && is_in map (get_or places place no_place).map) is_one ∙ ap (is_in map) (sym m_is) ∙ e, between)
    at false e None h =
        let other : fits i map (get_or places place no_place) ≡ false = ap (λ t. t && is_in map (get_or places place no_place).map) is_one ∙ ap (is_in map) (sym m_is) ∙ e in
        further (length places) other h
    at false e (Some b) h =
        let other : fits i map (get_or places place no_place) ≡ false = ap (λ t. t && is_in map (get_or places place no_place).map) is_one ∙ ap (is_in map) (sym m_is) ∙ e in
        (omega (arith, last.most, h.0), h.1, h.2, further b other h.3)

pub found_all : (places : List PlaceRow) (i : Item) (map : Option ℕ) (above : ℕ) (found : Option ℕ) → IsFoundFrom places i map above found → above ≡ 0 → found ≡ position (fits i map) places
found_all places i map above None h e =
    sym (at_none (fits i map) places (position_or_len_is (fits i map) places (length places) no_place (omega arith) (λ k low. h.first k (omega arith) low) (λ low. absurd (omega arith))))
found_all places i map above (Some b) h e =
    sym (at_first (fits i map) places b (position_or_len_is (fits i map) places b no_place (omega (arith, h.first.1)) (λ k low. h.first.3 k (omega arith) low) (λ low. h.first.2)) h.first.1)

-- ---- the same map and item

pub same_places : (places : List PlaceRow) (row : PlaceRow) → is_placed places row ≡ list_any (fits row.item (Some row.map)) places
same_places [] row = refl
same_places (q ∷ places) row =
    ap (λ t. t || is_placed places row) (both_ways (q.map == row.map) (same_item q.item row.item)) ∙ ap (λ t. fits row.item (Some row.map) q || t) (same_places places row)
  where
    both_ways : (a b : Bool) → (a && b) ≡ (b && a)
    both_ways true true = refl
    both_ways true false = refl
    both_ways false true = refl
    both_ways false false = refl

-- ---- whether one is found

lt_next : (a b : ℕ) → nat_lt (1 + a) (suc b) ≡ nat_lt a b
lt_next a b = grind (arith, nat_tests)

lt_first : (b : ℕ) → nat_lt 0 (suc b) ≡ true
lt_first b = grind (arith, nat_tests)

any_below : {X : Type 0} (t : X → Bool) (xs : List X) → list_any t xs ≡ nat_lt (position_or_len t xs) (length xs)
any_below t [] = refl
any_below t (x ∷ xs) = by (t x) (any_below t xs)
  where
    by : (b : Bool) → list_any t xs ≡ nat_lt (position_or_len t xs) (length xs) → (b || list_any t xs) ≡ nat_lt (cond (not b) (1 + position_or_len t xs) 0) (suc (length xs))
    by true h = sym (lt_first (length xs))
    by false h = h ∙ sym (lt_next (position_or_len t xs) (length xs))

one_found : {X : Type 0} (t : X → Bool) (xs : List X) → list_any t xs ≡ is_some (position t xs)
one_found t xs = any_below t xs ∙ by (nat_lt (position_or_len t xs) (length xs))
  where
    by : (b : Bool) → b ≡ is_some (cond b (Some (position_or_len t xs)) None)
    by true = refl
    by false = refl

pub is_placed_by : (places : List PlaceRow) (row : PlaceRow) (o : Option ℕ) (b : Bool) → o ≡ position (fits row.item (Some row.map)) places → b ≡ is_some o
    → b ≡ is_placed places row
is_placed_by places row o b e f = f ∙ ap is_some e ∙ sym (one_found (fits row.item (Some row.map)) places) ∙ sym (same_places places row)

-- what is found is a place of the item
pub there_is : (l : LayoutData) (i : Item) (map : Option ℕ) (o : Option ℕ) → o ≡ place_of l i map → IfSome o (λ p. (p < length l.places) × ((place_at l p).item ≡ i))
there_is l i map None e = tt
there_is l i map (Some p) e = place_there l i map p (sym e)

no_last : (i : Item) → IsLast [] 0 i 0
no_last i = record { most = omega arith; has = λ some. absurd (omega arith); none = λ p from low. absurd (omega arith) }

pub none_linked : (lasts before : List ℕ) → lasts ≡ [] → before ≡ [] → AreLinked [] lasts before
none_linked lasts before e f = subst (λ xs. AreLinked [] xs before) (sym e) (subst (AreLinked [] []) (sym f) (record {
  long = refl;
  each_item = no_last;
  each_place = λ p low. absurd (omega arith);
}))
