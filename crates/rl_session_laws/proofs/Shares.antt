-- Where no place is refused for a shared address, no two clash.
use Rattle.std.proofs.Common.{◌≡◌, ℕ, zero, suc, ◌+◌, ◌<◌, ◌≤◌, Bool, true, false, not, ◌==◌, ◌&&◌, ◌||◌, cond, nat_lt, inl, inr, ◌⊎◌, List, [], ◌∷◌, ◌++◌, length, map, get_or, take, Option}
use Rattle.std.proofs.Common.{Some, None, is_some, option_map, refl, sym, ap, ◌∙◌, subst, arith, append_assoc, append-nil, eq-eqb, get_or-take, length-take-le}
use Rattle.std.specs.Prelude.{filter, flat_map, position}
use Rattle.std.specs.List.{range_with_len, position_or_len}
use Rattle.std.proofs.lemmas.List.{get_or-map, length-map}
use Rattle.rl_model.specs.declared.fault.Array.TheVariants as array
use Rattle.rl_model.proofs.SoundLemmas.{both_None}
use Rattle.rl_map.specs.declared.rows.MapRow.{MapRow}
use Rattle.rl_map.specs.declared.rows.PortRow.{PortRow}
use Rattle.rl_map.specs.declared.rows.PlaceRow.{PlaceRow}
use Rattle.rl_map.specs.Building.{placed_in}
use Rattle.rl_map.specs.Faults.{Placed, row_at, address_in, stands_on, clash, sharer, addresses_of, least, shared}
use Rattle.rl_map.specs.Layout.{LayoutData, no_place, place_at, words_of, has_right}
use Rattle.rl_map.specs.Steps.{shared_check, shared_faults}
use Rattle.rl_map.specs.Words.{no_word}
use Rattle.rl_map.proofs.Bools.{both, ge_from, three, true_false}
use Rattle.rl_map.proofs.Lists.{filter_flat}
use Rattle.rl_map.proofs.Sharing.{byte_at_word, placed_of, StandsAt, stands_to, may_not_both, may_not_comm, Shares}
use Rattle.rl_map.proofs.Sound.{IsTested, IsShared, NoneClash, may_not}
use Rattle.rl_session_laws.proofs.Maps.{passed}

-- ---- lists

all_fail : {X : Type 0} (p : X → Bool) (xs : List X) (i : ℕ) (d : X) → length xs ≤ position_or_len p xs → i < length xs → p (get_or xs i d) ≡ false
all_fail p [] i d far low = absurd (omega (arith, low))
all_fail p (x ∷ xs) zero d far low = by (p x) refl far
  where
    by : (t : Bool) → p x ≡ t → suc (length xs) ≤ cond (not t) (1 + position_or_len p xs) 0 → p x ≡ false
    by true is far = absurd (omega (arith, far))
    by false is far = is
all_fail p (x ∷ xs) (suc i) d far low = by (p x) far (λ h. all_fail p xs i d h (omega (arith, low)))
  where
    by : (t : Bool) → suc (length xs) ≤ cond (not t) (1 + position_or_len p xs) 0 → (length xs ≤ position_or_len p xs → p (get_or xs i d) ≡ false)
        → p (get_or xs i d) ≡ false
    by true far more = absurd (omega (arith, far))
    by false far more = more (omega (arith, far))

not_at : {X : Type 0} (p : X → Bool) (xs : List X) (i : ℕ) (d : X) → is_some (position p xs) ≡ false → i < length xs → p (get_or xs i d) ≡ false
not_at p xs i d none low = all_fail p xs i d (by (nat_lt (position_or_len p xs) (length xs)) refl none) low
  where
    by : (t : Bool) → nat_lt (position_or_len p xs) (length xs) ≡ t → is_some (cond t (Some (position_or_len p xs)) None) ≡ false → length xs ≤ position_or_len p xs
    by true is h = absurd (cc)
    by false is h = ge_from (position_or_len p xs) (length xs) is

both_empty : {X : Type 0} (xs ys : List X) → xs ++ ys ≡ [] → (xs ≡ []) × (ys ≡ [])
both_empty [] ys h = (refl, h)
both_empty (x ∷ xs) ys h = absurd (cc)

empty_part : {X : Type 0} (g : ℕ → List X) (first n i : ℕ) → flat_map g (range_with_len first n) ≡ [] → i < n → g (first + i) ≡ []
empty_part g first zero i h low = absurd (omega (arith, low))
empty_part g first (suc n) zero h low = subst (λ k. g k ≡ []) (let e : first ≡ first + 0 = omega arith in e) (both_empty (g first) _ h).0
empty_part g first (suc n) (suc i) h low =
    subst (λ k. g k ≡ []) (let e : first + 1 + i ≡ first + suc i = omega arith in e) (empty_part g (first + 1) n i (both_empty (g first) _ h).1 (omega (arith, low)))

empty_mapped : (t : ℕ → Bool) (g : ℕ → ℕ) (first n j : ℕ) → filter t (map g (range_with_len first n)) ≡ [] → j < n → t (g (first + j)) ≡ false
empty_mapped t g first zero j h low = absurd (omega (arith, low))
empty_mapped t g first (suc n) zero h low = subst (λ k. t (g k) ≡ false) (let e : first ≡ first + 0 = omega arith in e) (by (t (g first)) refl h)
  where
    by : (b : Bool) → t (g first) ≡ b → cond b (g first ∷ filter t (map g (range_with_len (first + 1) n))) (filter t (map g (range_with_len (first + 1) n))) ≡ [] → t (g first) ≡ false
    by true is h = absurd (cc)
    by false is h = is
empty_mapped t g first (suc n) (suc j) h low =
    subst (λ k. t (g k) ≡ false) (let e : first + 1 + j ≡ first + suc j = omega arith in e) (empty_mapped t g (first + 1) n j (by (t (g first)) h) (omega (arith, low)))
  where
    by : (b : Bool) → cond b (g first ∷ filter t (map g (range_with_len (first + 1) n))) (filter t (map g (range_with_len (first + 1) n))) ≡ []
        → filter t (map g (range_with_len (first + 1) n)) ≡ []
    by true h = absurd (cc)
    by false h = h

-- the test fails at each address of a place
no_address : (p : Placed) (t : ℕ → Bool) (i j : ℕ) → filter t (addresses_of p) ≡ [] → i < p.row.size → j < p.row.bytes → t (address_in p i j) ≡ false
no_address p t i j h low_i low_j =
    let parts = λ (index : ℕ). map (address_in p index) (range_with_len 0 p.row.bytes) in
    let zero_add : (n : ℕ) → 0 + n ≡ n = λ n. omega arith in
    let here : filter t (parts (0 + i)) ≡ [] = empty_part (λ index. filter t (parts index)) 0 p.row.size i (sym (filter_flat t parts (range_with_len 0 p.row.size)) ∙ h) low_i in
    let there : filter t (parts i) ≡ [] = subst (λ k. filter t (parts k) ≡ []) (zero_add i) here in
    subst (λ k. t (address_in p i k) ≡ false) (zero_add j) (empty_mapped t (address_in p i) 0 p.row.bytes j there low_j)

-- ---- a place that isn't refused

none_least : {X : Type 0} (f : ℕ → X) (xs : List ℕ) → is_some (option_map f (least xs)) ≡ false → xs ≡ []
none_least f [] h = refl
none_least f (a ∷ xs) h = absurd (cc)

fine_at : (maps : List MapRow) (ports : List PortRow) (ps earlier : List PlaceRow) (k : ℕ) (d : PlaceRow) → shared_faults maps ports earlier ps ≡ None → k < length ps
    → is_some (shared (map (placed_in maps ports) (earlier ++ take k ps)) (placed_in maps ports (get_or ps k d))) ≡ false
fine_at maps ports [] earlier k d none low = absurd (omega (arith, low))
fine_at maps ports (p ∷ ps) earlier zero d none low =
    let step = both_None _ _ none in
    let fine : is_some (shared (map (placed_in maps ports) earlier) (placed_in maps ports p)) ≡ false =
    passed (row_at array.Place (length earlier)) (shared_check (map (placed_in maps ports) earlier) (placed_in maps ports p)) step.0 0 _ refl in
    subst (λ e. is_some (shared (map (placed_in maps ports) e) (placed_in maps ports p)) ≡ false) (sym (append-nil earlier)) fine
fine_at maps ports (p ∷ ps) earlier (suc k) d none low =
    let step = both_None _ _ none in
    subst (λ e. is_some (shared (map (placed_in maps ports) e) (placed_in maps ports (get_or ps k d))) ≡ false) (append_assoc earlier (p ∷ []) (take k ps))
    (fine_at maps ports ps (earlier ++ p ∷ []) k d step.1 (omega (arith, low)))

module _ (l : LayoutData) (tested : IsTested l) (none : shared_faults l.maps l.ports [] l.places ≡ None) where
  abbrev before : ℕ → List Placed
  before p = map (placed_in l.maps l.ports) (take p l.places)

  nobody : (p q address : ℕ) → p < length l.places → q < p → is_some (sharer (before p) (placed_of l p) address) ≡ false
      → (clash (placed_of l q) (placed_of l p) && stands_on address (placed_of l q)) ≡ false
  nobody p q address low less h =
      let long : length (take p l.places) ≡ p = length-take-le p l.places (omega (arith, low)) in
      let here : get_or (before p) q (placed_of l q) ≡ placed_of l q =
      get_or-map (placed_in l.maps l.ports) (take p l.places) q no_place (placed_of l q) (omega (arith, long, less))
      ∙ ap (placed_in l.maps l.ports) (get_or-take p l.places q no_place less) in
      subst (λ x. (clash x (placed_of l p) && stands_on address x) ≡ false) here
      (not_at (λ x. clash x (placed_of l p) && stands_on address x) (before p) q (placed_of l q) h
      (omega (arith, length-map (take p l.places) (placed_in l.maps l.ports), long, less)))

  no_shares : (p q address : ℕ) → Shares l p q address → ⊥
  no_shares p q address h =
      let fine = fine_at l.maps l.ports l.places [] p no_place none h.later_in in
      let w = h.later.word in
      let b = byte_at_word l tested p h.later.index w.number h.later.location w.inside in
      let is : address_in (placed_of l p) h.later.index b.byte ≡ address = b.address_is ∙ w.address_is in
      let alone : is_some (sharer (before p) (placed_of l p) address) ≡ false =
      subst (λ a. is_some (sharer (before p) (placed_of l p) a) ≡ false) is
      (no_address (placed_of l p) (λ a. is_some (sharer (before p) (placed_of l p) a)) h.later.index b.byte (none_least _ _ fine) h.later.location.index_in b.inside) in
      let same : ((place_at l q).port == (place_at l p).port) ≡ true = eq-eqb (place_at l q).port (place_at l p).port h.port in
      true_false (clash (placed_of l q) (placed_of l p) && stands_on address (placed_of l q))
      (both _ _ (both _ _ same h.may_not) (stands_to l tested q address h.earlier)) (nobody p q address h.later_in h.less alone)

  -- ---- two words at one address

  or_four : (a b c d : Bool) → (a ≡ true) ⊎ (b ≡ true) ⊎ (c ≡ true) ⊎ (d ≡ true) → ((a || b) || c || d) ≡ true
  or_four true b c d h = refl
  or_four false true c d h = refl
  or_four false false true d h = refl
  or_four false false false true h = refl
  or_four false false false false (inl h) = absurd (cc)
  or_four false false false false (inr (inl h)) = absurd (cc)
  or_four false false false false (inr (inr (inl h))) = absurd (cc)
  or_four false false false false (inr (inr (inr h))) = absurd (cc)

  may_both : (a b : PlaceRow) → may_not a b → may_not_both a b ≡ true
  may_both a b may = or_four (has_right a.rights false && has_right b.rights false) (has_right a.rights true && has_right b.rights true) a.fifo b.fifo (ways may)
    where
      ways : may_not a b → ((has_right a.rights false && has_right b.rights false) ≡ true) ⊎ ((has_right a.rights true && has_right b.rights true) ≡ true) ⊎ (a.fifo ≡ true) ⊎ (b.fifo ≡ true)
      ways (inl (false, x, y)) = inl (both _ _ x y)
      ways (inl (true, x, y)) = inr (inl (both _ _ x y))
      ways (inr (inl f)) = inr (inr (inl f))
      ways (inr (inr f)) = inr (inr (inr f))

  pub none_clash : NoneClash l
  none_clash p i k q j m s may =
      let address = (get_or (words_of l q j) m no_word).address in
      let at_p : StandsAt l p address = record { index = i; location = s.here; word = record { number = k; inside = s.here_in; address_is = s.address } } in
      let at_q : StandsAt l q address = record { index = j; location = s.there; word = record { number = m; inside = s.there_in; address_is = refl } } in
      let both_ways = may_both (place_at l p) (place_at l q) may in
      three p q
      (λ less. absurd (no_shares q p address (record { less = less; later_in = s.there.place_in; port = s.port; may_not = both_ways; earlier = at_p; later = at_q })))
      (λ less. absurd (no_shares p q address (record {
        less = less;
        later_in = s.here.place_in;
        port = sym s.port;
        may_not = may_not_comm (place_at l q) (place_at l p) ∙ both_ways;
        earlier = at_q;
        later = at_p;
      })))
      (λ e. e)
