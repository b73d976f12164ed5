use Rattle.std.proofs.Common.{◌≡◌, ℕ, suc, zero, ◌+◌, ◌-◌, ◌*◌, ◌^◌, ◌<◌, ◌≤◌, inl, inr, Bool, true, false, cond, ◌==◌, ◌&&◌, List, [], ◌∷◌, ◌++◌, length}
use Rattle.std.proofs.Common.{get_or, Option, Some, None, is_some, unwrap_or, arith, sym, ap, ◌∙◌, refl, subst, add-zero, length-append, eq-eqb}
use Rattle.std.specs.Int.{bit_at}
use Rattle.std.specs.Prelude.{IsBitSet}
use Rattle.std.specs.List.{list_any}
use Rattle.std.proofs.lemmas.Bool.{cases_lt, eqb-true}
use Rattle.std.proofs.lemmas.Bool.Decides.{nat_tests}
use Rattle.std.proofs.lemmas.List.{get_or_append_left, get_or-map, length-map}
use Rattle.std.proofs.lemmas.List.Folds.{list_any_at}
use Rattle.std.proofs.lemmas.List.FromFn.{get_or-map-range_with_len, length-map-range_with_len}
use Rattle.std.proofs.lemmas.Nat.Bits.{bit_at_above, bit_at_cat_low, bit_at_cat_high, and_pow}
use Rattle.std.proofs.lemmas.Nat.{pow_pos}
use Rattle.std.proofs.Math.Seq.{get_or-append_seam}
use Rattle.rl_map.specs.declared.path.Level.{Level}
use Rattle.rl_map.specs.declared.seat.Location.{Location}
use Rattle.rl_map.specs.declared.seat.Seat.{Seat}
use Rattle.rl_map.specs.declared.word.Word.{Word}
use Rattle.rl_map.specs.Level.{IsPath}
use Rattle.rl_map.specs.Seat.{SeatsApart, seat_of, slots}
use Rattle.rl_map.specs.Words.{seats_of, item_words, mask_of, byte_from, byte_at, address_at, word_of, orders_below, words_below, no_seat, no_word}
use Rattle.rl_map.specs.Partition.{number_of, AreApart, Carries, IsPartition}
use Rattle.rl_map.proofs.Apart.{seats_apart}
use Rattle.rl_map.proofs.Gathered.{mask_lt}

-- ---- a mask has the bits of its test
bit_at_top : (t : Bool) (n m : ℕ) → m < 2 ^ n → bit_at (m + cond t (2 ^ n) 0) n ≡ cond t 1 0
bit_at_top true n m low =
    ap (λ x. bit_at x n) (let e : m + 2 ^ n ≡ 1 * 2 ^ n + m = omega arith in e)
    ∙ (bit_at_cat_high 1 n m n low (omega arith) ∙ ap (λ i. bit_at 1 i) (let e : n - n ≡ 0 = omega arith in e))
bit_at_top false n m low = rw add-zero (bit_at_above m n n low (omega arith))

bit_at_under : (t : Bool) (n m k : ℕ) → k < n → bit_at (m + cond t (2 ^ n) 0) k ≡ bit_at m k
bit_at_under true n m k low =
    ap (λ x. bit_at x k) (let e : m + 2 ^ n ≡ 1 * 2 ^ n + m = omega arith in e) ∙ bit_at_cat_low 1 n m k low
bit_at_under false n m k low = rw add-zero refl

pub bit_at-mask_of : (test : ℕ → Bool) (n k : ℕ) → k < n → bit_at (mask_of test n) k ≡ cond (test k) 1 0
bit_at-mask_of test (suc n) k low =
    elim (cases_lt k n) [
      | inl h ↦ bit_at_under (test n) n (mask_of test n) k h ∙ bit_at-mask_of test n k h
      | inr h ↦ let same : k ≡ n = omega arith in rw same (bit_at_top (test n) n (mask_of test n) (mask_lt test n))
    ]
bit_at-mask_of test zero k low = absurd (omega arith)

bit_tells : (t : Bool) (m k : ℕ) → bit_at m k ≡ cond t 1 0 → IsBitSet m k → t ≡ true
bit_tells true m k e set = refl
bit_tells false m k e set = absurd (set (and_pow m k ∙ ap (λ b. b * 2 ^ k) e ∙ omega arith))

bit_set : (m k : ℕ) → bit_at m k ≡ 1 → IsBitSet m k
bit_set m k e z = absurd (let h : 0 ≡ 1 * 2 ^ k = sym z ∙ and_pow m k ∙ ap (λ b. b * 2 ^ k) e in omega (arith, pow_pos k))

pub test_from_bit : (test : ℕ → Bool) (n k : ℕ) → k < n → IsBitSet (mask_of test n) k → test k ≡ true
test_from_bit test n k low set = bit_tells (test k) (mask_of test n) k (bit_at-mask_of test n k low) set

pub bit_from_test : (test : ℕ → Bool) (n k : ℕ) → k < n → test k ≡ true → IsBitSet (mask_of test n) k
bit_from_test test n k low e = bit_set (mask_of test n) k (bit_at-mask_of test n k low ∙ ap (λ t. cond t 1 0) e)

-- ---- the byte at a lane, by the seats
same_tells : (seat : Seat) (order lane : ℕ) → ((seat.order == order) && (seat.lane == lane)) ≡ true → (seat.order ≡ order) × (seat.lane ≡ lane)
same_tells seat order lane e = grind (arith, nat_tests)

same_here : (seat : Seat) → ((seat.order == seat.order) && (seat.lane == seat.lane)) ≡ true
same_here seat = grind (arith, nat_tests)

same_not : (seat : Seat) (order lane : ℕ) → (seat.order ≡ order → seat.lane ≡ lane → ⊥) → ((seat.order == order) && (seat.lane == lane)) ≡ false
same_not seat order lane h = grind (arith, nat_tests, h)

-- what is at a lane has its seat there
pub record StandsAt (seats : List Seat) (first order lane byte : ℕ) : Type 0 where
  pub index : ℕ
  pub byte_is : byte ≡ first + index
  pub inside : index < length seats
  pub order_is : (get_or seats index no_seat).order ≡ order
  pub lane_is : (get_or seats index no_seat).lane ≡ lane

stands_more : (seat : Seat) (seats : List Seat) (first order lane byte : ℕ) → StandsAt seats (first + 1) order lane byte → StandsAt (seat ∷ seats) first order lane byte
stands_more seat seats first order lane byte s = record {
  index = suc s.index;
  byte_is = omega (arith, s.byte_is);
  inside = omega (arith, s.inside);
  order_is = s.order_is;
  lane_is = s.lane_is;
}

stands_step : (t : Bool) (seat : Seat) (seats : List Seat) (first order lane byte : ℕ) → ((seat.order == order) && (seat.lane == lane)) ≡ t
    → (byte_from (first + 1) seats order lane ≡ Some byte → StandsAt seats (first + 1) order lane byte)
    → cond t (Some first) (byte_from (first + 1) seats order lane) ≡ Some byte → StandsAt (seat ∷ seats) first order lane byte
stands_step true seat seats first order lane byte h rest e =
    let s = same_tells seat order lane h in
    record {
      index = 0;
      byte_is = grind arith;
      inside = omega arith;
      order_is = s.0;
      lane_is = s.1;
    }
stands_step false seat seats first order lane byte h rest e = stands_more seat seats first order lane byte (rest e)

pub stands_at : (seats : List Seat) (first order lane byte : ℕ) → byte_from first seats order lane ≡ Some byte → StandsAt seats first order lane byte
stands_at [] first order lane byte e = cc
stands_at (seat ∷ seats) first order lane byte e =
    stands_step _ seat seats first order lane byte refl (stands_at seats (first + 1) order lane byte) e

-- a byte is found at its lane, where no earlier one stands there
pub byte_from-at : (seats : List Seat) (first i : ℕ) → i < length seats
    → ((k : ℕ) → k < i → (get_or seats k no_seat).order ≡ (get_or seats i no_seat).order → (get_or seats k no_seat).lane ≡ (get_or seats i no_seat).lane → ⊥)
    → byte_from first seats (get_or seats i no_seat).order (get_or seats i no_seat).lane ≡ Some (first + i)
byte_from-at [] first i low alone = absurd (omega arith)
byte_from-at (seat ∷ seats) first zero low alone = rw (same_here seat) (ap Some (omega arith))
byte_from-at (seat ∷ seats) first (suc i) low alone =
    rw (same_not seat _ _ (alone zero (omega arith)))
    (byte_from-at seats (first + 1) i (omega arith) (λ k h. alone (suc k) (omega arith)) ∙ ap Some (omega arith))

address_step : (t : Bool) (seat : Seat) (seats : List Seat) (to : Seat) → (seat.order == to.order) ≡ t → (seat.order ≡ to.order → seat.address ≡ to.address)
    → address_at seats to.order ≡ to.address → address_at (seat ∷ seats) to.order ≡ to.address
address_step true seat seats to e here rest = rw e (here (eqb-true seat.order to.order e))
address_step false seat seats to e here rest = rw e rest

-- a word's address is that of each of its bytes
pub address_at-is : (seats : List Seat) (i : ℕ) → i < length seats
    → ((k : ℕ) → k < length seats → (get_or seats k no_seat).order ≡ (get_or seats i no_seat).order → (get_or seats k no_seat).address ≡ (get_or seats i no_seat).address)
    → address_at seats (get_or seats i no_seat).order ≡ (get_or seats i no_seat).address
address_at-is [] i low one = absurd (omega arith)
address_at-is (seat ∷ seats) zero low one = rw (eq-eqb seat.order seat.order refl) refl
address_at-is (seat ∷ seats) (suc i) low one =
    address_step (seat.order == (get_or seats i no_seat).order) seat seats (get_or seats i no_seat) refl (one zero (omega arith))
    (address_at-is seats i (omega arith) (λ k h. one (suc k) (omega arith)))

-- ---- the orders, and the numbers of the words

-- the `k`-th order
pub record IsOrderNumber (seats : List Seat) (n order k : ℕ) : Type 0 where
  pub inside : k < length (orders_below seats n)
  pub order_is : get_or (orders_below seats n) k 0 ≡ order

number_step : (t : Bool) (seats : List Seat) (n order k : ℕ) → IsOrderNumber seats n order k
    → (k < length (cond t (orders_below seats n ++ n ∷ []) (orders_below seats n))) × (get_or (cond t (orders_below seats n ++ n ∷ []) (orders_below seats n)) k 0 ≡ order)
number_step true seats n order k h =
    (omega (arith, length-append (orders_below seats n) (n ∷ []), h.inside), rw (get_or_append_left (orders_below seats n) (n ∷ []) 0 k h.inside) h.order_is)
number_step false seats n order k h = (h.inside, h.order_is)

number_last : (seats : List Seat) (n : ℕ) → list_any (λ seat. seat.order == n) seats ≡ true → IsOrderNumber seats (suc n) n (number_of seats n)
number_last seats n e = record {
  inside = rw e (omega (arith, length-append (orders_below seats n) (n ∷ [])));
  order_is = rw e (get_or-append_seam (orders_below seats n) n [] 0);
}

-- an order that a byte has is found at its number
pub number_is : (seats : List Seat) (n order : ℕ) → order < n → list_any (λ seat. seat.order == order) seats ≡ true → IsOrderNumber seats n order (number_of seats order)
number_is seats zero order low e = absurd (omega arith)
number_is seats (suc n) order low e =
    elim (cases_lt order n) [
      | inl h ↦ let s = number_step (list_any (λ seat. seat.order == n) seats) seats n order _ (number_is seats n order h e) in record { inside = s.0; order_is = s.1 }
      | inr h ↦ let same : n ≡ order =
          omega arith in subst (λ m. IsOrderNumber seats (suc n) m (number_of seats m)) same (number_last seats n (subst (λ m. list_any (λ seat. seat.order == m) seats ≡ true) (sym same) e))
    ]

-- each listed order is one that a byte has, and its number is its place
pub record IsListed (seats : List Seat) (n k order : ℕ) : Type 0 where
  pub low : order < n
  pub held : list_any (λ seat. seat.order == order) seats ≡ true
  pub number : number_of seats order ≡ k

listed_later : {seats : List Seat} {n k order : ℕ} → IsListed seats n k order → IsListed seats (suc n) k order
listed_later h = record { low = omega (arith, h.low); held = h.held; number = h.number }

listed_step : (t : Bool) (seats : List Seat) (n k : ℕ) → list_any (λ seat. seat.order == n) seats ≡ t
    → ((k < length (orders_below seats n)) → IsListed seats n k (get_or (orders_below seats n) k 0))
    → k < length (cond t (orders_below seats n ++ n ∷ []) (orders_below seats n))
    → IsListed seats (suc n) k (get_or (cond t (orders_below seats n ++ n ∷ []) (orders_below seats n)) k 0)
listed_step false seats n k e below inside = listed_later (below inside)
listed_step true seats n k e below inside =
    elim (cases_lt k (length (orders_below seats n))) [
      | inl h ↦ rw (get_or_append_left (orders_below seats n) (n ∷ []) 0 k h) (listed_later (below h))
      | inr h ↦
          let last : k ≡ length (orders_below seats n) = omega (arith, length-append (orders_below seats n) (n ∷ [])) in
          let here : get_or (orders_below seats n ++ n ∷ []) k 0 ≡ n = rw last (get_or-append_seam (orders_below seats n) n [] 0) in
          rw here (record { low = omega arith; held = e; number = sym last })
    ]

pub is_listed : (seats : List Seat) (n k : ℕ) → k < length (orders_below seats n) → IsListed seats n k (get_or (orders_below seats n) k 0)
is_listed seats zero k inside = absurd (omega arith)
is_listed seats (suc n) k inside = listed_step _ seats n k refl (is_listed seats n k) inside

ascending_step : (t : Bool) (seats : List Seat) (n i k : ℕ) → i < k
    → ((k < length (orders_below seats n)) → get_or (orders_below seats n) i 0 < get_or (orders_below seats n) k 0)
    → k < length (cond t (orders_below seats n ++ n ∷ []) (orders_below seats n))
    → get_or (cond t (orders_below seats n ++ n ∷ []) (orders_below seats n)) i 0 < get_or (cond t (orders_below seats n ++ n ∷ []) (orders_below seats n)) k 0
ascending_step false seats n i k less below inside = below inside
ascending_step true seats n i k less below inside =
    elim (cases_lt k (length (orders_below seats n))) [
      | inl h ↦ rw (get_or_append_left (orders_below seats n) (n ∷ []) 0 k h, get_or_append_left (orders_below seats n) (n ∷ []) 0 i (omega arith)) (below h)
      | inr h ↦
          let last : k ≡ length (orders_below seats n) = omega (arith, length-append (orders_below seats n) (n ∷ [])) in
          let here : get_or (orders_below seats n ++ n ∷ []) k 0 ≡ n = rw last (get_or-append_seam (orders_below seats n) n [] 0) in
          rw (here, get_or_append_left (orders_below seats n) (n ∷ []) 0 i (omega arith)) ((is_listed seats n i (omega arith)).low)
    ]

pub orders_ascend : (seats : List Seat) (n i k : ℕ) → i < k → k < length (orders_below seats n) → get_or (orders_below seats n) i 0 < get_or (orders_below seats n) k 0
orders_ascend seats zero i k less inside = absurd (omega arith)
orders_ascend seats (suc n) i k less inside = ascending_step (list_any (λ seat. seat.order == n) seats) seats n i k less (orders_ascend seats n i k less) inside

-- ---- the words
-- the `k`-th word is the word of the `k`-th order
pub words_at : (seats : List Seat) (n k : ℕ) → k < length (orders_below seats n) → get_or (words_below seats n) k no_word ≡ word_of seats (get_or (orders_below seats n) k 0)
words_at seats n k inside = get_or-map (word_of seats) (orders_below seats n) k 0 no_word inside

pub bytes_at : (seats : List Seat) (order lane : ℕ) → lane < 8 → get_or (word_of seats order).bytes lane 0 ≡ unwrap_or (byte_at seats order lane) 0
bytes_at seats order lane low = get_or-map-range_with_len (λ lane. unwrap_or (byte_at seats order lane) 0) 0 8 lane lane 0 low (omega arith)

placed : (seats : List Seat) (n : ℕ) → AreApart seats n → (j : ℕ) → j < length seats
    → (number_of seats (get_or seats j no_seat).order < length (words_below seats n))
    × Carries (get_or (words_below seats n) (number_of seats (get_or seats j no_seat).order) no_word) (get_or seats j no_seat).lane j
placed seats n apart j low =
    let seat = get_or seats j no_seat in
    let at = number_is seats n seat.order (apart.order_in j low) (list_any_at (λ s. s.order == seat.order) seats j no_seat low (eq-eqb seat.order seat.order refl)) in
    let found : byte_at seats seat.order seat.lane ≡ Some j =
    byte_from-at seats 0 j low (λ k h order lane. absurd (let same = apart.distinct k j (omega arith) low order lane in omega arith)) ∙ ap Some (omega arith) in
    let lane_in = apart.lane_in j low in (
      rw length-map at.inside,
      rw (words_at seats n _ at.inside, at.order_is) (record {
        enabled = bit_from_test (λ lane. is_some (byte_at seats seat.order lane)) 8 seat.lane lane_in (ap is_some found);
        byte_is = bytes_at seats seat.order seat.lane lane_in ∙ ap (λ o. unwrap_or o 0) found;
      }),
    )

enabled_from : (o : Option ℕ) → is_some o ≡ true → o ≡ Some (unwrap_or o 0)
enabled_from (Some x) e = refl
enabled_from None e = cc

seat_ext : (s : Seat) (order address lane : ℕ) → s.order ≡ order → s.address ≡ address → s.lane ≡ lane → s ≡ record { order = order; address = address; lane = lane }
seat_ext s order address lane e f g =
    ap (λ x. let r : Seat = record { order = x; address = s.address; lane = s.lane } in r) e
    ∙ (ap (λ x. let r : Seat = record { order = order; address = x; lane = s.lane } in r) f
    ∙ ap (λ x. let r : Seat = record { order = order; address = address; lane = x } in r) g)

-- an enabled lane has a byte of the item, whose seat is there
abbrev IsSound : List Seat → ℕ → ℕ → Word → Type 0
IsSound seats k lane word =
    IsBitSet word.lanes lane
    → (get_or word.bytes lane 0 < length seats)
    × (number_of seats (get_or seats (get_or word.bytes lane 0) no_seat).order ≡ k)
    × (get_or seats (get_or word.bytes lane 0) no_seat ≡ record { order = word.order; address = word.address; lane = lane })

sound_byte : (seats : List Seat) (n : ℕ) → AreApart seats n → (order k lane byte : ℕ) → number_of seats order ≡ k → byte_at seats order lane ≡ Some byte
    → (byte < length seats) × (number_of seats (get_or seats byte no_seat).order ≡ k)
    × (get_or seats byte no_seat ≡ record { order = order; address = address_at seats order; lane = lane })
sound_byte seats n apart order k lane byte number found =
    let at = stands_at seats 0 order lane byte found in
    let same : at.index ≡ byte = omega (arith, at.byte_is) in
    let inside : byte < length seats = omega (arith, at.inside) in
    let order_is : (get_or seats byte no_seat).order ≡ order = subst (λ i. (get_or seats i no_seat).order ≡ order) same at.order_is in
    let lane_is : (get_or seats byte no_seat).lane ≡ lane = subst (λ i. (get_or seats i no_seat).lane ≡ lane) same at.lane_is in
    let address = address_at-is seats byte inside (λ k h e. apart.one_address k byte h inside e) in (
      inside,
      ap (number_of seats) order_is ∙ number,
      seat_ext _ order _ lane order_is (sym address ∙ ap (address_at seats) order_is) lane_is,
    )

sound_word : (seats : List Seat) (n : ℕ) → AreApart seats n → (order k lane : ℕ) → number_of seats order ≡ k → lane < 8 → IsSound seats k lane (word_of seats order)
sound_word seats n apart order k lane number low enabled =
    let found = enabled_from (byte_at seats order lane) (test_from_bit (λ lane. is_some (byte_at seats order lane)) 8 lane low enabled) in
    let byte = unwrap_or (byte_at seats order lane) 0 in
    subst (λ b. (b < length seats) × (number_of seats (get_or seats b no_seat).order ≡ k)
    × (get_or seats b no_seat ≡ record { order = order; address = address_at seats order; lane = lane }))
    (sym (bytes_at seats order lane low)) (sound_byte seats n apart order k lane byte number found)

pub is_partition : (seats : List Seat) (n : ℕ) → AreApart seats n → IsPartition seats (words_below seats n)
is_partition seats n apart = record {
  placed = placed seats n apart;
  lane_in = apart.lane_in;
  sound = λ k lane inside low.
      let listed_in : k < length (orders_below seats n) = simp length-map at inside in
      subst (IsSound seats k lane) (sym (words_at seats n k listed_in))
      (sound_word seats n apart _ k lane (is_listed seats n k listed_in).number low);
  ascending = λ i k less inside.
      let listed_in : k < length (orders_below seats n) = simp length-map at inside in
      rw (words_at seats n k listed_in, words_at seats n i (omega arith)) (orders_ascend seats n i k less listed_in);
}

-- ---- the words of an item
pub apart_of : (path : List Level) (base : ℕ) (item : Location) → SeatsApart path base item → AreApart (seats_of path base item) (slots item.bytes path)
apart_of path base item apart =
    let seat = seat_of path base item in
    let long : length (seats_of path base item) ≡ item.bytes = length-map-range_with_len seat 0 item.bytes in
    let at : (i : ℕ) → i < item.bytes → get_or (seats_of path base item) i no_seat ≡ seat i =
    λ i low. get_or-map-range_with_len seat 0 item.bytes i i no_seat low (omega arith) in
    let low : (i : ℕ) → i < length (seats_of path base item) → i < item.bytes = λ i h. omega (arith, long) in
    let order : (i : ℕ) → i < item.bytes → (get_or (seats_of path base item) i no_seat).order ≡ (seat i).order = λ i h. ap (λ (s : Seat). s.order) (at i h) in
    let address : (i : ℕ) → i < item.bytes → (get_or (seats_of path base item) i no_seat).address ≡ (seat i).address = λ i h. ap (λ (s : Seat). s.address) (at i h) in
    let lane : (i : ℕ) → i < item.bytes → (get_or (seats_of path base item) i no_seat).lane ≡ (seat i).lane = λ i h. ap (λ (s : Seat). s.lane) (at i h) in
    record {
      distinct = λ i j p q e f. apart.distinct i j (low i p) (low j q)
          (sym (order i (low i p)) ∙ e ∙ order j (low j q)) (sym (lane i (low i p)) ∙ f ∙ lane j (low j q));
      one_address = λ i j p q e. address i (low i p) ∙ apart.one_address i j (low i p) (low j q)
          (sym (order i (low i p)) ∙ e ∙ order j (low j q)) ∙ sym (address j (low j q));
      order_in = λ i p. rw (order i (low i p)) (apart.order_in i (low i p));
      lane_in = λ i p. rw (lane i (low i p)) (apart.lane_in i (low i p));
    }

pub words_partition : (path : List Level) (base : ℕ) (item : Location) → IsPath path → item.bytes ≤ 8
    → IsPartition (seats_of path base item) (item_words path base item)
words_partition path base item ok size = is_partition _ _ (apart_of path base item (seats_apart path base item ok size))
