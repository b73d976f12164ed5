-- The value of an access by the seats of the item's bytes.
use Rattle.std.proofs.Common.{◌≡◌, ℕ, zero, suc, ◌+◌, ◌*◌, ◌/◌, ◌%◌, ◌<◌, ◌≤◌, ◌⊎◌, inl, inr, Bool, true, false, not, ◌&&◌, ◌||◌, cond, eqb, List, [], ◌∷◌, length, map, get_or, Option, Some, None}
use Rattle.std.proofs.Common.{is_some, refl, sym, ap, ◌∙◌, subst, arith, eq-eqb, eqb-true, ◌-◌, ◌^◌}
use Rattle.std.specs.Prelude.{slice_index, IsBitSet}
use Rattle.std.specs.List.{position_or_len}
use Rattle.std.proofs.lemmas.Bool.{cases_lt}
use Rattle.std.proofs.lemmas.Bool.Decides.{nat_tests}
use Rattle.std.proofs.lemmas.List.{length-map, get_or-map}
use Rattle.std.proofs.lemmas.List.FromFn.{get_or-map-range_with_len, length-map-range_with_len}
use Rattle.std.proofs.lemmas.Nat.{bit_set_by_shift}
use Rattle.std.proofs.lemmas.Nat.Bits.{shr_and_one}
use Rattle.rl_policy.specs.Bits.{bit}
use Rattle.rl_policy.proofs.BitLemmas.{bit-from_bits, bit-above, bit-zero, bit-ones}
use Rattle.rl_bus.specs.declared.table.Lanes.{Lanes}
use Rattle.rl_bus.specs.Spread.{lane_below, bit_in, lane_bit, spread_bit, gathered_bit}
use Rattle.rl_bus.specs.declared.op.BusOp.{BusOp}
use Rattle.rl_map.specs.declared.seat.Seat.{Seat}
use Rattle.rl_map.specs.declared.word.Word.{Word}
use Rattle.rl_map.specs.Layout.{LayoutData, place_at, seat_at, place_seats, path_of, base_of, location_of, words_of}
use Rattle.rl_map.specs.Partition.{has_bit, have_bit, AreParts, number_of}
use Rattle.rl_map.specs.Seat.{seat_of}
use Rattle.rl_map.specs.Words.{lanes_of, no_seat, no_word}
use Rattle.rl_split.specs.Access.{IsChoice, lanes_for, has_chosen, sent_words, joined_bit, joined, orders_of, sent_of, chosen_lanes, enabled_lanes, word_of, carries_lanes, kind_of, bus_bytes_of}
use Rattle.rl_split.specs.Access.{op_of, ops_of}
use Rattle.rl_split.specs.Seats.{number_at, ValueIsBySeats, no_op, OperationsAreBySeats}
use Rattle.rl_bus.proofs.LaneLemmas.{found_lane}
use Rattle.rl_map.proofs.Reaching.{some_has}
use Rattle.rl_split.proofs.Chosen.{lane_chosen, chosen_bit, sent_touches, not_sent}
use Rattle.rl_split.proofs.ReadRuns.{none_spread}
use Rattle.rl_split.proofs.Sending.{IsHere, is_here, lane_there}
use Rattle.rl_split.proofs.Sent.{none_joined}

-- ---- one word of many

abbrev Ascending : List Word → Type 0
Ascending ws = (i k : ℕ) → i < k → k < length ws → (get_or ws i no_word).order < (get_or ws k no_word).order

abbrev place_in : ℕ → List Word → ℕ → ℕ
place_in chosen ws order = position_or_len (λ o. eqb o order) (map (λ (w : Word). w.order) (sent_words chosen ws))

clash : (t : Bool) → t ≡ false → t ≡ true → ⊥
clash t p q = cc

later_order : (a b : ℕ) → a < b → eqb a b ≡ false
later_order a b l = grind (arith, nat_tests)

or_false : (t : Bool) → (t || false) ≡ t
or_false true = refl
or_false false = refl

next_index : (a p : ℕ) (rest : List ℕ) → slice_index (a ∷ rest) (1 + p) ≡ slice_index rest p
next_index a p rest = let same : 1 + p ≡ suc p = omega arith in ap (slice_index (a ∷ rest)) same

-- a bit that a word has comes from the answer to this word
from_word : (chosen b : ℕ) (ws : List Word) (n : ℕ) (answers : List ℕ) → n < length ws → Ascending ws → AreParts ws → has_bit (get_or ws n no_word) b ≡ true → bit chosen (b / 8) ≡ true →
    length answers ≡ length (sent_words chosen ws) →
    joined_bit chosen (sent_words chosen ws) answers b ≡ spread_bit (lanes_for chosen (get_or ws n no_word)) (bit (slice_index answers (place_in chosen ws (get_or ws n no_word).order))) b
from_word chosen b [] n answers l up parts has on long = absurd (omega (arith, l))
from_word chosen b (v ∷ vs) zero answers l up parts has on long = by (has_chosen chosen v) refl answers long
  where
    reached : lane_bit (lanes_for chosen v) b ≡ true
    reached = chosen_bit chosen v b ∙ ap (λ t. t && bit chosen (b / 8)) has ∙ on

    by : (t : Bool) → has_chosen chosen v ≡ t → (answers : List ℕ) → length answers ≡ length (cond t (v ∷ sent_words chosen vs) (sent_words chosen vs)) →
        joined_bit chosen (cond t (v ∷ sent_words chosen vs) (sent_words chosen vs)) answers b
        ≡ spread_bit (lanes_for chosen v) (bit (slice_index answers (position_or_len (λ o. eqb o v.order) (map (λ (w : Word). w.order) (cond t (v ∷ sent_words chosen vs) (sent_words chosen vs)))))) b
    by true e [] long = absurd (omega (arith, long))
    by true e (a ∷ rest) long =
        ap (λ t. spread_bit (lanes_for chosen v) (bit a) b || t)
        (none_joined chosen (sent_words chosen vs) rest b (sent_touches chosen vs b ∙ ap (λ t. t && bit chosen (b / 8)) (parts.0 b has)))
        ∙ or_false (spread_bit (lanes_for chosen v) (bit a) b)
        ∙ ap (λ t. spread_bit (lanes_for chosen v) (bit (slice_index (a ∷ rest) (cond (not t) (1 + place_in chosen vs v.order) 0))) b) (sym (eq-eqb v.order v.order refl))
    by false e answers long = absurd (clash (lane_bit (lanes_for chosen v) b) (not_sent chosen v b e) reached)
from_word chosen b (v ∷ vs) (suc n) answers l up parts has on long =
    by (has_chosen chosen v) answers long (λ rest m. from_word chosen b vs n rest (omega (arith, l)) (λ i k p q. up (suc i) (suc k) (omega (arith, p)) (omega (arith, q))) parts.1 has on m)
  where
    apart : has_bit v b ≡ false
    apart = at (has_bit v b) refl
      where
        at : (t : Bool) → has_bit v b ≡ t → t ≡ false
        at true e = absurd (clash (have_bit vs b) (parts.0 b e) (some_has vs n b (omega (arith, l)) has))
        at false e = refl

    not_reached : lane_bit (lanes_for chosen v) b ≡ false
    not_reached = chosen_bit chosen v b ∙ ap (λ t. t && bit chosen (b / 8)) apart

    differs : eqb v.order (get_or vs n no_word).order ≡ false
    differs = later_order v.order (get_or vs n no_word).order (up 0 (suc n) (omega arith) l)

    by : (t : Bool) (answers : List ℕ) → length answers ≡ length (cond t (v ∷ sent_words chosen vs) (sent_words chosen vs)) →
        ((rest : List ℕ) → length rest ≡ length (sent_words chosen vs) → joined_bit chosen (sent_words chosen vs) rest b ≡ spread_bit (lanes_for chosen (get_or vs n no_word))
        (bit (slice_index rest (place_in chosen vs (get_or vs n no_word).order))) b) →
        joined_bit chosen (cond t (v ∷ sent_words chosen vs) (sent_words chosen vs)) answers b
        ≡ spread_bit (lanes_for chosen (get_or vs n no_word)) (bit (slice_index answers (position_or_len (λ o. eqb o (get_or vs n no_word).order) (map (λ (w : Word). w.order)
        (cond t (v ∷ sent_words chosen vs) (sent_words chosen vs)))))) b
    by true [] long more = absurd (omega (arith, long))
    by true (a ∷ rest) long more =
        ap (λ t. t || joined_bit chosen (sent_words chosen vs) rest b) (none_spread (lanes_for chosen v) (bit a) b not_reached)
        ∙ more rest (omega (arith, long))
        ∙ ap (λ x. spread_bit (lanes_for chosen (get_or vs n no_word)) (bit x) b) (sym (next_index a (place_in chosen vs (get_or vs n no_word).order) rest))
        ∙ ap (λ t. spread_bit (lanes_for chosen (get_or vs n no_word)) (bit (slice_index (a ∷ rest) (cond (not t) (1 + place_in chosen vs (get_or vs n no_word).order) 0))) b) (sym differs)
    by false answers long more = more answers long

-- ---- the seat of a byte

set_from_bit : (n k : ℕ) → bit n k ≡ true → IsBitSet n k
unfolding bit
set_from_bit n k e = (bit_set_by_shift n k).0 (shr_and_one n k ∙ eqb-true _ 1 e)

bit_from_set : (n k : ℕ) → IsBitSet n k → bit n k ≡ true
unfolding bit
bit_from_set n k h = eq-eqb _ 1 (sym (shr_and_one n k) ∙ (bit_set_by_shift n k).1 h)

record IsSeated (l : LayoutData) (place index byte : ℕ) : Type 0 where
  number : ℕ
  number_in : number < length (words_of l place index)
  lane_in : (seat_at l place index byte).lane < 8
  on : bit (get_or (words_of l place index) number no_word).lanes (seat_at l place index byte).lane ≡ true
  byte_is : slice_index (get_or (words_of l place index) number no_word).bytes (seat_at l place index byte).lane ≡ byte
  order_is : (get_or (words_of l place index) number no_word).order ≡ (seat_at l place index byte).order
  address_is : (get_or (words_of l place index) number no_word).address ≡ (seat_at l place index byte).address
  only_lane : (lane : ℕ) → lane < 8 → bit (get_or (words_of l place index) number no_word).lanes lane ≡ true → slice_index (get_or (words_of l place index) number no_word).bytes lane ≡ byte →
      lane ≡ (seat_at l place index byte).lane

seat_is : (l : LayoutData) (place index byte : ℕ) → byte < (place_at l place).bytes → get_or (place_seats l place index) byte no_seat ≡ seat_at l place index byte
seat_is l place index byte inside = get_or-map-range_with_len (seat_of (path_of l place) (base_of l place) (location_of (place_at l place) index)) 0 (place_at l place).bytes byte byte no_seat inside
    (omega arith)

seated : (l : LayoutData) (place index byte : ℕ) → IsHere l place index → byte < (place_at l place).bytes → IsSeated l place index byte
seated l place index byte here inside =
    let seats = place_seats l place index in
    let words = words_of l place index in
    let whole = here.words.partition in
    let many : length seats ≡ (place_at l place).bytes = length-map-range_with_len (seat_of (path_of l place) (base_of l place) (location_of (place_at l place) index)) 0 (place_at l place).bytes in
    let within : byte < length seats = omega (arith, many, inside) in
    let is = seat_is l place index byte inside in
    let n = number_of seats (get_or seats byte no_seat).order in
    let w = get_or words n no_word in
    let at = whole.placed byte within in
    let low : (seat_at l place index byte).lane < 8 = subst (λ (s : Seat). s.lane < 8) is (whole.lane_in byte within) in
    let on : bit w.lanes (seat_at l place index byte).lane ≡ true = subst (λ (s : Seat). bit w.lanes s.lane ≡ true) is (bit_from_set w.lanes (get_or seats byte no_seat).lane at.1.enabled) in
    let byte_at : slice_index w.bytes (seat_at l place index byte).lane ≡ byte = subst (λ (s : Seat). slice_index w.bytes s.lane ≡ byte) is at.1.byte_is in
    let sound : (lane : ℕ) → lane < 8 → bit w.lanes lane ≡ true → slice_index w.bytes lane ≡ byte → get_or seats byte no_seat ≡ record { order = w.order; address = w.address; lane = lane } =
    λ lane l e same. subst (λ b. get_or seats b no_seat ≡ record { order = w.order; address = w.address; lane = lane }) same (whole.sound n lane at.0 l (set_from_bit w.lanes lane e)).2 in
    record {
      number = n;
      number_in = at.0;
      lane_in = low;
      on = on;
      byte_is = byte_at;
      order_is = sym (ap (λ (s : Seat). s.order) (sound (seat_at l place index byte).lane low on byte_at)) ∙ ap (λ (s : Seat). s.order) is;
      address_is = sym (ap (λ (s : Seat). s.address) (sound (seat_at l place index byte).lane low on byte_at)) ∙ ap (λ (s : Seat). s.address) is;
      only_lane = λ lane l e same. sym (ap (λ (s : Seat). s.lane) (sound lane l e same)) ∙ ap (λ (s : Seat). s.lane) is;
    }

-- the lane that carries the byte
lane_is : (s : Lanes) (j lane : ℕ) → lane < 8 → bit s.enabled lane ≡ true → slice_index s.bytes lane ≡ j → ((k : ℕ) → k < 8 → bit s.enabled k ≡ true → slice_index s.bytes k ≡ j → k ≡ lane) →
    lane_below 8 s j ≡ Some lane
lane_is s j lane low on is only = by (lane_below 8 s j) refl (lane_there 8 lane s j low on is)
  where
    by : (o : Option ℕ) → lane_below 8 s j ≡ o → is_some o ≡ true → o ≡ Some lane
    by None e h = cc
    by (Some k) e h = let at = found_lane 8 s j k e in ap Some (only k at.0 at.1.0 at.1.1)

byte_place : (byte i : ℕ) → i < 8 → ((8 * byte + i) / 8 ≡ byte) × ((8 * byte + i) % 8 ≡ i)
byte_place byte i l = (omega (arith, l), omega (arith, l))

chosen_spread : (chosen : ℕ) (w : Word) (answer byte i lane : ℕ) → i < 8 → bit chosen byte ≡ true → lane_below 8 (lanes_of w) byte ≡ Some lane → spread_bit (lanes_for chosen w) (bit answer)
    (8 * byte + i) ≡ bit answer (8 * lane + i)
chosen_spread chosen w answer byte i lane low on is =
    let at = byte_place byte i low in
    ap (λ q. bit_in (lane_below 8 (lanes_for chosen w) q) (bit answer) ((8 * byte + i) % 8)) at.0
    ∙ ap (λ r. bit_in (lane_below 8 (lanes_for chosen w) byte) (bit answer) r) at.1
    ∙ ap (λ o. bit_in o (bit answer) i) (lane_chosen 8 chosen w byte (omega arith))
    ∙ ap (λ t. bit_in (cond t (lane_below 8 (lanes_of w) byte) None) (bit answer) i) on
    ∙ ap (λ o. bit_in o (bit answer) i) is

bit-joined : (l : LayoutData) (place index chosen : ℕ) (answers : List ℕ) (b : ℕ) → b < 64 → bit (joined l place index chosen answers) b ≡ joined_bit chosen (sent_words chosen (words_of l place
    index)) answers b
unfolding joined sent_of
bit-joined l place index chosen answers b low = bit-from_bits 64 (joined_bit chosen (sent_words chosen (words_of l place index)) answers) b low

number_is : (l : LayoutData) (place index chosen byte : ℕ) → number_at l place index chosen byte ≡ place_in chosen (words_of l place index) (seat_at l place index byte).order
unfolding orders_of sent_of
number_is l place index chosen byte = refl

orders_length : (l : LayoutData) (place index chosen : ℕ) → length (orders_of l place index chosen) ≡ length (sent_words chosen (words_of l place index))
unfolding orders_of sent_of
orders_length l place index chosen = length-map (sent_words chosen (words_of l place index)) (λ (w : Word). w.order)

and_false : (t : Bool) → (t && false) ≡ false
and_false true = refl
and_false false = refl

inside_choice : (chosen bytes byte : ℕ) → IsChoice bytes chosen → bit chosen byte ≡ true → byte < bytes
inside_choice chosen bytes byte choice e = by (cases_lt byte bytes)
  where
    by : (byte < bytes) ⊎ (bytes ≤ byte) → byte < bytes
    by (inl l) = l
    by (inr l) = absurd (clash (bit chosen byte) (bit-above chosen bytes byte choice.within l) e)

chosen_one : (l : LayoutData) (place index chosen : ℕ) (answers : List ℕ) (byte i : ℕ) → IsHere l place index → length answers ≡ length (orders_of l place index chosen) →
    byte < (place_at l place).bytes → byte < 8 → i < 8 → bit chosen byte ≡ true →
    bit (joined l place index chosen answers) (8 * byte + i) ≡ bit (slice_index answers (number_at l place index chosen byte)) (8 * (seat_at l place index byte).lane + i)
chosen_one l place index chosen answers byte i here long inside small low e =
    let words = words_of l place index in
    let s = seated l place index byte here inside in
    let w = get_or words s.number no_word in
    let b = 8 * byte + i in
    let at = byte_place byte i low in
    let lane = lane_is (lanes_of w) byte (seat_at l place index byte).lane s.lane_in s.on s.byte_is s.only_lane in
    let has : has_bit w b ≡ true = ap (λ q. is_some (lane_below 8 (lanes_of w) q)) at.0 ∙ ap is_some lane in
    let number : place_in chosen words w.order ≡ number_at l place index chosen byte = ap (place_in chosen words) s.order_is ∙ sym (number_is l place index chosen byte) in
    bit-joined l place index chosen answers b (omega (arith, small, low))
    ∙ from_word chosen b words s.number answers s.number_in here.words.partition.ascending here.words.parts has (ap (bit chosen) at.0 ∙ e) (long ∙ orders_length l place index chosen)
    ∙ ap (λ n. spread_bit (lanes_for chosen w) (bit (slice_index answers n)) b) number
    ∙ chosen_spread chosen w (slice_index answers (number_at l place index chosen byte)) byte i (seat_at l place index byte).lane low e lane

pub value_is_by_seats : ValueIsBySeats
value_is_by_seats l place index chosen answers sound loc choice long byte i small low = by (bit chosen byte) refl
  where
    by : (t : Bool) → bit chosen byte ≡ t → bit (joined l place index chosen answers) (8 * byte + i) ≡ (t && bit (slice_index answers (number_at l place index chosen byte))
        (8 * (seat_at l place index byte).lane + i))
    by true e = chosen_one l place index chosen answers byte i (is_here l place index sound loc) long (inside_choice chosen (place_at l place).bytes byte choice e) small low e
    by false e =
        bit-joined l place index chosen answers (8 * byte + i) (omega (arith, small, low))
        ∙ none_joined chosen (sent_words chosen (words_of l place index)) answers (8 * byte + i)
        (sent_touches chosen (words_of l place index) (8 * byte + i)
        ∙ ap (λ q. have_bit (words_of l place index) (8 * byte + i) && bit chosen q) (byte_place byte i low).0
        ∙ ap (λ t. have_bit (words_of l place index) (8 * byte + i) && t) e
        ∙ and_false (have_bit (words_of l place index) (8 * byte + i)))

-- ---- the operations

abbrev place_among : List Word → ℕ → ℕ
place_among sent order = position_or_len (λ o. eqb o order) (map (λ (w : Word). w.order) sent)

-- a word that is sent stands among those that are
found_in : (chosen : ℕ) (ws : List Word) (n : ℕ) → n < length ws → Ascending ws → has_chosen chosen (get_or ws n no_word) ≡ true →
    (place_among (sent_words chosen ws) (get_or ws n no_word).order < length (sent_words chosen ws)) × (get_or (sent_words chosen ws) (place_among (sent_words chosen ws) (get_or ws n no_word).order)
    no_word ≡ get_or ws n no_word)
found_in chosen [] n l up on = absurd (omega (arith, l))
found_in chosen (v ∷ vs) zero l up on = by (has_chosen chosen v) on
  where
    first : (t : Bool) → eqb v.order v.order ≡ t → t ≡ true → (cond (not t) (1 + place_among (sent_words chosen vs) v.order) 0 < length (v ∷ sent_words chosen vs)) × (get_or (v ∷ sent_words chosen
        vs) (cond (not t) (1 + place_among (sent_words chosen vs) v.order) 0) no_word ≡ v)
    first true e h = (omega arith, refl)
    first false e h = cc

    by : (t : Bool) → t ≡ true → (place_among (cond t (v ∷ sent_words chosen vs) (sent_words chosen vs)) v.order < length (cond t (v ∷ sent_words chosen vs) (sent_words chosen vs))) ×
        (get_or (cond t (v ∷ sent_words chosen vs) (sent_words chosen vs)) (place_among (cond t (v ∷ sent_words chosen vs) (sent_words chosen vs)) v.order) no_word ≡ v)
    by true e = first (eqb v.order v.order) refl (eq-eqb v.order v.order refl)
    by false e = cc
found_in chosen (v ∷ vs) (suc n) l up on =
    by (has_chosen chosen v) (found_in chosen vs n (omega (arith, l)) (λ i k p q. up (suc i) (suc k) (omega (arith, p)) (omega (arith, q))) on)
  where
    w : Word
    w = get_or vs n no_word

    next : (p : ℕ) → get_or (v ∷ sent_words chosen vs) (1 + p) no_word ≡ get_or (sent_words chosen vs) p no_word
    next p = let same : 1 + p ≡ suc p = omega arith in ap (λ k. get_or (v ∷ sent_words chosen vs) k no_word) same

    later : (t : Bool) (p : ℕ) → t ≡ false → p < length (sent_words chosen vs) → get_or (sent_words chosen vs) p no_word ≡ get_or vs n no_word →
        (cond (not t) (1 + p) 0 < length (v ∷ sent_words chosen vs)) × (get_or (v ∷ sent_words chosen vs) (cond (not t) (1 + p) 0) no_word ≡ get_or vs n no_word)
    later true p e m h = cc
    later false p e m h = (omega (arith, m), next p ∙ h)

    by : (t : Bool) → (place_among (sent_words chosen vs) (get_or vs n no_word).order < length (sent_words chosen vs)) × (get_or (sent_words chosen vs) (place_among (sent_words chosen vs)
        (get_or vs n no_word).order) no_word ≡ get_or vs n no_word) →
        (place_among (cond t (v ∷ sent_words chosen vs) (sent_words chosen vs)) (get_or vs n no_word).order < length (cond t (v ∷ sent_words chosen vs) (sent_words chosen vs)))
        × (get_or (cond t (v ∷ sent_words chosen vs) (sent_words chosen vs)) (place_among (cond t (v ∷ sent_words chosen vs) (sent_words chosen vs)) (get_or vs n no_word).order) no_word ≡ get_or vs n
        no_word)
    by true h = later (eqb v.order (get_or vs n no_word).order) (place_among (sent_words chosen vs) (get_or vs n no_word).order) (later_order v.order (get_or vs n no_word).order (up 0 (suc n)
        (omega arith) l)) h.0 h.1
    by false h = h

bit_chosen : (chosen : ℕ) (w : Word) (byte lane : ℕ) → lane < 8 → bit w.lanes lane ≡ true → slice_index w.bytes lane ≡ byte → bit chosen byte ≡ true → bit (chosen_lanes chosen w) lane ≡ true
bit_chosen chosen w byte lane low on is e =
    bit-from_bits 8 (λ l. bit w.lanes l && bit chosen (slice_index w.bytes l)) lane low ∙ ap (λ t. t && bit chosen (slice_index w.bytes lane)) on ∙ ap (bit chosen) is ∙ e

some_chosen : (chosen : ℕ) (w : Word) (lane : ℕ) → bit (chosen_lanes chosen w) lane ≡ true → has_chosen chosen w ≡ true
some_chosen chosen w lane e = by (eqb (chosen_lanes chosen w) 0) refl
  where
    by : (t : Bool) → eqb (chosen_lanes chosen w) 0 ≡ t → not t ≡ true
    by true q = absurd (clash (bit (chosen_lanes chosen w) lane) (ap (λ n. bit n lane) (eqb-true (chosen_lanes chosen w) 0 q) ∙ bit-zero lane) e)
    by false q = refl

lane_enabled : (carried : Bool) (n chosen : ℕ) (w : Word) (lane : ℕ) → w.lanes < 2 ^ n → bit w.lanes lane ≡ true → bit (chosen_lanes chosen w) lane ≡ true →
    bit (enabled_lanes carried n chosen w) lane ≡ true
lane_enabled true n chosen w lane low on e = e
lane_enabled false n chosen w lane low on e = by (cases_lt lane n)
  where
    by : (lane < n) ⊎ (n ≤ lane) → bit (2 ^ n - 1) lane ≡ true
    by (inl l) = bit-ones n lane l
    by (inr l) = absurd (clash (bit w.lanes lane) (bit-above w.lanes n lane low l) on)

bits_carried : (chosen value : ℕ) (write : Bool) (w : Word) (byte lane i : ℕ) → lane < 8 → i < 8 → bit (chosen_lanes chosen w) lane ≡ true → slice_index w.bytes lane ≡ byte →
    bit (cond write (word_of chosen value w) 0) (8 * lane + i) ≡ (write && bit value (8 * byte + i))
bits_carried chosen value false w byte lane i low l e is = bit-zero (8 * lane + i)
bits_carried chosen value true w byte lane i low l e is =
    let at = byte_place lane i l in
    bit-from_bits 64 (gathered_bit (lanes_for chosen w) (bit value)) (8 * lane + i) (omega (arith, low, l))
    ∙ ap (λ k. bit (chosen_lanes chosen w) k && bit value (8 * slice_index w.bytes k + (8 * lane + i) % 8)) at.0
    ∙ ap (λ r. bit (chosen_lanes chosen w) lane && bit value (8 * slice_index w.bytes lane + r)) at.1
    ∙ ap (λ t. t && bit value (8 * slice_index w.bytes lane + i)) e
    ∙ ap (λ j. bit value (8 * j + i)) is

pub operations_are_by_seats : OperationsAreBySeats
unfolding ops_of orders_of sent_of
operations_are_by_seats l place index chosen value write sound loc choice byte e =
    let words = words_of l place index in
    let here = is_here l place index sound loc in
    let s = seated l place index byte here (inside_choice chosen (place_at l place).bytes byte choice e) in
    let w = get_or words s.number no_word in
    let seat = seat_at l place index byte in
    let sent = sent_words chosen words in
    let op = op_of l place chosen value write in
    let lit = bit_chosen chosen w byte seat.lane s.lane_in s.on s.byte_is e in
    let found = found_in chosen words s.number s.number_in here.words.partition.ascending (some_chosen chosen w seat.lane lit) in
    let m = place_among sent seat.order in
    let same : place_among sent w.order ≡ m = ap (place_among sent) s.order_is in
    let inside : m < length sent = subst (λ k. k < length sent) same found.0 in
    let is : get_or (map op sent) m no_op ≡ op w = get_or-map op sent m no_word no_op inside ∙ ap op (ap (λ k. get_or sent k no_word) (sym same) ∙ found.1) in
    record {
      number_in = omega (arith, inside, length-map sent op);
      address = ap (λ (o : BusOp). o.address) is ∙ s.address_is;
      lane = ap (λ (o : BusOp). bit o.lanes seat.lane) is ∙ lane_enabled (carries_lanes (kind_of l place) write) (bus_bytes_of l place) chosen w seat.lane (here.words.on s.number no_word
          s.number_in).enabled s.on lit;
      bits = λ i low. ap (λ (o : BusOp). bit o.word (8 * seat.lane + i)) is ∙ bits_carried chosen value write w byte seat.lane i s.lane_in low lit s.byte_is;
    }
