-- Words that are a partition are parts.
use Rattle.std.proofs.Common.{◌≡◌, ℕ, zero, suc, ◌+◌, ◌/◌, ◌<◌, ◌≤◌, ◌⊎◌, inl, inr, Bool, true, false, ◌&&◌, ◌||◌, cond, eqb, List}
use Rattle.std.proofs.Common.{[], ◌∷◌, length, get_or, nat_lt, Some, is_some, refl, sym, ap, ◌∙◌, subst, arith, eq-eqb, eqb-true}
use Rattle.std.specs.Prelude.{IsBitSet}
use Rattle.std.proofs.lemmas.Nat.{bit_set_by_shift}
use Rattle.std.proofs.lemmas.Nat.Bits.{shr_and_one}
use Rattle.std.proofs.lemmas.Bool.{cases_lt}
use Rattle.rl_policy.specs.Bits.{bit}
use Rattle.rl_bus.specs.declared.table.Lanes.{Lanes}
use Rattle.rl_bus.specs.Spread.{lane_below}
use Rattle.rl_bus.proofs.LaneLemmas.{found_lane}
use Rattle.rl_map.specs.declared.seat.Seat.{Seat}
use Rattle.rl_map.specs.declared.word.Word.{Word}
use Rattle.rl_map.specs.Words.{no_seat, no_word, lanes_of}
use Rattle.rl_map.specs.Partition.{number_of, IsPartition, AreParts, have_bit, has_bit}
use Rattle.rl_map.proofs.Bools.{lt_from, lt_true, some_is}

-- ---- the two tests of a bit

pub set_from_bit : (n k : ℕ) → bit n k ≡ true → IsBitSet n k
unfolding bit
set_from_bit n k e = (bit_set_by_shift n k).0 (shr_and_one n k ∙ eqb-true _ 1 e)

pub bit_from_set : (n k : ℕ) → IsBitSet n k → bit n k ≡ true
unfolding bit
bit_from_set n k h = eq-eqb _ 1 (sym (shr_and_one n k) ∙ (bit_set_by_shift n k).1 h)

-- ---- the lane of a byte

false_true : (t : Bool) → t ≡ false → t ≡ true → ⊥
false_true t p q = cc

lane_there : (n l : ℕ) (s : Lanes) (j : ℕ) → l < n → bit s.enabled l ≡ true → get_or s.bytes l 0 ≡ j → is_some (lane_below n s j) ≡ true
unfolding lane_below
lane_there zero l s j low on is = absurd (omega arith)
lane_there (suc n) l s j low on is = by (bit s.enabled n && eqb (get_or s.bytes n 0) j) refl (cases_lt l n) (λ less. lane_there n l s j less on is)
  where
    here : l ≡ n → (bit s.enabled n && eqb (get_or s.bytes n 0) j) ≡ true
    here e = subst (λ n. (bit s.enabled n && eqb (get_or s.bytes n 0) j) ≡ true) e (ap (λ t. t && eqb (get_or s.bytes l 0) j) on ∙ eq-eqb _ j is)

    by : (t : Bool) → (bit s.enabled n && eqb (get_or s.bytes n 0) j) ≡ t → (l < n) ⊎ (n ≤ l) → (l < n → is_some (lane_below n s j) ≡ true) → is_some (cond t (Some n) (lane_below n s j)) ≡ true
    by true q side more = refl
    by false q (inl less) more = more less
    by false q (inr above) more = let h = here (omega arith) in absurd (false_true (bit s.enabled n && eqb (get_or s.bytes n 0) j) q h)

-- ---- the word of a byte is the one of its number

abbrev number : List Seat → ℕ → ℕ
number seats byte = number_of seats (get_or seats byte no_seat).order

number_is : (seats : List Seat) (words : List Word) → IsPartition seats words → (k b : ℕ) → k < length words → has_bit (get_or words k no_word) b ≡ true → number seats (b / 8) ≡ k
number_is seats words whole k b inside e =
    let w = get_or words k no_word in
    let found = some_is (lane_below 8 (lanes_of w) (b / 8)) e in
    let at = found_lane 8 (lanes_of w) (b / 8) found.0 found.1 in
    let sound = whole.sound k found.0 inside at.0 (set_from_bit w.lanes found.0 at.1.0) in
    subst (λ byte. number seats byte ≡ k) at.1.1 sound.1

has_there : (seats : List Seat) (words : List Word) → IsPartition seats words → (b : ℕ) → b / 8 < length seats → has_bit (get_or words (number seats (b / 8)) no_word) b ≡ true
has_there seats words whole b inside =
    let at = (whole.placed (b / 8) inside).1 in
    let w = get_or words (number seats (b / 8)) no_word in
    lane_there 8 (get_or seats (b / 8) no_seat).lane (lanes_of w) (b / 8) (whole.lane_in (b / 8) inside) (bit_from_set w.lanes _ at.enabled) at.byte_is

-- ---- words that each have a number of their own

abbrev Numbered : (ℕ → ℕ) → ℕ → List Word → Type 0
Numbered num base ws = (i b : ℕ) → i < length ws → has_bit (get_or ws i no_word) b ≡ true → num b ≡ base + i

tail_numbered : (num : ℕ → ℕ) (base : ℕ) (w : Word) (ws : List Word) → Numbered num base (w ∷ ws) → Numbered num (suc base) ws
tail_numbered num base w ws h i b low e = omega (arith, h (suc i) b (omega arith) e)

none_have : (num : ℕ → ℕ) (base : ℕ) (ws : List Word) → Numbered num base ws → (b : ℕ) → num b < base → have_bit ws b ≡ false
none_have num base [] h b early = refl
none_have num base (w ∷ ws) h b early = by (has_bit w b) refl (none_have num (suc base) ws (tail_numbered num base w ws h) b (omega arith))
  where
    by : (t : Bool) → has_bit w b ≡ t → have_bit ws b ≡ false → (t || have_bit ws b) ≡ false
    by true e rest = let here = h 0 b (omega arith) e in absurd (omega arith)
    by false e rest = rest

parts_of : (num : ℕ → ℕ) (base : ℕ) (ws : List Word) → Numbered num base ws → AreParts ws
parts_of num base [] h = tt
parts_of num base (w ∷ ws) h = (
  (λ b e. none_have num (suc base) ws (tail_numbered num base w ws h) b (let here = h 0 b (omega arith) e in omega arith)),
  parts_of num (suc base) ws (tail_numbered num base w ws h),
)

-- a byte of a word is a byte of all words
pub some_has : (ws : List Word) (k b : ℕ) → k < length ws → has_bit (get_or ws k no_word) b ≡ true → have_bit ws b ≡ true
some_has [] k b low e = absurd (omega arith)
some_has (w ∷ ws) zero b low e = ap (λ t. t || have_bit ws b) e
some_has (w ∷ ws) (suc k) b low e = by (has_bit w b) (some_has ws k b (omega arith) e)
  where
    by : (t : Bool) → have_bit ws b ≡ true → (t || have_bit ws b) ≡ true
    by true h = refl
    by false h = h

some_word : (ws : List Word) (b : ℕ) → have_bit ws b ≡ true → (k : ℕ) × (k < length ws) × (has_bit (get_or ws k no_word) b ≡ true)
some_word [] b e = cc
some_word (w ∷ ws) b e = by (has_bit w b) refl e (some_word ws b)
  where
    by : (t : Bool) → has_bit w b ≡ t → (t || have_bit ws b) ≡ true → (have_bit ws b ≡ true → (k : ℕ) × (k < length ws) × (has_bit (get_or ws k no_word) b ≡ true))
        → (k : ℕ) × (k < length (w ∷ ws)) × (has_bit (get_or (w ∷ ws) k no_word) b ≡ true)
    by true p q more = (0, omega arith, p)
    by false p q more = let h = more q in (suc h.0, omega (arith, h.1), h.2)

-- a byte that some word carries is one of the item's
carried_in : (seats : List Seat) (words : List Word) → IsPartition seats words → (b : ℕ) → have_bit words b ≡ true → b / 8 < length seats
carried_in seats words whole b e =
    let some = some_word words b e in
    let w = get_or words some.0 no_word in
    let found = some_is (lane_below 8 (lanes_of w) (b / 8)) some.2 in
    let at = found_lane 8 (lanes_of w) (b / 8) found.0 found.1 in
    subst (λ byte. byte < length seats) at.1.1 (whole.sound some.0 found.0 some.1 at.0 (set_from_bit w.lanes found.0 at.1.0)).0

tested : (a b : Bool) → (a ≡ true → b ≡ true) → (b ≡ true → a ≡ true) → a ≡ b
tested true true f g = refl
tested true false f g = let h = f refl in cc
tested false true f g = let h = g refl in cc
tested false false f g = refl

pub parts_from : (seats : List Seat) (words : List Word) → IsPartition seats words → AreParts words
parts_from seats words whole = parts_of (λ b. number seats (b / 8)) 0 words (λ i b low e. omega (arith, number_is seats words whole i b low e))

pub reach_from : (seats : List Seat) (words : List Word) (bytes : ℕ) → length seats ≡ bytes → IsPartition seats words → (b : ℕ) → have_bit words b ≡ nat_lt (b / 8) bytes
reach_from seats words bytes long whole b =
    tested (have_bit words b) (nat_lt (b / 8) bytes)
    (λ e. lt_true (b / 8) bytes (omega (arith, carried_in seats words whole b e, long)))
    (λ e. let inside : b / 8 < length seats = omega (arith, lt_from (b / 8) bytes e, long) in
    some_has words (number seats (b / 8)) b (whole.placed (b / 8) inside).0 (has_there seats words whole b inside))
