-- The lanes of a bus word.
use Rattle.std.proofs.Common.{◌≡◌, ℕ, zero, suc, ◌+◌, ◌-◌, ◌*◌, ◌/◌, ◌%◌, ◌<◌, Bool, true, false, ◌&&◌, ◌||◌, cond, eqb}
use Rattle.std.proofs.Common.{ltb, Some, None, is_some, refl, ap, ◌∙◌, subst, arith, add-one, eqb-true}
use Rattle.std.specs.Prelude.{slice_index}
use Rattle.std.proofs.lemmas.Bool.Decides.{nat_tests}
use Rattle.rl_policy.specs.Bits.{bit, is_within, put_bit, from_bits}
use Rattle.rl_policy.proofs.BitLemmas.{bit-from_bits}
use Rattle.rl_bus.specs.declared.table.Lanes.{Lanes}
use Rattle.rl_bus.specs.Spread.{lane_below, bit_in}

pub lane_below-none : (s : Lanes) (j : ℕ) → lane_below 0 s j ≡ None
unfolding lane_below
lane_below-none s j = refl

pub lane_below-more : (l : ℕ) (s : Lanes) (j : ℕ) → lane_below (l + 1) s j ≡ cond (bit s.enabled l && eqb (slice_index s.bytes l) j) (Some l) (lane_below l s j)
unfolding lane_below
lane_below-more l s j = rw add-one refl

-- the lane that carries a byte is enabled and names it
pub found_lane : (n : ℕ) (s : Lanes) (j l : ℕ) → lane_below n s j ≡ Some l → (l < n) × ((bit s.enabled l ≡ true) × (slice_index s.bytes l ≡ j))
unfolding lane_below
found_lane zero s j l e = absurd cc
found_lane (suc k) s j l e = by (bit s.enabled k) (eqb (slice_index s.bytes k) j) refl refl e (found_lane k s j l)
  where
    by : (a t : Bool) → bit s.enabled k ≡ a → eqb (slice_index s.bytes k) j ≡ t → cond (a && t) (Some k) (lane_below k s j) ≡ Some l → (lane_below k s j ≡ Some l →
        (l < k) × ((bit s.enabled l ≡ true) × (slice_index s.bytes l ≡ j))) → (l < suc k) × ((bit s.enabled l ≡ true) × (slice_index s.bytes l ≡ j))
    by true true p q e more = let same : k ≡ l = cc in (omega arith, (subst (λ l. bit s.enabled l ≡ true) same p, subst (λ l. slice_index s.bytes l ≡ j) same (eqb-true _ j q)))
    by true false p q e more = let h = more e in (omega (arith, h.0), (h.1.0, h.1.1))
    by false t p q e more = let h = more e in (omega (arith, h.0), (h.1.0, h.1.1))

-- bit b lies in byte j
pub byte_within : (j b : ℕ) → is_within (8 * j) 8 b ≡ eqb j (b / 8)
byte_within j b = grind (arith, nat_tests)

-- a byte taken out of one word and put into another, bit by bit
pub moved_bit : (from to b : ℕ) (source target : ℕ → Bool) → put_bit (8 * to) 8 (bit (from_bits 8 (λ i. source (8 * from + i)))) target b ≡ cond (eqb to (b / 8)) (source (8 * from + b % 8)) (target b)
moved_bit from to b source target = ap (λ t. cond t (bit (from_bits 8 (λ i. source (8 * from + i))) (b - 8 * to)) (target b)) (byte_within to b) ∙ by (eqb to (b / 8)) refl
  where
    by : (t : Bool) → eqb to (b / 8) ≡ t → cond t (bit (from_bits 8 (λ i. source (8 * from + i))) (b - 8 * to)) (target b) ≡ cond t (source (8 * from + b % 8)) (target b)
    by true e =
        let here : b - 8 * to ≡ b % 8 = grind (arith, nat_tests) in
        let small : b % 8 < 8 = omega arith in
        rw here (bit-from_bits 8 (λ i. source (8 * from + i)) (b % 8) small)
    by false e = refl

-- one lane more of a word that is spread, on the bit at place i of byte j
pub spread_more : (s : Lanes) (l j i : ℕ) (word : ℕ → Bool) (x : Bool) → bit s.enabled l ≡ true → x ≡ bit_in (lane_below l s j) word i →
    cond (eqb (slice_index s.bytes l) j) (word (8 * l + i)) x ≡ bit_in (lane_below (l + 1) s j) word i
spread_more s l j i word x enabled h = rw (lane_below-more, enabled) (by (eqb (slice_index s.bytes l) j))
  where
    by : (t : Bool) → cond t (word (8 * l + i)) x ≡ bit_in (cond t (Some l) (lane_below l s j)) word i
    by true = refl
    by false = h

pub spread_less : (s : Lanes) (l j i : ℕ) (word : ℕ → Bool) (x : Bool) → bit s.enabled l ≡ false → x ≡ bit_in (lane_below l s j) word i → x ≡ bit_in (lane_below (l + 1) s j) word i
spread_less s l j i word x disabled h = rw (lane_below-more, disabled) h

-- the same of the bits that a lane carries
pub lane_more : (s : Lanes) (l j : ℕ) (x : Bool) → bit s.enabled l ≡ true → x ≡ is_some (lane_below l s j) → (x || eqb (slice_index s.bytes l) j) ≡ is_some (lane_below (l + 1) s j)
lane_more s l j x enabled h = rw (lane_below-more, enabled) (by x (eqb (slice_index s.bytes l) j) h)
  where
    by : (x t : Bool) → x ≡ is_some (lane_below l s j) → (x || t) ≡ is_some (cond t (Some l) (lane_below l s j))
    by true true h = refl
    by true false h = h
    by false true h = refl
    by false false h = h

pub lane_less : (s : Lanes) (l j : ℕ) (x : Bool) → bit s.enabled l ≡ false → x ≡ is_some (lane_below l s j) → x ≡ is_some (lane_below (l + 1) s j)
lane_less s l j x disabled h = rw (lane_below-more, disabled) h

-- one lane more of a word that is gathered, on the bit at place i of lane q
pub gather_more : (s : Lanes) (lane q i : ℕ) (bits : ℕ → Bool) (x : Bool) → bit s.enabled lane ≡ true → x ≡ (ltb q lane && (bit s.enabled q && bits (8 * slice_index s.bytes q + i))) →
    cond (eqb lane q) (bits (8 * slice_index s.bytes lane + i)) x ≡ (ltb q (lane + 1) && (bit s.enabled q && bits (8 * slice_index s.bytes q + i)))
gather_more s lane q i bits x e h = grind (arith, nat_tests)

pub gather_less : (s : Lanes) (lane q : ℕ) (v x : Bool) → bit s.enabled lane ≡ false → x ≡ (ltb q lane && (bit s.enabled q && v)) → x ≡ (ltb q (lane + 1) && (bit s.enabled q && v))
gather_less s lane q v x e h = grind (arith, nat_tests)

pub gather_all : (b : ℕ) (v x : Bool) → b < 64 → x ≡ (ltb (b / 8) 8 && v) → x ≡ v
gather_all b v x l h = grind (arith, nat_tests)

pub gather_none : (q : ℕ) (v : Bool) → false ≡ (ltb q 0 && v)
gather_none q v = grind (arith, nat_tests)
