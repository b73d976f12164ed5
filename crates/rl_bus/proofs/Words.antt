-- How large a word is.
use Rattle.std.proofs.Common.{◌≡◌, ℕ, zero, suc, ◌-◌, ◌/◌, ◌%◌, ◌^◌, ◌<◌, ◌≤◌, arith, subst, sym}
use Rattle.std.proofs.Math.Nat.{pow-suc, pow-le-pow_right, div-lt_iff_lt-mul}
use Rattle.rl_bus.specs.declared.transfer.Transfer.{Transfer}
use Rattle.rl_bus.specs.declared.transfer.Transfer.TheVariants as form
use Rattle.rl_bus.specs.Lanes.{HasOnlyLanes, IsWord}
use Rattle.rl_bus.specs.Wire.{carried_by, IsWellFormed}

-- a word has no more than its bytes
pub word_below : (n lanes word : ℕ) → HasOnlyLanes n lanes word → word < 256 ^ n
unfolding HasOnlyLanes
word_below zero lanes word h = omega arith
word_below (suc n) lanes word h =
    rw (pow-suc 256 n) ((div-lt_iff_lt-mul {k = 256} {x = word} {y = 256 ^ n} (omega arith)).0 (word_below n (lanes / 2) (word / 256) h.1))

-- a word of at most 4 bytes
pub word_below_4 : (bytes lanes word : ℕ) → IsWord bytes lanes word → bytes ≤ 4 → word < 2 ^ 32
word_below_4 bytes lanes word h le =
    let below = word_below bytes lanes word h.only in
    let most : 256 ^ bytes ≤ 256 ^ 4 = pow-le-pow_right {n = 256} (omega arith) le in
    omega arith

-- what a transfer carries has no more than its bytes
pub carried_below : (t : Transfer) → IsWellFormed t → (carried_by t).word < 256 ^ (carried_by t).bytes
carried_below (form.Plain plain) h = word_below plain.op.bytes plain.op.lanes plain.op.word h.only
carried_below (form.Apb apb) h = word_below apb.bytes apb.pstrb apb.pwdata h.0.only

-- one byte of a word, and those above it
pub one_lane : (n lanes word : ℕ) → 0 < n → (lanes % 2 ≡ 0 → word % 256 ≡ 0) → HasOnlyLanes (n - 1) (lanes / 2) (word / 256) → HasOnlyLanes n lanes word
unfolding HasOnlyLanes
one_lane zero lanes word some low high = absurd (omega arith)
one_lane (suc n) lanes word some low high = (low, subst (λ k. HasOnlyLanes k (lanes / 2) (word / 256)) (sub-one-suc n) high)
  where
    sub-one-suc : (n : ℕ) → suc n - 1 ≡ n
    sub-one-suc n = omega arith

pub no_lane : (n lanes word : ℕ) → n ≡ 0 → word ≡ 0 → HasOnlyLanes n lanes word
unfolding HasOnlyLanes
no_lane n lanes word none e = subst (λ k. HasOnlyLanes k lanes word) (sym none) e

-- the same read backwards
pub low_lane : (n lanes word : ℕ) → 0 < n → HasOnlyLanes n lanes word → lanes % 2 ≡ 0 → word % 256 ≡ 0
unfolding HasOnlyLanes
low_lane zero lanes word some h = absurd (omega arith)
low_lane (suc n) lanes word some h = h.0

pub high_lanes : (n lanes word : ℕ) → 0 < n → HasOnlyLanes n lanes word → HasOnlyLanes (n - 1) (lanes / 2) (word / 256)
unfolding HasOnlyLanes
high_lanes zero lanes word some h = absurd (omega arith)
high_lanes (suc n) lanes word some h = subst (λ k. HasOnlyLanes k (lanes / 2) (word / 256)) (suc-sub-one n) h.1
  where
    suc-sub-one : (n : ℕ) → n ≡ suc n - 1
    suc-sub-one n = omega arith

pub no_word : (n lanes word : ℕ) → n ≡ 0 → HasOnlyLanes n lanes word → word ≡ 0
unfolding HasOnlyLanes
no_word n lanes word none h = let P : ℕ → Type 0 = λ k. HasOnlyLanes k lanes word in subst P none h

pub ruleset by_lanes = (one_lane, no_lane, low_lane, high_lanes, no_word)
