-- The digits of a word's lanes.
use Rattle.std.proofs.Common.{zero, ◌*◌, Bool, true, false, lt_trans, ◌≤◌, ◌&&◌, T, slice_range, eq-zero-or-pos, inl, inr, length-append, lit<, pow-suc}
use Rattle.std.proofs.Common.{◌≡◌, ℕ, suc, ◌+◌, ◌-◌, ◌/◌, ◌%◌, ◌^◌, ◌<◌, List, [], ◌∷◌, ◌++◌, length, take, append_assoc, refl, ap, ◌∙◌, arith}
use Rattle.rl_report.specs.Numbers.{lanes_text}
use Rattle.rl_report.specs.declared.numbers.TheConstants.{FOURS}
use Rattle.std.proofs.Math.Nat.{mul-div-mul_right, pow-le-pow_right}
use Rattle.std.proofs.Math.Seq.{take-append-add}
use lib.Ieee.Fits.{and_l, and_r}
use Rattle.std.specs.Str.{bytes_eq}
use Rattle.std.proofs.lemmas.Slice.Eq.{bytes_eq-Decides}
use Rattle.std.proofs.lemmas.Nat.{pow-add, mul-lt}

-- ---- four digits at a time

two_pow : (k : ℕ) → 0 < 2 ^ k
two_pow zero = lit< tt
two_pow (suc k) = let e : 2 ^ suc k ≡ 2 ^ k * 2 = pow-suc 2 k in omega (arith, e, two_pow k)

is_true : (b : Bool) → T b → b ≡ true
is_true true t = refl
is_true false t = absurd t

bytes_same : (xs ys : List ℕ) → T (bytes_eq xs ys) → xs ≡ ys
bytes_same xs ys t = (bytes_eq-Decides xs ys).0 (is_true (bytes_eq xs ys) t)

-- lanes that are moved up lose none
pub lanes_fit : (lanes bytes : ℕ) → lanes < 256 → lanes * 2 ^ (8 - bytes) < 2 ^ 64
lanes_fit lanes bytes h =
    let most : 2 ^ (8 - bytes) ≤ 256 = pow-le-pow_right {n = 2} (lit< tt) {i = 8 - bytes} {j = 8} (omega arith) in
    lt_trans (mul-lt lanes (2 ^ (8 - bytes)) 256 257 h (omega (arith, most))) (lit< tt)

abbrev are_fours : ℕ → Bool
are_fours zero = true
are_fours (suc p) = bytes_eq (slice_range FOURS (p * 4) (p * 4 + 4)) (lanes_text 4 p) && are_fours p

four_below : (n p : ℕ) → T (are_fours n) → p < n → slice_range FOURS (p * 4) (p * 4 + 4) ≡ lanes_text 4 p
four_below zero p t h = absurd (omega arith)
four_below (suc n) p t h =
    elim (eq-zero-or-pos (n - p)) [
      | inl z ↦ let e : p ≡ n = omega arith in rw e (bytes_same _ _ (and_l _ (are_fours n) t))
      | inr g ↦ four_below n p (and_r _ (are_fours n) t) (omega arith)
    ]

-- the four digits of a number below 16
pub four_at : (p : ℕ) → p < 16 → slice_range FOURS (p * 4) (p * 4 + 4) ≡ lanes_text 4 p
four_at p h = four_below 16 p tt h

lane_and : (a b : ℕ) (xs ys : List ℕ) → a ≡ b → xs ≡ ys → (48 + a) ∷ xs ≡ (48 + b) ∷ ys
lane_and a b xs ys d e = ap (λ n. (48 + n) ∷ xs) d ∙ ap (λ (l : List ℕ). (48 + b) ∷ l) e

-- eight digits are four and four
eight_lanes : (m : ℕ) → lanes_text 4 (m / 16 % 16) ++ lanes_text 4 (m % 16) ≡ lanes_text 8 m
eight_lanes m =
    lane_and (m / 16 % 16 / 8 % 2) (m / 128 % 2) _ _ (omega arith) (lane_and (m / 16 % 16 / 4 % 2) (m / 64 % 2) _ _ (omega arith)
    (lane_and (m / 16 % 16 / 2 % 2) (m / 32 % 2) _ _ (omega arith) (lane_and (m / 16 % 16 / 1 % 2) (m / 16 % 2) _ _ (omega arith)
    (lane_and (m % 16 / 8 % 2) (m / 8 % 2) _ _ (omega arith) (lane_and (m % 16 / 4 % 2) (m / 4 % 2) _ _ (omega arith)
    (lane_and (m % 16 / 2 % 2) (m / 2 % 2) _ _ (omega arith) (lane_and (m % 16 / 1 % 2) (m / 1 % 2) [] [] (omega arith) refl)))))))

-- lanes that are moved up have their digits in front
moved_lanes : (bytes k t lanes : ℕ) → t ≡ bytes + k → take bytes (lanes_text t (lanes * 2 ^ k)) ≡ lanes_text bytes lanes
moved_lanes zero k t lanes e = refl
moved_lanes (suc n) k zero lanes e = absurd (omega arith)
moved_lanes (suc n) k (suc t) lanes e =
    let place : t ≡ n + k = omega arith in
    let power : 2 ^ t ≡ 2 ^ n * 2 ^ k = ap (λ m. 2 ^ m) place ∙ pow-add 2 n k in
    let some : 0 < 2 ^ k = two_pow k in
    let same : lanes * 2 ^ k / 2 ^ t ≡ lanes / 2 ^ n = ap (λ p. lanes * 2 ^ k / p) power ∙ mul-div-mul_right {m = 2 ^ k} lanes (2 ^ n) some in
    lane_and (lanes * 2 ^ k / 2 ^ t % 2) (lanes / 2 ^ n % 2) _ _ (ap (λ d. d % 2) same) (moved_lanes n k t lanes place)

-- a text to which eight digits were appended, and the last dropped
pub lanes_pushed : (old mid high new : List ℕ) (bytes lanes : ℕ) → bytes ≤ 8 → mid ≡ old ++ lanes_text 4 (lanes * 2 ^ (8 - bytes) / 16 % 16)
    → high ≡ mid ++ lanes_text 4 (lanes * 2 ^ (8 - bytes) % 16) → new ≡ take (length high - (8 - bytes)) high
    → new ≡ old ++ lanes_text bytes lanes
lanes_pushed old mid high new bytes lanes few d e f =
    let m = lanes * 2 ^ (8 - bytes) in
    let whole : high ≡ old ++ lanes_text 8 m =
    e ∙ ap (λ l. l ++ lanes_text 4 (m % 16)) d ∙ append_assoc old (lanes_text 4 (m / 16 % 16)) (lanes_text 4 (m % 16)) ∙ ap (λ l. old ++ l) (eight_lanes m) in
    let size : length high ≡ length old + 8 = ap length whole ∙ length-append old (lanes_text 8 m) in
    let left : length high - (8 - bytes) ≡ length old + bytes = omega (arith, size) in
    f ∙ ap (λ n. take n high) left ∙ ap (take (length old + bytes)) whole ∙ take-append-add old (lanes_text 8 m) bytes
    ∙ ap (λ l. old ++ l) (moved_lanes bytes (8 - bytes) 8 lanes (omega arith))
