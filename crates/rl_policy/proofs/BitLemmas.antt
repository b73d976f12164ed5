-- The bits of what the operators make of words.
use Rattle.std.proofs.Common.{◌≡◌, ℕ, zero, suc, ◌+◌, ◌-◌, ◌*◌, ◌/◌, ◌%◌, ◌^◌, ◌<◌, ◌≤◌, Bool, true, false, not, ◌&&◌, ◌||◌, cond, eqb, min, max, refl, sym, ap, ◌∙◌, arith}
use Rattle.std.specs.Prelude.{bit_and, bit_or, bit_xor}
use Rattle.std.proofs.lemmas.Nat.{and_le_l, xor_lt, and_mask, mod_below, pow_pos, shr-shr}
use Rattle.std.specs.Int.{bit_at, bit_not, w64}
use Rattle.std.proofs.Common.{ltb, leb, ⊎_elim, lt-ltb, le-ltb}
use Rattle.std.proofs.lemmas.Bool.{cases_lt, le-leb, lt-leb, and_left}
use Rattle.std.proofs.Math.Nat.{pow-suc}
use Rattle.std.proofs.lemmas.Nat.Bits.{bit_at_and, bit_at_or, bit_at_xor, bit_at_not, bit_at_ones, bit_at_above, bit_at-lt, bit_at-zero, bit_at_cat_low, bit_at_cat_high, same_from_bits_below}
use Rattle.rl_policy.specs.Bits.{bit, from_bits}
use Rattle.rl_policy.specs.Table.{either_alone}

-- a claim of two digits, from its four cases
by_digits : (P : ℕ → ℕ → Type 0) → P 0 0 → P 0 1 → P 1 0 → P 1 1 → (x y : ℕ) → x < 2 → y < 2 → P x y
by_digits P a b c d zero zero p q = a
by_digits P a b c d zero (suc zero) p q = b
by_digits P a b c d (suc zero) zero p q = c
by_digits P a b c d (suc zero) (suc zero) p q = d
by_digits P a b c d (suc (suc x)) y p q = absurd (omega arith)
by_digits P a b c d x (suc (suc y)) p q = absurd (omega arith)

min_digit : (x y : ℕ) → x < 2 → y < 2 → eqb (min x y) 1 ≡ (eqb x 1 && eqb y 1)
min_digit = by_digits (λ x y. eqb (min x y) 1 ≡ (eqb x 1 && eqb y 1)) refl refl refl refl

max_digit : (x y : ℕ) → x < 2 → y < 2 → eqb (max x y) 1 ≡ (eqb x 1 || eqb y 1)
max_digit = by_digits (λ x y. eqb (max x y) 1 ≡ (eqb x 1 || eqb y 1)) refl refl refl refl

sum_digit : (x y : ℕ) → x < 2 → y < 2 → eqb ((x + y) % 2) 1 ≡ either_alone (eqb x 1) (eqb y 1)
sum_digit = by_digits (λ x y. eqb ((x + y) % 2) 1 ≡ either_alone (eqb x 1) (eqb y 1)) refl refl refl refl

not_digit : (x : ℕ) → x < 2 → eqb (1 - x) 1 ≡ not (eqb x 1)
not_digit zero p = refl
not_digit (suc zero) p = refl
not_digit (suc (suc x)) p = absurd (omega arith)

pub bit-and : (a b i : ℕ) → bit (bit_and a b) i ≡ (bit a i && bit b i)
unfolding bit
bit-and a b i = ap (λ x. eqb x 1) (bit_at_and a b i) ∙ min_digit _ _ (bit_at-lt a i) (bit_at-lt b i)

pub bit-or : (a b i : ℕ) → bit (bit_or a b) i ≡ (bit a i || bit b i)
unfolding bit
bit-or a b i = ap (λ x. eqb x 1) (bit_at_or a b i) ∙ max_digit _ _ (bit_at-lt a i) (bit_at-lt b i)

pub bit-xor : (a b i : ℕ) → bit (bit_xor a b) i ≡ either_alone (bit a i) (bit b i)
unfolding bit
bit-xor a b i = ap (λ x. eqb x 1) (bit_at_xor a b i) ∙ sum_digit _ _ (bit_at-lt a i) (bit_at-lt b i)

pub bit-not : (a i : ℕ) → a < 2 ^ 64 → i < 64 → bit (bit_not w64 a) i ≡ not (bit a i)
unfolding bit
bit-not a i fits within = ap (λ x. eqb x 1) (bit_at_not w64 a i fits within) ∙ not_digit _ (bit_at-lt a i)

pub bit-ones : (k i : ℕ) → i < k → bit (2 ^ k - 1) i ≡ true
unfolding bit
bit-ones k i within = ap (λ x. eqb x 1) (bit_at_ones k i within)

pub bit-zero : (i : ℕ) → bit 0 i ≡ false
unfolding bit
bit-zero i = ap (λ x. eqb x 1) (bit_at-zero i)

-- `u64::MAX` has all bits set
pub bit-max : (i : ℕ) → i < 64 → bit (2 ^ 64 - 1) i ≡ true
bit-max i within = bit-ones 64 i within

-- `bit-not` asks for this of `!(a ^ b)`
pub xor_of_64 : (a b : ℕ) → a < 2 ^ 64 → b < 2 ^ 64 → bit_xor a b < 2 ^ 64
xor_of_64 a b p q = xor_lt 64 a b p q

pub and_of_64 : (a b : ℕ) → a < 2 ^ 64 → bit_and a b < 2 ^ 64
and_of_64 a b p = omega (arith, and_le_l a b)

-- the bits of what `&`, `|`, `^`, `!`, 0 and `MAX` make of words
pub ruleset word_bits = (bit-and, bit-or, bit-xor, bit-not, bit-zero, bit-max, xor_of_64, and_of_64)

-- ---- shifts and masks

pub bit-above : (n k i : ℕ) → n < 2 ^ k → k ≤ i → bit n i ≡ false
unfolding bit
bit-above n k i fits above = ap (λ x. eqb x 1) (bit_at_above n k i fits above)

-- a mask has the bits below its width
pub bit-mask : (k i : ℕ) → bit (2 ^ k - 1) i ≡ ltb i k
bit-mask k i =
    ⊎_elim
    (λ l. bit-ones k i l ∙ sym (lt-ltb i k l))
    (λ g. bit-above (2 ^ k - 1) k i (omega (arith, pow_pos k)) g ∙ sym (le-ltb i k g))
    (cases_lt i k)

and-true : (b : Bool) → (b && true) ≡ b
and-true true = refl
and-true false = refl

pub bit-mod : (n k i : ℕ) → i < k → bit (n % 2 ^ k) i ≡ bit n i
bit-mod n k i within = ap (λ x. bit x i) (sym (and_mask n k)) ∙ bit-and n _ i ∙ ap (λ b. bit n i && b) (bit-ones k i within) ∙ and-true _

pub bit-shr : (n k i : ℕ) → bit (n / 2 ^ k) i ≡ bit n (k + i)
unfolding bit
bit-shr n k i = ap (λ x. eqb (x % 2) 1) (shr-shr n k i)

-- `n << k` at 64 bits
pub bit-shl : (n k i : ℕ) → i < 64 → bit (n * 2 ^ k % 2 ^ 64) i ≡ (leb k i && bit n (i - k))
unfolding bit
bit-shl n k i within =
    bit-mod (n * 2 ^ k) 64 i within ∙ ap (λ x. bit x i) plain
    ∙ ⊎_elim
    (λ l. ap (λ x. eqb x 1) (bit_at_cat_low n k 0 i l ∙ bit_at-zero i) ∙ sym (and_left (leb k i) (bit n (i - k)) (lt-leb k i l)))
    (λ g. ap (λ x. eqb x 1) (bit_at_cat_high n k 0 i (pow_pos k) g) ∙ sym (ap (λ b. b && bit n (i - k)) (le-leb k i g)))
    (cases_lt i k)
  where
    plain : n * 2 ^ k ≡ n * 2 ^ k + 0
    plain = omega arith

-- ---- numbers made from bits

from_bits-step : (k : ℕ) (f : ℕ → Bool) → from_bits (suc k) f ≡ cond (f k) 1 0 * 2 ^ k + from_bits k f
unfolding from_bits
from_bits-step k f = by (f k)
  where
    by : (b : Bool) → from_bits k f + cond b (2 ^ k) 0 ≡ cond b 1 0 * 2 ^ k + from_bits k f
    by true = omega arith
    by false = omega arith

digit-lt : (b : Bool) → cond b 1 0 < 2
digit-lt true = omega arith
digit-lt false = omega arith

digit_lowest : (b : Bool) → eqb (bit_at (cond b 1 0) 0) 1 ≡ b
digit_lowest true = refl
digit_lowest false = refl

from_bits-none : (f : ℕ → Bool) → from_bits 0 f < 2 ^ 0
unfolding from_bits
from_bits-none f = omega arith

top_lt : (d : Bool) (k r : ℕ) → r < 2 ^ k → cond d 1 0 * 2 ^ k + r < 2 ^ suc k
top_lt true k r fits = omega (arith, pow-suc 2 k)
top_lt false k r fits = omega (arith, pow-suc 2 k)

pub from_bits-lt : (k : ℕ) (f : ℕ → Bool) → from_bits k f < 2 ^ k
from_bits-lt zero f = from_bits-none f
from_bits-lt (suc k) f = rw from_bits-step (top_lt (f k) k _ (from_bits-lt k f))

bit-cat_low : (a k b i : ℕ) → i < k → bit (a * 2 ^ k + b) i ≡ bit b i
unfolding bit
bit-cat_low a k b i l = ap (λ x. eqb x 1) (bit_at_cat_low a k b i l)

bit-cat_top : (d : Bool) (k b : ℕ) → b < 2 ^ k → bit (cond d 1 0 * 2 ^ k + b) k ≡ d
unfolding bit
bit-cat_top d k b fits =
    let z : k - k ≡ 0 = omega arith in
    ap (λ x. eqb x 1) (bit_at_cat_high (cond d 1 0) k b k fits (omega arith)) ∙ ap (λ j. eqb (bit_at (cond d 1 0) j) 1) z ∙ digit_lowest d

pub bit-from_bits : (k : ℕ) (f : ℕ → Bool) (i : ℕ) → i < k → bit (from_bits k f) i ≡ f i
bit-from_bits zero f i within = absurd (omega arith)
bit-from_bits (suc k) f i within =
    ap (λ x. bit x i) (from_bits-step k f)
    ∙ ⊎_elim
    (λ l. bit-cat_low _ k _ i l ∙ bit-from_bits k f i l)
    (λ g. let e : i ≡ k = omega arith in rw e (bit-cat_top (f k) k _ (from_bits-lt k f)))
    (cases_lt i k)

same_digits : (x y : ℕ) → x < 2 → y < 2 → eqb x 1 ≡ eqb y 1 → x ≡ y
same_digits zero zero p q e = refl
same_digits zero (suc zero) p q e = cc
same_digits (suc zero) zero p q e = cc
same_digits (suc zero) (suc zero) p q e = refl
same_digits (suc (suc x)) y p q e = absurd (omega arith)
same_digits x (suc (suc y)) p q e = absurd (omega arith)

-- two numbers of k bits with the same bits are equal
pub same_from_bits : (k a b : ℕ) → a < 2 ^ k → b < 2 ^ k → ((i : ℕ) → i < k → bit a i ≡ bit b i) → a ≡ b
unfolding bit
same_from_bits k a b p q h = same_from_bits_below k a b p q (λ i l. same_digits _ _ (bit_at-lt a i) (bit_at-lt b i) (h i l))

pub is_from_bits : (k n : ℕ) (f : ℕ → Bool) → n < 2 ^ k → ((i : ℕ) → i < k → bit n i ≡ f i) → n ≡ from_bits k f
is_from_bits k n f fits same = same_from_bits k n _ fits (from_bits-lt k f) (λ i l. same i l ∙ sym (bit-from_bits k f i l))

-- the low k bits of a word
pub from_low_bits : (k n m : ℕ) (f : ℕ → Bool) → m ≡ 2 ^ k - 1 → ((i : ℕ) → i < k → bit n i ≡ f i) → bit_and n m ≡ from_bits k f
from_low_bits k n m f is_mask same =
    ap (bit_and n) is_mask ∙ and_mask n k
    ∙ is_from_bits k (n % 2 ^ k) f (mod_below n (2 ^ k) (pow_pos k)) (λ i l. bit-mod n k i l ∙ same i l)

pub from_bits-same : (k : ℕ) (f g : ℕ → Bool) → ((i : ℕ) → i < k → f i ≡ g i) → from_bits k f ≡ from_bits k g
from_bits-same k f g same = is_from_bits k (from_bits k f) g (from_bits-lt k f) (λ i l. bit-from_bits k f i l ∙ same i l)
