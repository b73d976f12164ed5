-- The bytes of one field.
use Rattle.std.proofs.Common.{◌≡◌, ℕ, zero, suc, ◌+◌, ◌-◌, ◌*◌, ◌^◌, ◌<◌, ◌≤◌, nat_le, nat_lt, ◌&&◌, Bool, true, false, refl, sym, ap, ◌∙◌, subst, arith}
use Rattle.std.proofs.Math.Nat.{pow-le-pow_right}
use borrow.Author.Tests.{ltb-true, ltb-false, le-leb, lt-leb, lt-ltb, le-ltb}
use Rattle.std.specs.Int.{div_ceil}
use Rattle.std.proofs.lemmas.Grind.{div_ceil_times}
use Rattle.rl_policy.specs.Bits.{bit, from_bits, is_within}
use Rattle.rl_policy.proofs.BitLemmas.{from_bits-lt, bit-from_bits, bit-above, bit-zero, same_from_bits, is_from_bits}
use Rattle.rl_model.specs.declared.rows.Field.{Field}
use Rattle.rl_split.specs.Access.{IsChoice}
use Rattle.rl_split.specs.Narrow.{first_byte, last_byte, touches, bytes_of_field}
use Rattle.rl_access.specs.Access.{IsFieldIn}
use Rattle.rl_access.proofs.Bytes.{digit_bits}

pub by_test : (i k : ℕ) (P : Type 0) (b : Bool) → nat_lt i k ≡ b → (i < k → P) → (k ≤ i → P) → P
by_test i k P true e below above = below (ltb-true i k e)
by_test i k P false e below above = above (ltb-false i k e)

-- a number whose bits from k on are 0
pub below_by_bits : (size k n : ℕ) → n < 2 ^ size → k ≤ size → ((i : ℕ) → k ≤ i → i < size → bit n i ≡ false) → n < 2 ^ k
below_by_bits size k n small most none =
    let low = from_bits-lt k (bit n) in
    let wide : 2 ^ k ≤ 2 ^ size = pow-le-pow_right {n = 2} (omega arith) most in
    let same : n ≡ from_bits k (bit n) = same_from_bits size n (from_bits k (bit n)) small (omega (arith, low, wide))
    (λ i inside. by_test i k (bit n i ≡ bit (from_bits k (bit n)) i) (nat_lt i k) refl
    (λ h. sym (bit-from_bits k (bit n) i h))
    (λ h. none i h inside ∙ sym (bit-above (from_bits k (bit n)) k i low h))) in
    subst (λ x. x < 2 ^ k) (sym same) low

positive : (n i : ℕ) → bit n i ≡ true → 0 < n
positive zero i e = absurd (let none = bit-zero i in cc)
positive (suc n) i e = omega arith

pub and_false : (a b : Bool) → b ≡ false → (a && b) ≡ false
and_false true b e = e
and_false false b e = refl

and_true : (a b : Bool) → a ≡ true → b ≡ true → (a && b) ≡ true
and_true true b e h = h
and_true false b e h = e

-- the bytes of a field are a choice of its register's
pub field_chosen : (bytes : ℕ) (f : Field) → IsFieldIn bytes f → IsChoice bytes (bytes_of_field f)
unfolding bytes_of_field
field_chosen bytes f inside =
    let some = inside.some in
    let most = inside.most in
    let ends = inside.inside in
    let first : first_byte f < 8 = omega arith in
    let order : first_byte f ≤ last_byte f = omega arith in
    let last : last_byte f < bytes = omega arith in
    record {
      some = positive (from_bits 8 (touches f)) (first_byte f) (bit-from_bits 8 (touches f) (first_byte f) first ∙ and_true (nat_le (first_byte f) (first_byte f)) (nat_le (first_byte f)
          (last_byte f)) (le-leb (first_byte f) (first_byte f) (omega arith)) (le-leb (first_byte f) (last_byte f) order));
      within = below_by_bits 8 bytes (from_bits 8 (touches f)) (from_bits-lt 8 (touches f)) most
          (λ i above low. bit-from_bits 8 (touches f) i low ∙ and_false (nat_le (first_byte f) i) (nat_le i (last_byte f)) (lt-leb i (last_byte f) (omega arith)));
    }

up_to : (first last i : ℕ) → first ≤ last → nat_lt i (first + (last - first + 1)) ≡ nat_le i last
up_to first last i order =
    by_test i (first + (last - first + 1)) (nat_lt i (first + (last - first + 1)) ≡ nat_le i last) (nat_lt i (first + (last - first + 1))) refl
    (λ below. lt-ltb i (first + (last - first + 1)) below ∙ sym (le-leb i last (omega arith)))
    (λ above. le-ltb i (first + (last - first + 1)) above ∙ sym (lt-leb i last (omega arith)))

-- the bits from a field's first byte to its last one
pub field_window : (f : Field) (w : ℕ) → 1 ≤ f.width → f.lsb + f.width ≤ 64 → w < 2 ^ 64 → ((i : ℕ) → i < 64 → bit w i ≡ is_within (first_byte f) (last_byte f - first_byte f + 1) i) →
    (w < 2 ^ 8) × (w ≡ bytes_of_field f)
unfolding bytes_of_field
field_window f w some most small bits =
    let order : first_byte f ≤ last_byte f = omega arith in
    let last : last_byte f < 8 = omega arith in
    let each : (i : ℕ) → i < 64 → bit w i ≡ touches f i = λ i low. bits i low ∙ ap (λ b. nat_le (first_byte f) i && b) (up_to (first_byte f) (last_byte f) i order) in
    let eight : w < 2 ^ 8 = below_by_bits 64 8 w small (omega arith) (λ i above low. each i low ∙ and_false (nat_le (first_byte f) i) (nat_le i (last_byte f)) (lt-leb i (last_byte f) (omega arith)))
    in
    (eight, is_from_bits 8 w (touches f) eight (λ i low. each i (omega arith)))

-- a field's part of a word is below its digits' limit
pub part_small : (width value : ℕ) (f : ℕ → Bool) → value ≡ from_bits width f → value < 16 ^ div_ceil width 4
part_small width value f e =
    let low : from_bits width f < 2 ^ width = from_bits-lt width f in
    let digits = digit_bits (div_ceil width 4) in
    let room : width ≤ div_ceil width 4 * 4 = (div_ceil_times width 4 (omega arith)).0 in
    let wide : 2 ^ width ≤ 2 ^ (4 * div_ceil width 4) = pow-le-pow_right {n = 2} (omega arith) (omega arith) in
    subst (λ n. value < n) digits (subst (λ v. v < 2 ^ (4 * div_ceil width 4)) (sym e) (omega (arith, low, wide)))
