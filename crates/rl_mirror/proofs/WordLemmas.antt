-- Words that are made field by field.
use Rattle.std.proofs.Common.{◌≡◌, ℕ, zero, suc, ◌+◌, ◌*◌, ◌^◌, ◌<◌, ◌≤◌, Bool, true, false, length, List, Option, Some, None, refl, sym, ap, subst, ◌∙◌, inl, inr, arith}
use Rattle.std.specs.Option.{option_map_or}
use Rattle.std.proofs.lemmas.Bool.{cases_lt, ltb-true, and_parts}
use Rattle.std.specs.Prelude.{nat_le, nat_lt}
use Rattle.std.proofs.Math.Pow.{pow_mono}
use Rattle.std.proofs.Math.Nat.{pow-suc}
use Rattle.std.proofs.lemmas.Nat.{pow-add}
use Rattle.rl_policy.specs.Bits.{bit, from_bits}
use Rattle.rl_policy.proofs.BitLemmas.{bit-from_bits, is_from_bits, from_bits-lt, from_bits-same, same_from_bits, bit-above, bit-zero}
use Rattle.rl_model.specs.Rows.{FieldSeen, ChipData}
use Rattle.rl_model.specs.Chip.{IsSound}
use Rattle.rl_model.specs.Fields.{field_in, covers, place_at, fields_of, size_of}
use Rattle.rl_mirror.specs.Fields.{word_by_field, owned}
use Rattle.rl_mirror.specs.Mirror.{IsValueOf}
use Rattle.rl_mirror.proofs.PlaceLemmas.{IsFieldList, place_is, so_far, so_far-all}
use Rattle.rl_mirror.proofs.FieldLemmas.{field_list}

pub bit-word_by_field : (fs : List FieldSeen) (part : ℕ → ℕ → Bool) (b : ℕ) → b < 64 → bit (word_by_field fs part) b ≡ option_map_or (λ k. part k b) (place_at fs b) false
unfolding word_by_field
bit-word_by_field fs part b l = bit-from_bits 64 (λ b. option_map_or (λ k. part k b) (place_at fs b) false) b l

pub is_word_by_field : (fs : List FieldSeen) (part : ℕ → ℕ → Bool) (n : ℕ) → n < 2 ^ 64 → ((b : ℕ) → b < 64 → bit n b ≡ option_map_or (λ k. part k b) (place_at fs b) false) → n ≡ word_by_field fs part
unfolding word_by_field
is_word_by_field fs part n fits same = is_from_bits 64 n (λ b. option_map_or (λ k. part k b) (place_at fs b) false) fits same

pub word_by_field-same : (fs : List FieldSeen) (p q : ℕ → ℕ → Bool) → ((k b : ℕ) → k < length fs → b < 64 → covers (field_in fs k).shape b ≡ true → p k b ≡ q k b) →
    word_by_field fs p ≡ word_by_field fs q
unfolding word_by_field
word_by_field-same fs p q same = from_bits-same 64 (λ b. option_map_or (λ k. p k b) (place_at fs b) false) (λ b. option_map_or (λ k. q k b) (place_at fs b) false) (λ b l. by b l (place_at fs b) refl)
  where
    by : (b : ℕ) → b < 64 → (o : Option ℕ) → place_at fs b ≡ o → option_map_or (λ k. p k b) o false ≡ option_map_or (λ k. q k b) o false
    by b l None at = refl
    by b l (Some k) at = let found = place_is fs b k at in same k b found.0 l found.1

word_of_64 : (fs : List FieldSeen) (part : ℕ → ℕ → Bool) → word_by_field fs part < 2 ^ 64
unfolding word_by_field
word_of_64 fs part = from_bits-lt 64 (λ b. option_map_or (λ k. part k b) (place_at fs b) false)

pub owned-word_by_field : (fs : List FieldSeen) (part : ℕ → ℕ → Bool) → owned fs (word_by_field fs part) ≡ word_by_field fs part
owned-word_by_field fs part = sym (is_word_by_field fs (λ k b. bit (word_by_field fs part) b) (word_by_field fs part) (word_of_64 fs part) (λ b l. bit-word_by_field fs part b l ∙ by b l
    (place_at fs b) refl))
  where
    by : (b : ℕ) → b < 64 → (o : Option ℕ) → place_at fs b ≡ o → option_map_or (λ k. part k b) o false ≡ option_map_or (λ k. bit (word_by_field fs part) b) o false
    by b l None at = refl
    by b l (Some k) at = sym (bit-word_by_field fs part b l ∙ ap (λ (o : Option ℕ). option_map_or (λ k. part k b) o false) at)

-- a value with 0 in the bits without a field
pub owned_bit : (fs : List FieldSeen) (v b : ℕ) → v ≡ owned fs v → b < 64 → bit v b ≡ option_map_or (λ k. bit v b) (place_at fs b) false
owned_bit fs v b is l = ap (λ n. bit n b) is ∙ bit-word_by_field fs (λ k b. bit v b) b l

-- all fields of a word were taken, and it was such a value before
pub finished : (bits : ℕ) (fs : List FieldSeen) (n b : ℕ) (part : ℕ → Bool) (kept : ℕ) → IsFieldList bits fs → n ≡ length fs → kept ≡ owned fs kept → b < 64
    → so_far n part (place_at fs b) (bit kept b) ≡ option_map_or part (place_at fs b) false
finished bits fs n b part kept list end is l =
    so_far-all n part (place_at fs b) (bit kept b) (λ k at. omega (arith, (place_is fs b k at).0, end)) ∙ by (place_at fs b) (owned_bit fs kept b is l)
  where
    by : (o : Option ℕ) → bit kept b ≡ option_map_or (λ k. bit kept b) o false → option_map_or part o (bit kept b) ≡ option_map_or part o false
    by None e = e
    by (Some k) e = refl

pub owned_zero : (fs : List FieldSeen) → 0 ≡ owned fs 0
owned_zero fs = is_word_by_field fs (λ k b. bit 0 b) 0 (omega arith) (λ b l. bit-zero b ∙ by b (place_at fs b))
  where
    by : (b : ℕ) (o : Option ℕ) → false ≡ option_map_or (λ k. bit 0 b) o false
    by b None = refl
    by b (Some k) = sym (bit-zero b)

-- ---- how large it is

pub small_from_bits : (n k : ℕ) → n < 2 ^ 64 → k ≤ 64 → ((b : ℕ) → k ≤ b → b < 64 → bit n b ≡ false) → n < 2 ^ k
small_from_bits n k fits most none =
    let low : from_bits k (bit n) < 2 ^ k = from_bits-lt k (bit n) in
    let least : 2 ^ k ≤ 2 ^ 64 = pow_mono most in
    let same : n ≡ from_bits k (bit n) = same_from_bits 64 n (from_bits k (bit n)) fits (omega (arith, low, least)) (λ b l.
    elim (cases_lt b k) [
      | inl within ↦ sym (bit-from_bits k (bit n) b within)
      | inr above ↦ none b above l ∙ sym (bit-above (from_bits k (bit n)) k b low above)
    ]) in
    subst (λ (m : ℕ). m < 2 ^ k) (sym same) low

-- the bits of a list of fields
pub word_by_field-lt : (bits : ℕ) (fs : List FieldSeen) (part : ℕ → ℕ → Bool) → IsFieldList bits fs → word_by_field fs part < 2 ^ bits
word_by_field-lt bits fs part list = small_from_bits (word_by_field fs part) bits (word_of_64 fs part) list.most (λ b above l. bit-word_by_field fs part b l ∙ by b above (place_at fs b) refl)
  where
    by : (b : ℕ) → bits ≤ b → (o : Option ℕ) → place_at fs b ≡ o → option_map_or (λ k. part k b) o false ≡ false
    by b above None at = refl
    by b above (Some k) at =
        let found = place_is fs b k at in
        let f = (field_in fs k).shape in
        let (from, to) = and_parts (nat_le f.lsb b) (nat_lt b (f.lsb + f.width)) found.1 in
        let end : b < f.lsb + f.width = ltb-true b (f.lsb + f.width) to in
        absurd (omega (arith, list.inside k found.0))

pub bytes_pow : (n : ℕ) → 2 ^ (8 * n) ≡ 256 ^ n
bytes_pow zero = refl
bytes_pow (suc n) =
    let e : 8 * suc n ≡ 8 * n + 8 = omega arith in
    ap (λ k. 2 ^ k) e ∙ pow-add 2 (8 * n) 8 ∙ ap (λ p. p * 256) (bytes_pow n) ∙ sym (pow-suc 256 n)

-- such a word is a value of its register
pub word_is_value : (c : ChipData) (reg : ℕ) (part : ℕ → ℕ → Bool) → IsSound c → reg < length c.regs → IsValueOf c reg (word_by_field (fields_of c reg) part)
word_is_value c reg part sound l = record {
  fits = rw (← bytes_pow (size_of c reg)) (word_by_field-lt (8 * size_of c reg) (fields_of c reg) part (field_list c reg sound l));
  owned = sym (owned-word_by_field (fields_of c reg) part);
}
