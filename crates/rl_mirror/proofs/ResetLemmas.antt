-- Values after a reset.
use Rattle.std.proofs.Common.{◌≡◌, ℕ, ◌+◌, ◌^◌, ◌<◌, Bool, true, false, cond, eqb, leb, List, [], ◌∷◌, length, slice_get, Option, Some, None, refl, sym, ap, ◌∙◌, arith}
use Rattle.std.specs.Prelude.{nat_le, option_and_then}
use Rattle.std.specs.List.{list_any}
use Rattle.std.proofs.lemmas.Bool.{leb-false, or_parts}
use Rattle.std.proofs.lemmas.Option.{slice_get-get_or}
use Rattle.rl_model.specs.declared.rows.Reset.{Reset}
use Rattle.rl_model.specs.Rows.{FieldSeen, ChipData}
use Rattle.rl_model.specs.Chip.{IsSound, value_for}
use Rattle.rl_policy.specs.Bits.{bit, from_bits, put_bit}
use Rattle.rl_policy.proofs.BitLemmas.{is_from_bits, from_bits-same}
use Rattle.rl_model.specs.Fields.{no_field, field_of, first_of, fields_of, field_in, covers}
use Rattle.rl_mirror.specs.Prediction.{reset_bit}
use Rattle.rl_mirror.proofs.FieldLemmas.{seated, field_in-fields_of}

fits_from : (width kind : ℕ) (resets : List Reset) (v : ℕ) → list_any (λ r. nat_le (2 ^ width) r.value) resets ≡ false → value_for kind resets ≡ Some v → v < 2 ^ width
fits_from width kind [] v none found = cc
fits_from width kind (r ∷ rs) v none found =
    let (here, later) = or_parts (leb (2 ^ width) r.value) (list_any (λ r. nat_le (2 ^ width) r.value) rs) none in
    by (eqb r.kind kind) (leb-false (2 ^ width) r.value here) (λ found. fits_from width kind rs v later found) found
  where
    by : (t : Bool) → r.value < 2 ^ width → (value_for kind rs ≡ Some v → v < 2 ^ width) → cond t (Some r.value) (value_for kind rs) ≡ Some v → v < 2 ^ width
    by true small rest e = let same : r.value ≡ v = cc in omega arith
    by false small rest e = rest e

-- what the chip answers of a field's reset values
pub reset_answer : (c : ChipData) (n kind : ℕ) (o : Option ℕ) → n < length c.fields → o ≡ option_and_then (λ f. value_for kind f.resets) (slice_get c.fields n) →
    o ≡ value_for kind (field_of c n).resets
reset_answer c n kind o l is = is ∙ ap (option_and_then (λ (f : FieldSeen). value_for kind f.resets)) (slice_get-get_or c.fields n no_field l)

pub reset_fits : (c : ChipData) (n kind v : ℕ) → IsSound c → n < length c.fields → value_for kind (field_of c n).resets ≡ Some v → v < 2 ^ (field_of c n).shape.width
reset_fits c n kind v sound l found = fits_from (field_of c n).shape.width kind (field_of c n).resets v (seated c n sound l).resets found

-- what the chip answers of a reset value of a register's field
pub reset_there : (c : ChipData) (reg k n kind : ℕ) (o : Option ℕ) → IsSound c → reg < length c.regs → k < length (fields_of c reg) → n ≡ first_of c reg + k → n < length c.fields
    → o ≡ option_and_then (λ f. value_for kind f.resets) (slice_get c.fields n) → value_for kind (field_in (fields_of c reg) k).resets ≡ o
reset_there c reg k n kind o sound inside place number within is =
    ap (λ (f : FieldSeen). value_for kind f.resets) (field_in-fields_of c reg k sound inside place ∙ ap (field_of c) (sym number)) ∙ sym (reset_answer c n kind o within is)

-- the value that was put is that of the reset
pub put_is_reset : (f : FieldSeen) (kind v word put lsb width : ℕ) → value_for kind f.resets ≡ Some v → lsb ≡ f.shape.lsb → width ≡ f.shape.width
    → put ≡ from_bits 64 (put_bit lsb width (bit v) (bit word))
    → put ≡ from_bits 64 (λ b. cond (covers f.shape b) (reset_bit f kind b (bit word b)) (bit word b))
put_is_reset f kind v word put lsb width found same_lsb same_width is =
    is ∙ rw (same_lsb, same_width)
    (from_bits-same 64 (put_bit f.shape.lsb f.shape.width (bit v) (bit word)) (λ b. cond (covers f.shape b) (reset_bit f kind b (bit word b)) (bit word b)) (λ b l. rw found refl))

-- without one the word stays
pub none_is_reset : (f : FieldSeen) (kind word : ℕ) → value_for kind f.resets ≡ None → word < 2 ^ 64 → word ≡ from_bits 64 (λ b. cond (covers f.shape b) (reset_bit f kind b (bit word b)) (bit word b))
none_is_reset f kind word none fits =
    is_from_bits 64 word (λ b. cond (covers f.shape b) (reset_bit f kind b (bit word b)) (bit word b)) fits (λ b l. rw none (same (covers f.shape b) (bit word b)))
  where
    same : (t x : Bool) → x ≡ cond t x x
    same true x = refl
    same false x = refl
