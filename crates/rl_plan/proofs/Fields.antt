-- The fields of a register, as they are asked for one by one.
use Rattle.std.proofs.Common.{◌≡◌, ℕ, ◌+◌, ◌<◌, ◌≤◌, Bool, true, false, ◌||◌, length, take, slice_get, Option, Some, is_some, option_map, option_and_then, sym, ap, ◌∙◌, arith}
use Rattle.std.specs.List.{list_any}
use Rattle.std.proofs.lemmas.List.{take_all}
use Rattle.std.proofs.lemmas.List.Folds.{list_any_at, list_any_more}
use Rattle.std.proofs.lemmas.Option.{slice_get-get_or}
use Rattle.rl_mirror.specs.Compared.{is_compared}
use Rattle.rl_mirror.proofs.FieldLemmas.{count_is, field_at_is, field_in-fields_of, numbered}
use Rattle.rl_model.specs.declared.rows.Field.{Field}
use Rattle.rl_model.specs.Chip.{IsSound, value_for}
use Rattle.rl_model.specs.Fields.{field_in, field_of, fields_of, no_field}
use Rattle.rl_model.specs.Rows.{ChipData, FieldSeen}

abbrev pub is_compared_field : FieldSeen → Bool
is_compared_field f = is_compared f.shape

abbrev pub has_value_for : (kind : ℕ) → FieldSeen → Bool
has_value_for kind f = is_some (value_for kind f.resets)

-- the test of the fields, once one of them passes it
pub one_passes : (p : FieldSeen → Bool) (c : ChipData) (reg k : ℕ) → k < length (fields_of c reg) → p (field_in (fields_of c reg) k) ≡ true
    → true ≡ list_any p (fields_of c reg)
one_passes p c reg k low is = sym (list_any_at p (fields_of c reg) k no_field low is)

-- one more that doesn't
pub one_more_fails : (p : FieldSeen → Bool) (c : ChipData) (reg k : ℕ) → k < length (fields_of c reg)
    → list_any p (take k (fields_of c reg)) ≡ false → p (field_in (fields_of c reg) k) ≡ false
    → list_any p (take (k + 1) (fields_of c reg)) ≡ false
one_more_fails p c reg k low before is =
    list_any_more p (fields_of c reg) k no_field low ∙ ap (λ b. b || p (field_in (fields_of c reg) k)) before ∙ is

pub none_passes : (p : FieldSeen → Bool) (c : ChipData) (reg k : ℕ) → length (fields_of c reg) ≤ k
    → list_any p (take k (fields_of c reg)) ≡ false → false ≡ list_any p (fields_of c reg)
none_passes p c reg k all none = sym (ap (list_any p) (sym (take_all k (fields_of c reg) all)) ∙ none)

-- whether a check compares the k-th
pub compared_at : (c : ChipData) (reg k : ℕ) {first count : ℕ} {f : Field} {b : Bool} → IsSound c → reg < length c.regs
    → option_map (λ r. r.first) (slice_get c.regs reg) ≡ Some first → option_map (λ r. r.count) (slice_get c.regs reg) ≡ Some count
    → k < count → option_map (λ f. f.shape) (slice_get c.fields (first + k)) ≡ Some f → b ≡ is_compared f
    → (k < length (fields_of c reg)) × (b ≡ is_compared_field (field_in (fields_of c reg) k))
compared_at c reg k {first} {count} {f} {b} sound there firsts counts low asked is =
    let many = count_is c reg count sound there counts in
    let low_here : k < length (fields_of c reg) = omega (arith, many, low) in
    let at = numbered c reg k first sound there low_here firsts in
    let field = field_at_is c reg k (first + k) f sound there low_here at.number at.within asked in
    (low_here, is ∙ ap is_compared field.field)

-- whether the k-th has a value for a kind
pub valued_at : (c : ChipData) (reg k kind : ℕ) {first count : ℕ} {v : Option ℕ} → IsSound c → reg < length c.regs
    → option_map (λ r. r.first) (slice_get c.regs reg) ≡ Some first → option_map (λ r. r.count) (slice_get c.regs reg) ≡ Some count
    → k < count → v ≡ option_and_then (λ f. value_for kind f.resets) (slice_get c.fields (first + k))
    → (k < length (fields_of c reg)) × (is_some v ≡ has_value_for kind (field_in (fields_of c reg) k))
valued_at c reg k kind {first} {count} {v} sound there firsts counts low is =
    let many = count_is c reg count sound there counts in
    let low_here : k < length (fields_of c reg) = omega (arith, many, low) in
    let at = numbered c reg k first sound there low_here firsts in
    let row : slice_get c.fields (first + k) ≡ Some (field_of c (first + k)) = slice_get-get_or c.fields (first + k) no_field at.within in
    let same : field_of c (first + k) ≡ field_in (fields_of c reg) k =
    ap (field_of c) at.number ∙ sym (field_in-fields_of c reg k sound there low_here) in
    (low_here, ap is_some (is ∙ ap (option_and_then (λ (f : FieldSeen). value_for kind f.resets)) row) ∙ ap (has_value_for kind) same)
