-- What becomes of an access where no item failed.
use Rattle.std.proofs.Common.{◌≡◌, ℕ, ◌-◌, Bool, List, Option, None, Some, refl, ap, ◌∙◌}
use Rattle.std.specs.Prelude.{◌^◌, if◌then◌else◌}
use Rattle.rl_policy.specs.Bits.{bit, from_bits, put_bit}
use Rattle.rl_model.specs.Fields.{field_of, first_of, size_of}
use Rattle.rl_split.specs.Access.{all_bytes, joined}
use Rattle.rl_split.specs.Narrow.{bytes_of_field}
use Rattle.rl_mirror.specs.Compared.{differ}
use Rattle.rl_mirror.specs.Prediction.{predict_write, predict_read}
use Rattle.rl_access.specs.declared.event.End.{End}
use Rattle.rl_access.specs.declared.event.End.TheVariants as end
use Rattle.rl_access.specs.declared.trace.TraceItem.{TraceItem}
use Rattle.rl_access.specs.Items.{failed_at, words_answered}
use Rattle.rl_access.specs.Model.{ModelData}
use Rattle.rl_access.specs.Rules.{Outcome, every_field, whole, field_alone, or_error, quiet, write_outcome, read_outcome}

-- ---- how they end where no item failed

pub good_is : (f : Option ℕ) (m : ModelData) (good : Outcome) → f ≡ None → or_error f m good ≡ good
good_is None m good e = refl
good_is (Some k) m good e = absurd (cc)

abbrev pub good_write : ModelData → End → (reg value fields : ℕ) → Outcome
good_write m good reg value fields = quiet good (record m { mirror = predict_write m.chip reg value fields m.mirror })

abbrev pub good_read : ModelData → Bool → (reg value fields : ℕ) → Outcome
good_read m check reg value fields = record {
  end = end.Value value;
  model = record m { mirror = predict_read m.chip reg value fields m.mirror };
  differ = if check then differ m.chip reg value m.mirror else 0;
}

pub whole_write_is : (m entry : ModelData) (good : End) (reg place value : ℕ) (items : List TraceItem) → failed_at items ≡ None → write_outcome entry good (whole m reg place value) items ≡ good_write
    entry good reg value every_field
whole_write_is m entry good reg place value items none = good_is (failed_at items) entry (good_write entry good reg value every_field) none

-- the value of a whole read
abbrev pub whole_value : ModelData → (reg place : ℕ) → List ℕ → ℕ
whole_value m reg place words = joined m.layout place 0 (all_bytes (size_of m.chip reg)) words

pub whole_read_is : (m entry : ModelData) (check : Bool) (reg place : ℕ) (items : List TraceItem) → entry.layout ≡ m.layout → failed_at items ≡ None →
    read_outcome entry check (whole m reg place 0) items ≡ good_read entry check reg (whole_value m reg place (words_answered items)) every_field
whole_read_is m entry check reg place items same none =
    good_is (failed_at items) entry (good_read entry check reg (joined entry.layout place 0 (all_bytes (size_of m.chip reg)) (words_answered items)) every_field) none
    ∙ ap (λ l. good_read entry check reg (joined l place 0 (all_bytes (size_of m.chip reg)) (words_answered items)) every_field) same

-- of a narrow access
abbrev pub narrow_reg : ModelData → ℕ → ℕ
narrow_reg m field = (field_of m.chip field).shape.reg

abbrev pub narrow_fields : ModelData → ℕ → ℕ
narrow_fields m field = 2 ^ (field - first_of m.chip (narrow_reg m field))

abbrev pub narrow_word : ModelData → (field value : ℕ) → ℕ
narrow_word m field value = let f = (field_of m.chip field).shape in from_bits 64 (put_bit f.lsb f.width (bit value) (bit 0))

pub narrow_write_is : (m entry : ModelData) (good : End) (field place value : ℕ) (items : List TraceItem) → failed_at items ≡ None →
    write_outcome entry good (field_alone m field place value) items ≡ good_write entry good (narrow_reg m field) (narrow_word m field value) (narrow_fields m field)
narrow_write_is m entry good field place value items none = good_is (failed_at items) entry (good_write entry good (narrow_reg m field) (narrow_word m field value) (narrow_fields m field)) none

abbrev pub narrow_value : ModelData → (field place : ℕ) → List ℕ → ℕ
narrow_value m field place words = joined m.layout place 0 (bytes_of_field (field_of m.chip field).shape) words

pub narrow_read_is : (m entry : ModelData) (check : Bool) (field place value : ℕ) (items : List TraceItem) → entry.layout ≡ m.layout → failed_at items ≡ None →
    read_outcome entry check (field_alone m field place value) items ≡ good_read entry check (narrow_reg m field) (narrow_value m field place (words_answered items)) (narrow_fields m field)
narrow_read_is m entry check field place value items same none =
    good_is (failed_at items) entry (good_read entry check (narrow_reg m field) (joined entry.layout place 0 (bytes_of_field (field_of m.chip field).shape) (words_answered items)) (narrow_fields m
    field)) none
    ∙ ap (λ l. good_read entry check (narrow_reg m field) (joined l place 0 (bytes_of_field (field_of m.chip field).shape) (words_answered items)) (narrow_fields m field)) same
