-- Words of a register by its fields.
use Rattle.std.specs.Prelude.{ℕ, ◌+◌, Bool, false, List}
use Rattle.std.specs.Option.{option_map_or}
use Rattle.rl_policy.specs.Bits.{bit, from_bits}
use Rattle.rl_model.specs.declared.rows.Field.{Field}
use Rattle.rl_model.specs.Rows.{FieldSeen}
use Rattle.rl_model.specs.Fields.{place_at}

-- the word whose bit b is `part k b`, where its field is the register's k-th; a bit without a field is 0
unfoldable pub word_by_field : List FieldSeen → (ℕ → ℕ → Bool) → ℕ
word_by_field fields part = from_bits 64 (λ b. option_map_or (λ k. part k b) (place_at fields b) false)

-- the bits that belong to a field
abbrev pub owned : List FieldSeen → ℕ → ℕ
owned fields word = word_by_field fields (λ k b. bit word b)

-- the bits of the chosen fields
abbrev pub chosen_bits : List FieldSeen → (chosen : ℕ) → ℕ
chosen_bits fields chosen = word_by_field fields (λ k b. bit chosen k)

-- the value of a field in a word of its register
abbrev pub part_of : Field → ℕ → ℕ
part_of f word = from_bits f.width (λ i. bit word (f.lsb + i))
