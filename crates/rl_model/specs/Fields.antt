-- The fields of a register, and the field that a bit belongs to.
use Rattle.std.specs.Prelude.{ℕ, Bool, List, [], get_or, take, drop, position, slice_get, Option, option_map, false}
use Rattle.std.specs.Option.{option_map_or}
use Rattle.rl_policy.specs.Bits.{is_within}
use Rattle.rl_policy.specs.declared.policy.Policy.{Policy}
use Rattle.rl_policy.specs.declared.policy.Policy.TheVariants.{Ro}
use Rattle.rl_model.specs.declared.rows.Field.{Field}
use Rattle.rl_model.specs.Rows.{FieldSeen, ChipData}

-- past the end of a list of fields
abbrev pub no_field : FieldSeen
no_field = record {
  shape = record { reg = 0; lsb = 0; width = 0; policy = Ro; volatile = false; compare = false; alone = false };
  name = [];
  resets = [];
}

-- the field of this number, counted through all registers
abbrev pub field_of : ChipData → ℕ → FieldSeen
field_of c n = get_or c.fields n no_field

-- the number of a register's first field, how many it has, and its bytes
abbrev pub first_of : ChipData → ℕ → ℕ
first_of c reg = option_map_or (λ r. r.first) (slice_get c.regs reg) 0

abbrev pub count_of : ChipData → ℕ → ℕ
count_of c reg = option_map_or (λ r. r.count) (slice_get c.regs reg) 0

abbrev pub size_of : ChipData → ℕ → ℕ
size_of c reg = option_map_or (λ r. r.bytes) (slice_get c.regs reg) 0

-- The fields of a register (uvm_reg, IEEE 1800.2-2017, 18.4), each of them a uvm_reg_field (18.5).
unfoldable pub fields_of : ChipData → ℕ → List FieldSeen
fields_of c reg = take (count_of c reg) (drop (first_of c reg) c.fields)

-- ---- the k-th of a register's fields, and the bits that it covers

abbrev pub field_in : List FieldSeen → ℕ → FieldSeen
field_in fields k = get_or fields k no_field

abbrev pub policy_in : List FieldSeen → ℕ → Policy
policy_in fields k = (field_in fields k).shape.policy

abbrev pub covers : Field → ℕ → Bool
covers f b = is_within f.lsb f.width b

-- which of the fields bit b belongs to
unfoldable pub place_at : List FieldSeen → ℕ → Option ℕ
place_at fields b = position (λ f. covers f.shape b) fields

-- the policy of bit b, by its field
abbrev pub policy_at : List FieldSeen → ℕ → Option Policy
policy_at fields b = option_map (policy_in fields) (place_at fields b)
