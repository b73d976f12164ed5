-- What a check finds.
use Rattle.std.specs.Prelude.{ℕ, ◌==◌, not, ◌&&◌, Bool, List, length}
use Rattle.rl_policy.specs.Bits.{from_bits}
use Rattle.rl_policy.specs.Table.{is_write_only}
use Rattle.rl_model.specs.declared.rows.Field.{Field}
use Rattle.rl_model.specs.Rows.{FieldSeen, ChipData}
use Rattle.rl_model.specs.Fields.{fields_of, field_in}
use Rattle.rl_mirror.specs.Fields.{part_of}
use Rattle.rl_mirror.specs.Mirror.{MirrorData, mirrored_of}

-- A check compares the field (uvm_reg::mirror with UVM_CHECK, IEEE 1800.2-2017, 18.4). That it never compares a
-- write-only field is this project's own.
abbrev pub is_compared : Field → Bool
is_compared f = f.compare && not (is_write_only f.policy)

-- It is compared, and the bits that were read aren't the mirrored ones (uvm_reg::mirror with UVM_CHECK, IEEE
-- 1800.2-2017, 18.4).
abbrev pub differs : Field → (read mirrored : ℕ) → Bool
differs f read mirrored = is_compared f && not (part_of f read == part_of f mirrored)

-- bit k stands for the k-th of the fields
unfoldable pub differing : List FieldSeen → (read mirrored : ℕ) → ℕ
differing fields read mirrored = from_bits (length fields) (λ k. differs (field_in fields k).shape read mirrored)

-- for a register of a mirror
unfoldable pub differ : ChipData → (reg read : ℕ) → MirrorData → ℕ
differ c reg read m = differing (fields_of c reg) read (mirrored_of m reg)
