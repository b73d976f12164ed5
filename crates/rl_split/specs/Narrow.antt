-- When an access to one field is narrow: it reaches the bytes of the field alone.
use Rattle.std.specs.Prelude.{ℕ, ◌+◌, ◌-◌, ◌/◌, Bool, not, ◌&&◌, ◌==◌, nat_le, get_or}
use Rattle.std.specs.List.{list_any, range_with_len}
use Rattle.rl_policy.specs.Bits.{from_bits}
use Rattle.rl_model.specs.declared.rows.Field.{Field}
use Rattle.rl_model.specs.Rows.{ChipData}
use Rattle.rl_map.specs.Layout.{LayoutData, port_at, place_at}
use Rattle.rl_split.specs.Access.{kind_of, carries_lanes}
use Rattle.rl_model.specs.Fields.{no_field, first_of, count_of}

abbrev pub field_at : ChipData → ℕ → Field
field_at c field = (get_or c.fields field no_field).shape

-- the first and the last byte that a field touches
abbrev pub first_byte : Field → ℕ
first_byte f = f.lsb / 8

abbrev pub last_byte : Field → ℕ
last_byte f = (f.lsb + f.width - 1) / 8

abbrev pub touches : Field → ℕ → Bool
touches f j = nat_le (first_byte f) j && nat_le j (last_byte f)

-- the bytes of a field: bit j stands for byte j of its register
unfoldable pub bytes_of_field : Field → ℕ
bytes_of_field f = from_bits 8 (touches f)

-- two fields have a byte in common
abbrev pub share_byte : Field → Field → Bool
share_byte f g = nat_le (first_byte f) (last_byte g) && nat_le (first_byte g) (last_byte f)

-- another field of the register has a bit in the bytes of the field
abbrev pub has_neighbour : ChipData → ℕ → Bool
has_neighbour c field =
    let reg = (field_at c field).reg in
    list_any (λ n. not (n == field) && share_byte (field_at c n) (field_at c field))
    (range_with_len (first_of c reg) (count_of c reg))

-- An individually accessible field is accessed alone (uvm_reg_field::write and read, IEEE 1800.2-2017, 18.5). The
-- conditions are this project's own: it is marked alone and has no neighbour in its bytes; prediction is implicit; no
-- map on the path is of a FIFO kind; and the adapter carries byte enables in the direction.
unfoldable pub is_narrow : ChipData → LayoutData → (field place : ℕ) → (write : Bool) → Bool
is_narrow c l field place write =
    (field_at c field).alone
    && not (has_neighbour c field)
    && not (port_at l (place_at l place).port).explicit
    && not (place_at l place).fifo
    && carries_lanes (kind_of l place) write
