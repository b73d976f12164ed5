-- What is believed of a chip.
use Rattle.std.specs.Prelude.{◌≡◌, ℕ, ◌+◌, ◌^◌, ◌<◌, Bool, false, List, length, get_or}
use Rattle.rl_model.specs.Rows.{ChipData}
use Rattle.rl_model.specs.Fields.{first_of, size_of, fields_of, field_in}
use Rattle.rl_mirror.specs.Fields.{word_by_field, owned, part_of}

-- A mirrored and a desired value for each register (uvm_reg_field, IEEE 1800.2-2017, 18.5), and a spent mark for each
-- field, counted through all registers. The marks are this project's own.
pub record MirrorData : Type 0 where
  pub mirrored : List ℕ
  pub desired : List ℕ
  pub spent : List Bool

-- The mirrored value of a register (uvm_reg_field::get_mirrored_value, IEEE 1800.2-2017, 18.5).
abbrev pub mirrored_of : MirrorData → ℕ → ℕ
mirrored_of m reg = get_or m.mirrored reg 0

-- The desired value of a register (uvm_reg_field::get, IEEE 1800.2-2017, 18.5).
abbrev pub desired_of : MirrorData → ℕ → ℕ
desired_of m reg = get_or m.desired reg 0

abbrev pub is_spent : MirrorData → ℕ → Bool
is_spent m field = get_or m.spent field false

-- the marks of a register's fields: that of its k-th field
abbrev pub marks_in : ChipData → List Bool → (reg : ℕ) → ℕ → Bool
marks_in c spent reg k = get_or spent (first_of c reg + k) false

-- the bits of the register's fields with a spent mark
abbrev pub marked_bits : ChipData → List Bool → (reg : ℕ) → ℕ
marked_bits c spent reg = word_by_field (fields_of c reg) (λ k b. marks_in c spent reg k)

-- a value of the register: it has the register's bytes, and 0 in the bits without a field
pub record IsValueOf (c : ChipData) (reg value : ℕ) : Type 0 where
  pub fits : value < 256 ^ size_of c reg
  pub owned : value ≡ owned (fields_of c reg) value

-- the mirror was built with the chip: it has a mirrored and a desired value for each register,
-- and a mark for each field
pub record IsMirrorOf (c : ChipData) (m : MirrorData) : Type 0 where
  pub registers : length m.mirrored ≡ length c.regs
  pub wishes : length m.desired ≡ length c.regs
  pub marks : length m.spent ≡ length c.fields
  pub mirrored : (reg : ℕ) → reg < length c.regs → IsValueOf c reg (mirrored_of m reg)
  pub desired : (reg : ℕ) → reg < length c.regs → IsValueOf c reg (desired_of m reg)

-- the desired value of each field of the register is its mirrored one
abbrev pub HasNoWish : ChipData → MirrorData → (reg : ℕ) → Type 0
HasNoWish c m reg =
    (k : ℕ) → k < length (fields_of c reg)
    → part_of (field_in (fields_of c reg) k).shape (desired_of m reg)
    ≡ part_of (field_in (fields_of c reg) k).shape (mirrored_of m reg)
