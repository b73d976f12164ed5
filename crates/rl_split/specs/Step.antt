-- One step of a register as a whole: its fields, and no word, lane or address.
use Rattle.std.specs.Prelude.{ℕ, Bool, true, false, ◌&&◌, ◌||◌, ◌==◌, if◌then◌else◌, List, Option, Some, None}
use Rattle.rl_policy.specs.Bits.{bit, from_bits}
use Rattle.rl_policy.specs.Table.{after_write, after_read, value_read, spends_mark}
use Rattle.rl_model.specs.Rows.{FieldSeen}
use Rattle.rl_model.specs.Fields.{policy_in, place_at}

-- ---- a register, and sets of its fields: each by its number among them

-- the bits, and a spent mark for each field
pub record Register : Type 0 where
  pub bits : ℕ
  pub spent : ℕ → Bool

abbrev pub every : ℕ → Bool
every k = true

abbrev pub only : ℕ → ℕ → Bool
only field k = k == field

-- ---- one bit, by the field that it belongs to

abbrev pub written_bit : List FieldSeen → (chosen spent : ℕ → Bool) → Option ℕ → (stored written : Bool) → Bool
written_bit fields chosen spent None x w = x
written_bit fields chosen spent (Some k) x w = if chosen k then after_write (policy_in fields k) x w (spent k) else x

abbrev pub left_bit : List FieldSeen → (chosen : ℕ → Bool) → Option ℕ → Bool → Bool
left_bit fields chosen None x = x
left_bit fields chosen (Some k) x = if chosen k then after_read (policy_in fields k) x else x

abbrev pub shown_bit : List FieldSeen → (chosen : ℕ → Bool) → Option ℕ → Bool → Bool
shown_bit fields chosen None x = false
shown_bit fields chosen (Some k) x = chosen k && value_read (policy_in fields k) x

-- ---- the whole register

-- A write of a word to the chosen fields, each by its policy (uvm_reg_field, IEEE 1800.2-2017, 18.5).
unfoldable pub wstep : List FieldSeen → (chosen : ℕ → Bool) → ℕ → Register → Register
wstep fields chosen word r = record {
  bits = from_bits 64 (λ b. written_bit fields chosen r.spent (place_at fields b) (bit r.bits b) (bit word b));
  spent = λ k. r.spent k || (chosen k && spends_mark (policy_in fields k));
}

-- A read of the chosen fields, each by its policy (uvm_reg_field, IEEE 1800.2-2017, 18.5).
unfoldable pub rstep : List FieldSeen → (chosen : ℕ → Bool) → Register → Register
rstep fields chosen r = record r {
  bits = from_bits 64 (λ b. left_bit fields chosen (place_at fields b) (bit r.bits b));
}

-- What a read of the chosen fields answers.
unfoldable pub ranswer : List FieldSeen → (chosen : ℕ → Bool) → Register → ℕ
ranswer fields chosen r = from_bits 64 (λ b. shown_bit fields chosen (place_at fields b) (bit r.bits b))
