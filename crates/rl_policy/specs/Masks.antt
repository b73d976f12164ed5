-- The masks of a register by effect.
use Rattle.std.specs.Prelude.{◌≡◌, ℕ, ◌<◌, Bool, true, false, Option, Some, None, if◌then◌else◌}
use Rattle.rl_policy.specs.Bits.{bit, from_bits}
use Rattle.rl_policy.specs.Table.{after_write, after_read, value_read, spends_mark}
use Rattle.rl_policy.specs.declared.policy.Policy.{Policy}
use Rattle.rl_policy.specs.Access.{bit_written, mark_written, bit_answered, bit_left}
use Rattle.rl_policy.specs.declared.effects.Effects.{Effects}

-- the bits of a word are these
abbrev pub HasBits : ℕ → (ℕ → Bool) → Type 0
HasBits word bits = (b : ℕ) → b < 64 → bit word b ≡ bits b

-- a test of the policy that a bit has
abbrev pub owned_test : (Policy → Bool) → Option Policy → Bool
owned_test test None = false
owned_test test (Some p) = test p

-- the mask has the bits whose policy passes
abbrev pub IsMaskOf : (ℕ → Option Policy) → (Policy → Bool) → ℕ → Type 0
IsMaskOf own test mask = (b : ℕ) → b < 64 → bit mask b ≡ owned_test test (own b)

-- One mask for each effect that a write or a read can have on a bit. The masks are this project's own.
pub record AreEffectsOf (own : ℕ → Option Policy) (e : Effects) : Type 0 where
  pub owned : IsMaskOf own (λ p. true) e.owned
  pub spending : IsMaskOf own spends_mark e.spending
  pub zero_by_zero : IsMaskOf own (λ p. after_write p false false false) e.zero_by_zero
  pub one_by_zero : IsMaskOf own (λ p. after_write p true false false) e.one_by_zero
  pub zero_by_one : IsMaskOf own (λ p. after_write p false true false) e.zero_by_one
  pub one_by_one : IsMaskOf own (λ p. after_write p true true false) e.one_by_one
  pub zero_by_read : IsMaskOf own (λ p. after_read p false) e.zero_by_read
  pub one_by_read : IsMaskOf own (λ p. after_read p true) e.one_by_read
  pub shown : IsMaskOf own (λ p. value_read p true) e.shown

-- a bit that belongs to no field so far gets the policy of one more, where it lies there
abbrev pub more_owned_bit : Option Policy → Bool → Policy → Option Policy
more_owned_bit None seat p = if seat then Some p else None
more_owned_bit (Some q) seat p = Some q

abbrev pub more_owned : (ℕ → Option Policy) → (ℕ → Bool) → Policy → ℕ → Option Policy
more_owned own seat p b = more_owned_bit (own b) (seat b) p

-- ---- what accesses do

-- for any policies of the bits that have these masks
abbrev pub ForPoliciesOf : Effects → ((ℕ → Option Policy) → Type 0) → Type 0
ForPoliciesOf e P = (own : ℕ → Option Policy) → AreEffectsOf own e → P own

-- The bits after a write of a word with these lanes, by their policies (uvm_reg_field, IEEE 1800.2-2017, 18.5).
abbrev pub bits_written : (ℕ → Option Policy) → (bits marks word lanes : ℕ) → ℕ
bits_written own bits marks word lanes =
    from_bits 64 (λ b. bit_written (own b) (bit bits b) (bit marks b) (bit word b) (bit lanes b))

-- The bits whose first write is spent, after a write with these lanes.
abbrev pub marks_written : (ℕ → Option Policy) → (marks lanes : ℕ) → ℕ
marks_written own marks lanes = from_bits 64 (λ b. mark_written (own b) (bit marks b) (bit lanes b))

-- What a read answers.
abbrev pub bits_answered : (ℕ → Option Policy) → (bits : ℕ) → ℕ
bits_answered own bits = from_bits 64 (λ b. bit_answered (own b) (bit bits b))

-- The bits after a read with these lanes, by their policies (uvm_reg_field, IEEE 1800.2-2017, 18.5).
abbrev pub bits_left : (ℕ → Option Policy) → (bits lanes : ℕ) → ℕ
bits_left own bits lanes = from_bits 64 (λ b. bit_left (own b) (bit bits b) (bit lanes b))
