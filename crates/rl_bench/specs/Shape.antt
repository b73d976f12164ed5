-- What the masks of a register stand for.
use Rattle.std.specs.Prelude.{◌≡◌, ℕ, ◌<◌, false, is_some}
use Rattle.rl_policy.specs.Bits.{bit, from_bits}
use Rattle.rl_bus.specs.declared.table.Lanes.{Lanes}
use Rattle.rl_policy.specs.Access.{bit_written, mark_written, bit_answered, bit_left}
use Rattle.rl_bus.specs.Setup.{Setup, policy_at, stuck_at, or_else, held}
use Rattle.rl_bus.specs.Spread.{spread_bit, lane_bit, gathered_bit}
use Rattle.rl_bench.specs.declared.shape.Shape.{Shape}
use Rattle.rl_policy.specs.Masks.{AreEffectsOf}

-- a register of a setup
pub record RegOf : Type 0 where
  pub setup : Setup
  pub reg : ℕ

pub record IsShapeOf (r : RegOf) (s : Shape) : Type 0 where
  pub effects : AreEffectsOf (policy_at r.setup r.reg) s.effects
  pub stuck : (b : ℕ) → b < 64 → bit s.stuck b ≡ is_some (stuck_at r.setup r.reg b)
  pub values : (b : ℕ) → b < 64 → bit s.values b ≡ or_else (stuck_at r.setup r.reg b) false

-- for any register that has these masks
abbrev pub ForRegOf : Shape → (RegOf → Type 0) → Type 0
ForRegOf s P = (r : RegOf) → IsShapeOf r s → P r

-- A write of a word in these lanes: the bits of the register after it, by the policies of its fields (uvm_reg_field,
-- IEEE 1800.2-2017, 18.5).
abbrev pub reg_written : RegOf → Lanes → (bits marks word : ℕ) → ℕ
reg_written r lanes bits marks word =
    let word = spread_bit lanes (bit word) in
    held r.setup r.reg (λ b.
    bit_written (policy_at r.setup r.reg b) (bit bits b) (bit marks b) (word b) (lane_bit lanes b))

-- The bits of the register whose first write is spent, after a write in these lanes.
abbrev pub reg_marked : RegOf → Lanes → (marks : ℕ) → ℕ
reg_marked r lanes marks =
    from_bits 64 (λ b. mark_written (policy_at r.setup r.reg b) (bit marks b) (lane_bit lanes b))

-- The word that a read in these lanes answers.
abbrev pub reg_answered : RegOf → Lanes → (bits : ℕ) → ℕ
reg_answered r lanes bits =
    from_bits 64 (gathered_bit lanes (λ b. bit_answered (policy_at r.setup r.reg b) (bit bits b)))

-- The bits of the register after a read in these lanes, by the policies of its fields (uvm_reg_field, IEEE 1800.2-2017,
-- 18.5).
abbrev pub reg_left : RegOf → Lanes → (bits : ℕ) → ℕ
reg_left r lanes bits =
    held r.setup r.reg (λ b. bit_left (policy_at r.setup r.reg b) (bit bits b) (lane_bit lanes b))
