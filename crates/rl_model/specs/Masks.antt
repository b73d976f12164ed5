-- The masks of the registers.
use Rattle.std.specs.Prelude.{◌≡◌, ℕ, ◌+◌, ◌≤◌, List, length, take, drop, slice_get, Some}
use Rattle.rl_policy.specs.declared.effects.Effects.{Effects}
use Rattle.rl_policy.specs.Masks.{AreEffectsOf}
use Rattle.rl_model.specs.declared.rows.RegRow.{RegRow}
use Rattle.rl_model.specs.Rows.{FieldSeen}
use Rattle.rl_model.specs.Fields.{policy_at}

-- a field has bits, all within 64
abbrev pub HasSeat : FieldSeen → Type 0
HasSeat f = (1 ≤ f.shape.width) × (f.shape.lsb + f.shape.width ≤ 64)

abbrev pub AllHaveSeats : List FieldSeen → Type 0
AllHaveSeats fields = (i : ℕ) (f : FieldSeen) → slice_get fields i ≡ Some f → HasSeat f

-- each register's fields are among these
abbrev pub HaveFields : List RegRow → List FieldSeen → Type 0
HaveFields regs fields = (n : ℕ) (r : RegRow) → slice_get regs n ≡ Some r → r.first + r.count ≤ length fields

-- for each register its masks
pub record AreEffects (regs : List RegRow) (fields : List FieldSeen) (all : List Effects) : Type 0 where
  pub long : length all ≡ length regs
  pub each : (n : ℕ) (r : RegRow) (e : Effects)
      → slice_get regs n ≡ Some r → slice_get all n ≡ Some e
      → AreEffectsOf (policy_at (take r.count (drop r.first fields))) e
