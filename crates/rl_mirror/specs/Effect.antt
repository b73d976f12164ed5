-- One bit of what is asked of a field.
use Rattle.std.specs.Prelude.{ℕ, Bool}
use Rattle.rl_policy.specs.Bits.{bit}
use Rattle.rl_policy.specs.Table.{update_bit, neutral_bit}
use Rattle.rl_policy.specs.declared.policy.Policy.{Policy}
use Rattle.rl_mirror.specs.declared.effect.Effect.{Effect}
use Rattle.rl_mirror.specs.declared.effect.Effect.TheVariants.{Updating, Neutral, Mark}

-- An update bit, a neutral bit or a mark: this project's own.
abbrev pub effect_bit : Effect → Policy → (spent : Bool) → ℕ → Bool
effect_bit (Updating desired mirrored) p s b = update_bit p (bit desired b) (bit mirrored b)
effect_bit (Neutral mirrored) p s b = neutral_bit p (bit mirrored b)
effect_bit Mark p s b = s
