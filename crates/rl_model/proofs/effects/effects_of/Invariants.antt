use Rattle.std.proofs.Common.{take}
use Rattle.std.specs.Prelude.{option_map}
use Rattle.rl_policy.specs.Masks.{AreEffectsOf}
use Rattle.rl_model.specs.Fields.{policy_in, place_at}
use Rattle.rl_model.proofs.effects.effects_of.Given as goal

abbrev pub invariant-loop-field : goal.invariant-loop-field
invariant-loop-field l = AreEffectsOf (λ b. option_map (policy_in l.fields) (place_at (take l.field-index l.fields) b)) l.effects
