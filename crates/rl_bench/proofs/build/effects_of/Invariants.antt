use Rattle.std.proofs.Common.{take}
use Rattle.std.specs.Prelude.{option_map, position}
use Rattle.rl_bus.specs.Setup.{policy_of, covers}
use Rattle.rl_policy.specs.Masks.{AreEffectsOf}
use Rattle.rl_bench.specs.Tables.{setup_held}
use Rattle.rl_bench.proofs.build.effects_of.Given as goal

abbrev pub invariant-loop-k : goal.invariant-loop-k
invariant-loop-k l = AreEffectsOf (λ b. option_map (policy_of (setup_held l.tables)) (position (λ f. covers f l.reg b) (take l.k l.tables.fields.items))) l.effects
