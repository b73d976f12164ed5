use Rattle.std.proofs.Common.{◌≡◌, ℕ, ◌<◌, length, take, drop, slice_get, Some}
use Rattle.rl_policy.specs.declared.effects.Effects.{Effects}
use Rattle.rl_policy.specs.Masks.{AreEffectsOf}
use Rattle.rl_model.specs.declared.rows.RegRow.{RegRow}
use Rattle.rl_model.specs.Fields.{policy_at}
use Rattle.rl_model.proofs.effects.all_effects.Given as goal

abbrev pub invariant-loop-reg : goal.invariant-loop-reg
invariant-loop-reg l = record {
  long : length l.all.items ≡ l.reg-index;
  each : (n : ℕ) (r : RegRow) (e : Effects) → n < l.reg-index → slice_get l.regs n ≡ Some r → slice_get l.all.items n ≡ Some e
      → AreEffectsOf (policy_at (take r.count (drop r.first l.fields))) e;
}
