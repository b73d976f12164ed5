use Rattle.std.proofs.Common.{◌^◌, nat_le, sym, ◌∙◌}
use Rattle.rl_model.specs.declared.parts.ResetPart.{ResetPart}
use Rattle.rl_model.proofs.Lists.{any_here, any_later}
use Rattle.rl_model.proofs.check.have_too_wide.Goals as goal

pub returns-then-is_too_wide : goal.returns-then-is_too_wide
returns-then-is_too_wide c =
    any_here (λ (r : ResetPart). nat_le (2 ^ c.args.width) r.value) c.args.resets.now c.loop-reset.reset-index c.reset-item.result _ c.loop-reset-test.true c.reset-item.is
    (sym c.is_too_wide.ensures ∙ c.if-is_too_wide.true) c.loop-reset.invariant

pub loop-reset-preserved : goal.loop-reset-preserved
loop-reset-preserved c =
    any_later (λ (r : ResetPart). nat_le (2 ^ c.args.width) r.value) c.args.resets.now c.loop-reset.reset-index c.reset-item.result _ c.loop-reset-test.true c.reset-item.is
    (sym c.is_too_wide.ensures ∙ c.if-is_too_wide.false) c.loop-reset.invariant
