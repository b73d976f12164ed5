use Rattle.std.proofs.Common.{sym, ◌∙◌}
use Rattle.rl_model.specs.Rules.{overlaps}
use Rattle.rl_model.proofs.Lists.{any_here, any_later}
use Rattle.rl_model.proofs.check.have_overlap.Goals as goal

pub returns-then-overlaps : goal.returns-then-overlaps
returns-then-overlaps c =
    any_here (overlaps c.args.field.now) c.args.fields.now c.loop-other.other-index c.other-item.result _ c.loop-other-test.true c.other-item.is
    (sym (c.overlaps.ensures c.requires) ∙ c.if-overlaps.true) c.loop-other.invariant

pub loop-other-preserved : goal.loop-other-preserved
loop-other-preserved c =
    any_later (overlaps c.args.field.now) c.args.fields.now c.loop-other.other-index c.other-item.result _ c.loop-other-test.true c.other-item.is
    (sym (c.overlaps.ensures c.requires) ∙ c.if-overlaps.false) c.loop-other.invariant
