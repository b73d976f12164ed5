use Rattle.std.proofs.Common.{arith, refl, ◌∙◌}
use Rattle.rl_session.proofs.ListingLemmas.{value_added}
use Rattle.rl_session.proofs.soak.mirror_sum.Goals as goal

pub loop-reg-preserved : goal.loop-reg-preserved
loop-reg-preserved c =
    value_added c.loop-reg.sum _ c.mirrored.result c.args.mirror.now.mirrored c.loop-reg.reg refl c.mirrored.ensures
    (omega arith) ∙ c.loop-reg.invariant
