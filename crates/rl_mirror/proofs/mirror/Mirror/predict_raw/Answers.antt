use Rattle.std.proofs.Common.{ap, sym, subst, ◌∙◌}
use Rattle.rl_mirror.specs.Mirror.{MirrorData}
use Rattle.rl_mirror.specs.Prediction.{predict_raw}
use Rattle.rl_mirror.specs.Reachable.{IsReachable}
use Rattle.rl_mirror.proofs.ReachLemmas.{raw_reach}
use Rattle.rl_mirror.proofs.MirrorLemmas.{raw_is}
use Rattle.rl_mirror.proofs.mirror.Mirror.predict_raw.Goals as goal

pub returns-clause-value : goal.returns-clause-value
returns-clause-value c =
    let m : MirrorData = record { mirrored = c.self.inside.mirrored.items; desired = c.self.inside.desired.items; spent = c.self.inside.spent.items } in
    raw_is c.args.chip.now c.args.reg c.args.value m c.owned-bits.result c.owned-bits.ensures.value ∙ ap (predict_raw c.args.chip.now c.args.reg c.args.value) c.self.view_is

pub returns-clause-reach : goal.returns-clause-reach
returns-clause-reach c was =
    subst (λ (m : MirrorData). IsReachable c.args.chip.now m) (sym (returns-clause-value c)) (raw_reach c.args.chip.now c.args.reg c.args.value c.args.self.now c.requires.reg c.requires.built was)
