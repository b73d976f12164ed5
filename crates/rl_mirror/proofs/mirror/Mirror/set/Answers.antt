use Rattle.std.proofs.Common.{sym, subst}
use Rattle.rl_policy.proofs.BitLemmas.{from_bits-lt}
use Rattle.rl_mirror.specs.Mirror.{MirrorData, IsMirrorOf}
use Rattle.rl_mirror.specs.Reachable.{IsReachable}
use Rattle.rl_mirror.proofs.ReachLemmas.{set_reach}
use Rattle.rl_mirror.proofs.MirrorLemmas.{set_by, set_built}
use Rattle.rl_mirror.proofs.mirror.Mirror.set.Goals as goal

pub put-requires-clause-v_fits : goal.put-requires-clause-v_fits
put-requires-clause-v_fits c = rw c.set_value-wish.ensures (from_bits-lt c.numbered_field-reg.result.width _)

pub returns-clause-value : goal.returns-clause-value
returns-clause-value c =
    let x : MirrorData = record { mirrored = c.self.inside.mirrored.items; desired = c.self.inside.desired.items; spent = c.self.inside.spent.items } in
    set_by c.args.chip.now c.args.field c.args.v c.args.self.now x c.numbered_field-reg.result c.desired-desired.result c.take.result c.set_value-wish.result c.put.result c.spent-mark.result
    c.self.view_is c.numbered_field-reg.ensures.field c.numbered_field-reg.ensures.inside c.desired-desired.ensures c.spent-mark.ensures c.take.ensures c.set_value-wish.ensures c.put.ensures

pub returns-clause-built : goal.returns-clause-built
returns-clause-built c =
    subst (λ (m : MirrorData). IsMirrorOf c.args.chip.now m) (sym (returns-clause-value c))
    (set_built c.args.chip.now c.args.field c.args.v c.args.self.now c.numbered_field-reg.ensures.sound c.requires.field c.requires.built)

pub returns-clause-reach : goal.returns-clause-reach
returns-clause-reach c was =
    subst (λ (m : MirrorData). IsReachable c.args.chip.now m) (sym (returns-clause-value c))
    (set_reach c.args.chip.now c.args.field c.args.v c.args.self.now c.numbered_field-reg.ensures.sound c.requires.field c.requires.built was)
