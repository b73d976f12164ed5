use Rattle.std.proofs.Common.{◌≡◌, sym, ap, subst, ◌∙◌}
use Rattle.rl_model.specs.Fields.{fields_of, policy_at}
use Rattle.rl_mirror.specs.Mirror.{MirrorData, IsMirrorOf}
use Rattle.rl_mirror.specs.Prediction.{predict_read}
use Rattle.rl_mirror.specs.Reachable.{IsReachable}
use Rattle.rl_mirror.proofs.ReachLemmas.{read_reach}
use Rattle.rl_mirror.proofs.MaskedLemmas.{learned_is}
use Rattle.rl_mirror.proofs.MirrorLemmas.{read_of, read_is, read_built}
use Rattle.rl_mirror.proofs.mirror.Mirror.predict_read.Goals as goal

pub returns-clause-value : goal.returns-clause-value
returns-clause-value c =
    let chip = c.args.chip.now in
    let reg = c.args.reg in
    let fs = fields_of chip reg in
    let m : MirrorData = record { mirrored = c.self.inside.mirrored.items; desired = c.self.inside.desired.items; spent = c.self.inside.spent.items } in
    let is : m ≡ c.args.self.now = c.self.view_is in
    let mirrored = c.index-mirrored.result.now in
    let desired = c.index-desired.result.now in
    let places = c.told-places.result in
    let left = c.read-left.result.1 in
    let leaves = c.read-left.ensures.bits (policy_at fs) c.effects.ensures.value in
    let read = read_of chip reg mirrored desired m c.args.self.now is c.requires.built c.requires.reg c.index-mirrored.ensures c.index-desired.ensures in
    read_is chip reg c.args.value c.args.fields m mirrored desired c.replaced.result c.replaced-2.result read.mirrored read.desired
    (learned_is fs c.args.fields c.args.value mirrored left places c.replaced.result c.replaced.type_inv read.known c.told-places.ensures.bits leaves c.replaced.ensures)
    (learned_is fs c.args.fields c.args.value desired left places c.replaced-2.result c.replaced-2.type_inv read.wish c.told-places.ensures.bits leaves c.replaced-2.ensures)
    ∙ ap (predict_read chip reg c.args.value c.args.fields) is

pub returns-clause-built : goal.returns-clause-built
returns-clause-built c =
    subst (λ (m : MirrorData). IsMirrorOf c.args.chip.now m) (sym (returns-clause-value c)) (read_built c.args.chip.now c.args.reg c.args.value c.args.fields c.args.self.now
    c.told-places.ensures.sound c.requires.reg c.requires.built)

pub returns-clause-reach : goal.returns-clause-reach
returns-clause-reach c was =
    subst (λ (m : MirrorData). IsReachable c.args.chip.now m) (sym (returns-clause-value c)) (read_reach c.args.chip.now c.args.reg c.args.value c.args.fields c.args.self.now
    c.told-places.ensures.sound c.requires.reg c.requires.built was)
