use Rattle.std.proofs.Common.{ap, ◌∙◌}
use Rattle.std.specs.Vec.{with_items}
use Rattle.rl_mirror.specs.Mirror.{MirrorData}
use Rattle.rl_mirror.specs.Prediction.{reset}
use Rattle.rl_mirror.proofs.ReachLemmas.{reached_after}
use Rattle.rl_mirror.proofs.MirrorLemmas.{hard_is, soft_is, built_after, refilled, cleared}
use Rattle.rl_mirror.proofs.mirror.Mirror.reset.Goals as goal

pub returns-then-kind-eq0-clause-value : goal.returns-then-kind-eq0-clause-value
returns-then-kind-eq0-clause-value c =
    let chip = c.args.chip.now in
    let m : MirrorData = record { mirrored = c.self.inside.mirrored.items; desired = c.self.inside.desired.items; spent = c.self.inside.spent.items } in
    hard_is chip c.args.kind m (with_items c.self.inside.mirrored c.reset_all.new.values).items (with_items c.self.inside.desired c.reset_all-2.new.values).items
    (with_items c.self.inside.spent c.clear.new.spent).items c.if-kind-eq0.true
    (refilled c.self.inside.mirrored chip c.args.kind c.deref_mut.result.now c.reset_all.new.values c.deref_mut.ensures.value c.reset_all.ensures.value)
    (refilled c.self.inside.desired chip c.args.kind c.deref_mut-2.result.now c.reset_all-2.new.values c.deref_mut-2.ensures.value c.reset_all-2.ensures.value)
    (cleared c.self.inside.spent c.deref_mut-then-kind-eq0.result.now c.clear.new.spent c.deref_mut-then-kind-eq0.ensures.value c.clear.ensures)
    ∙ ap (reset chip c.args.kind) c.self.view_is

pub returns-else-kind-eq0-clause-value : goal.returns-else-kind-eq0-clause-value
returns-else-kind-eq0-clause-value c =
    let chip = c.args.chip.now in
    let m : MirrorData = record { mirrored = c.self.inside.mirrored.items; desired = c.self.inside.desired.items; spent = c.self.inside.spent.items } in
    soft_is chip c.args.kind m (with_items c.self.inside.mirrored c.reset_all.new.values).items (with_items c.self.inside.desired c.reset_all-2.new.values).items c.if-kind-eq0.false
    (refilled c.self.inside.mirrored chip c.args.kind c.deref_mut.result.now c.reset_all.new.values c.deref_mut.ensures.value c.reset_all.ensures.value)
    (refilled c.self.inside.desired chip c.args.kind c.deref_mut-2.result.now c.reset_all-2.new.values c.deref_mut-2.ensures.value c.reset_all-2.ensures.value)
    ∙ ap (reset chip c.args.kind) c.self.view_is

pub returns-then-kind-eq0-clause-built : goal.returns-then-kind-eq0-clause-built
returns-then-kind-eq0-clause-built c = built_after c.args.chip.now c.args.kind c.args.self.now _ (returns-then-kind-eq0-clause-value c) c.reset_all.ensures.sound c.requires.built

pub returns-else-kind-eq0-clause-built : goal.returns-else-kind-eq0-clause-built
returns-else-kind-eq0-clause-built c = built_after c.args.chip.now c.args.kind c.args.self.now _ (returns-else-kind-eq0-clause-value c) c.reset_all.ensures.sound c.requires.built

pub returns-then-kind-eq0-clause-reach : goal.returns-then-kind-eq0-clause-reach
returns-then-kind-eq0-clause-reach c = reached_after c.args.chip.now c.args.kind c.args.self.now _ (returns-then-kind-eq0-clause-value c) c.reset_all.ensures.sound c.requires.built

pub returns-else-kind-eq0-clause-reach : goal.returns-else-kind-eq0-clause-reach
returns-else-kind-eq0-clause-reach c = reached_after c.args.chip.now c.args.kind c.args.self.now _ (returns-else-kind-eq0-clause-value c) c.reset_all.ensures.sound c.requires.built
