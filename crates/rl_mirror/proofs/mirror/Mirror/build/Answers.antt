use Rattle.std.proofs.Common.{false, replicate, ap, sym, subst, ◌∙◌}
use Rattle.rl_mirror.specs.Mirror.{MirrorData, IsMirrorOf}
use Rattle.rl_mirror.specs.Prediction.{reset, fresh}
use Rattle.rl_mirror.specs.Reachable.{IsReachable}
use Rattle.rl_mirror.proofs.ReachLemmas.{fresh_reach}
use Rattle.rl_mirror.proofs.MirrorLemmas.{blank_built, blank_is}
use Rattle.rl_mirror.proofs.mirror.Mirror.build.Goals as goal

pub reset-requires-clause-built : goal.reset-requires-clause-built
reset-requires-clause-built c =
    subst (λ (m : MirrorData). IsMirrorOf c.args.chip.now m)
    (sym (blank_is c.args.chip.now c.in_ok-vec.field-0.items c.in_ok-vec-2.field-0.items c.in_ok-vec-3.field-0.items
    (c.in_ok-vec.ensures.items_if_clones_equal (λ y e. e) ∙ ap (λ n. replicate n 0) c.regs-regs.ensures.count)
    (c.in_ok-vec-2.ensures.items_if_clones_equal (λ y e. e) ∙ ap (λ n. replicate n 0) c.regs-regs.ensures.count)
    (c.in_ok-vec-3.ensures.items_if_clones_equal (λ y e. e) ∙ ap (λ n. replicate n false) c.fields.ensures.count)))
    (blank_built c.args.chip.now)

pub returns-clause-value : goal.returns-clause-value
unfolding fresh
returns-clause-value c =
    c.reset.ensures.value
    ∙ ap (reset c.args.chip.now 0)
    (blank_is c.args.chip.now c.in_ok-vec.field-0.items c.in_ok-vec-2.field-0.items c.in_ok-vec-3.field-0.items
    (c.in_ok-vec.ensures.items_if_clones_equal (λ y e. e) ∙ ap (λ n. replicate n 0) c.regs-regs.ensures.count)
    (c.in_ok-vec-2.ensures.items_if_clones_equal (λ y e. e) ∙ ap (λ n. replicate n 0) c.regs-regs.ensures.count)
    (c.in_ok-vec-3.ensures.items_if_clones_equal (λ y e. e) ∙ ap (λ n. replicate n false) c.fields.ensures.count))

pub returns-clause-reach : goal.returns-clause-reach
returns-clause-reach c = subst (λ (m : MirrorData). IsReachable c.args.chip.now m) (sym (returns-clause-value c)) (fresh_reach c.args.chip.now c.regs-regs.ensures.sound)
