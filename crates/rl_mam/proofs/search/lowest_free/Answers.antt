use Rattle.std.proofs.Common.{◌∙◌, sym, ap, Err, arith}
use Rattle.rl_mam.specs.declared.region.MamFault.TheVariants.{NoRoom}
use Rattle.rl_mam.proofs.FreeRuns.{hit_before, hit_last, none_hit, lowest_free, no_room}
use Rattle.rl_mam.proofs.search.lowest_free.Goals as goal

pub returns-then-len-free-clause-place : goal.returns-then-len-free-clause-place
returns-then-len-free-clause-place c =
    lowest_free c.args.len c.args.size c.args.regions.now c.loop-region.from c.requires.apart c.requires.some
    (sym c.loop-region.invariant.same ∙ hit_before c.args.len c.args.size c.loop-region.from c.loop-region.longest c.args.regions.now c.loop-region.region-index _ (omega arith) c.if-len-free.true)

pub returns-then-len-free-2-clause-place : goal.returns-then-len-free-2-clause-place
returns-then-len-free-2-clause-place c =
    lowest_free c.args.len c.args.size c.args.regions.now c.loop-region.from c.requires.apart c.requires.some
    (sym c.loop-region.invariant.same ∙ hit_last c.args.len c.args.size c.loop-region.from c.loop-region.longest c.args.regions.now c.loop-region.region-index (omega arith) (omega arith))

pub returns-clause-cause : goal.returns-clause-cause
returns-clause-cause c =
    no_room c.args.len c.args.size c.args.regions.now (NoRoom c.max-longest-2.result) c.requires.apart c.requires.some
    (sym c.loop-region.invariant.same ∙ none_hit c.args.len c.args.size c.loop-region.from c.loop-region.longest c.args.regions.now c.loop-region.region-index (omega arith) (omega arith) ∙ ap
    (λ n. Err (NoRoom n)) (sym c.max-longest-2.ensures))
