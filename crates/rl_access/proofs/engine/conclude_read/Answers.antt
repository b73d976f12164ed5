use Rattle.std.proofs.Common.{◌<◌, ◌^◌, sym, subst, ◌∙◌}
use Rattle.rl_map.specs.Layout.{place_at}
use Rattle.rl_split.proofs.Sent.{joined_fits}
use Rattle.rl_access.specs.Items.{words_answered}
use Rattle.rl_access.proofs.engine.conclude_read.Goals as goal

pub returns-in-None-clause-fits : goal.returns-in-None-clause-fits
returns-in-None-clause-fits c =
    let l = c.args.model.now.layout in
    let a = c.args.access.now in
    subst (λ v. v < 256 ^ (place_at l a.place).bytes) (sym (c.requires.value (sym c.failed_at.ensures ∙ c.in-None.is)))
    (joined_fits l a.place 0 a.chosen (words_answered c.args.trace.now) c.chip.ensures.sound.layout c.requires.access.location)
