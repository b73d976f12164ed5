use Rattle.rl_mirror.proofs.MirrorLemmas.{around_by, around_fits}
use Rattle.rl_mirror.proofs.mirror.Mirror.neutral_around.Goals as goal

pub returns-clause-value : goal.returns-clause-value
returns-clause-value c =
    around_by c.args.chip.now c.args.field c.args.v c.args.self.now c.numbered_field-reg.result c.mirrored.result c.assembled.result c.put.result c.deref.result.now
    c.numbered_field-reg.ensures.field c.mirrored.ensures c.assembled.ensures.value c.put.ensures

pub returns-clause-fits : goal.returns-clause-fits
returns-clause-fits c =
    around_fits c.args.chip.now c.args.field c.args.v c.assembled.result c.put.result c.numbered_field-reg.result c.numbered_field-reg.ensures.sound c.requires.field
    c.numbered_field-reg.ensures.field c.assembled.ensures.held c.put.ensures
