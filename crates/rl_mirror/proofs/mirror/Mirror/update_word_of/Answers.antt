use Rattle.rl_mirror.proofs.MirrorLemmas.{update_is}
use Rattle.rl_mirror.proofs.mirror.Mirror.update_word_of.Goals as goal

pub returns-clause-value : goal.returns-clause-value
returns-clause-value c =
    update_is c.args.chip.now c.args.reg c.args.self.now c.desired.result c.mirrored.result c.assembled.result c.deref.result.now c.desired.ensures c.mirrored.ensures c.assembled.ensures.value
