use Rattle.rl_mirror.proofs.WishLemmas.{no_wish}
use Rattle.rl_mirror.proofs.mirror.Mirror.needs_update.Goals as goal

pub returns-clause-fields : goal.returns-clause-fields
returns-clause-fields c = rw (c.desired.ensures, c.mirrored.ensures) (no_wish c.args.chip.now c.args.self.now c.args.reg c.requires.built c.requires.reg)
