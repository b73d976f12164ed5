use Rattle.std.proofs.Common.{arith}
use Rattle.rl_model.specs.Fields.{fields_of}
use Rattle.rl_mirror.proofs.MaskedLemmas.{told_is}
use Rattle.rl_mirror.proofs.fields.told.Goals as goal

pub returns-clause-bits : goal.returns-clause-bits
returns-clause-bits c =
    told_is (fields_of c.args.chip.now c.args.reg) c.chosen.result c.args.fields c.effects.result.now.shown (omega arith) c.chosen.ensures.bits c.effects.ensures.value.shown
