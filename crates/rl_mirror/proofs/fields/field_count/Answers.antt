use Rattle.rl_mirror.proofs.FieldLemmas.{count_is}
use Rattle.rl_mirror.proofs.fields.field_count.Goals as goal

pub returns-clause-count : goal.returns-clause-count
returns-clause-count c = count_is c.args.chip.now c.args.reg c.field_count.result c.field_count.ensures.sound c.requires c.field_count.ensures.value
