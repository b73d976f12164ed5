use Rattle.rl_access.proofs.Narrow.{part_small}
use Rattle.rl_access.proofs.operation.part_of.Goals as goal

pub returns-in-Value-clause-within : goal.returns-in-Value-clause-within
returns-in-Value-clause-within c = part_small c.args.field.now.width c.take.result _ c.take.ensures
