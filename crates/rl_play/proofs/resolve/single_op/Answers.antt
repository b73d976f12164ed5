use Rattle.std.proofs.Common.{sym, ◌∙◌}
use Rattle.rl_play.proofs.NamedLemmas.{item_op_is}
use Rattle.rl_play.proofs.resolve.single_op.Goals as goal

pub returns-in_default : goal.returns-in_default
returns-in_default c = c.item_op.ensures ∙ sym (item_op_is c.args.model.now c.args.line.now c.in_default.not-BurstRead)
