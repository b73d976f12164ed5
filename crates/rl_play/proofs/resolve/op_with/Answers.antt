use Rattle.rl_play.proofs.resolve.op_with.Goals as goal

pub returns-in-Register : goal.returns-in-Register
returns-in-Register c = c.reg_op.ensures c.args.second

pub returns-in-Field : goal.returns-in-Field
returns-in-Field c = c.field_op.ensures c.args.second
