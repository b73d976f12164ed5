use Rattle.rl_access.proofs.Tables.{reg_there}
use Rattle.rl_indirect.proofs.bank.bits_of.Goals as goal

pub peek-requires : goal.peek-requires
peek-requires g c = record { cell = reg_there c.args.model.now _ c.args.reg c.requires.device c.requires.reg }
