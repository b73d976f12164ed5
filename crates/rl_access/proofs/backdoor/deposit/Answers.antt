use Rattle.rl_bus.specs.declared.table.Cell.TheVariants.{Reg}
use Rattle.rl_access.proofs.Tables.{reg_there, device_poked}
use Rattle.rl_access.proofs.backdoor.deposit.Goals as goal

pub poke-requires : goal.poke-requires
poke-requires g c = record { cell = reg_there c.args.model.now _ c.args.reg c.requires.device c.requires.reg }

pub returns-clause-device : goal.returns-clause-device
returns-clause-device g c = device_poked c.args.model.now _ _ (Reg c.args.reg) c.args.value c.poke.ensures.step c.requires.device
