use Rattle.rl_bus.specs.declared.table.Cell.TheVariants.{Reg}
use Rattle.rl_access.proofs.Tables.{reg_there, device_poked}
use Rattle.rl_indirect.proofs.bank.deposit.Goals as goal

pub poke-requires : goal.poke-requires
poke-requires g c = record { cell = reg_there c.args.model.now _ c.args.reg c.requires.device c.requires.reg }

pub returns-in-Some-clause-device : goal.returns-in-Some-clause-device
returns-in-Some-clause-device g c = device_poked c.args.model.now _ _ (Reg c.args.reg) c.in-Some.value c.poke.ensures.step c.requires.device
