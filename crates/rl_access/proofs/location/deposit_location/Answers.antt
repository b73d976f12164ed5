use Rattle.rl_bus.specs.declared.table.Cell.TheVariants.{Loc}
use Rattle.rl_access.proofs.Tables.{location_there, device_poked}
use Rattle.rl_access.proofs.location.deposit_location.Goals as goal

pub poke-requires : goal.poke-requires
poke-requires g c = record { cell = location_there c.args.model.now _ c.args.mem c.args.index c.requires.device c.requires.mem c.requires.index }

pub returns-clause-device : goal.returns-clause-device
returns-clause-device g c = device_poked c.args.model.now _ _ (Loc c.args.mem c.args.index) c.args.value c.poke.ensures.step c.requires.device
