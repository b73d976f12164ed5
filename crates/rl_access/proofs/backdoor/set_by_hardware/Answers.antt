use Rattle.rl_access.proofs.Tables.{field_there, device_set}
use Rattle.rl_access.proofs.backdoor.set_by_hardware.Goals as goal

pub hw-requires : goal.hw-requires
hw-requires g c = record { field = field_there c.args.model.now _ c.args.field c.requires.device c.requires.field }

pub returns-clause-device : goal.returns-clause-device
returns-clause-device g c = device_set c.args.model.now _ _ c.args.field c.args.value c.hw.ensures.step c.requires.device
