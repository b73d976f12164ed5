use Rattle.rl_access.proofs.Tables.{device_reset}
use Rattle.rl_access.proofs.backdoor.reset_device.Goals as goal

pub returns-clause-device : goal.returns-clause-device
returns-clause-device g c = device_reset c.args.model.now _ _ c.args.kind c.reset.ensures.step c.requires.device
