use Rattle.std.proofs.Common.{refl}
use Rattle.rl_access.proofs.BackPerforms.{reset_performs}
use Rattle.rl_access.proofs.backdoor.reset_into.Goals as goal

pub returns-clause-performs : goal.returns-clause-performs
returns-clause-performs g c =
    reset_performs c.args.model.now c.reset.new.self _ _ _ _ c.args.kind _ _ c.reset_device.ensures.step c.reset.ensures refl c.fill_memory.ensures.event c.reset_device.ensures.asked
