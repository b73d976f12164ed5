use Rattle.rl_access.proofs.Beliefs.{error_keeps}
use Rattle.rl_access.proofs.law.bus_error_keeps_beliefs.Goals as goal

pub returns : goal.returns
returns c = error_keeps
