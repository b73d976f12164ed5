use Rattle.rl_plain.proofs.EachAccess.{access_is_step}
use Rattle.rl_plain.proofs.law.access_is_step.Goals as goal

pub returns : goal.returns
returns c = access_is_step
