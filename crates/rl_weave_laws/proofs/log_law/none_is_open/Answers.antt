use Rattle.rl_weave_laws.proofs.Open.{none_is_open}
use Rattle.rl_weave_laws.proofs.log_law.none_is_open.Goals as goal

pub returns : goal.returns
returns c = none_is_open
