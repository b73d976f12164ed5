use Rattle.rl_plain.proofs.EachCall.{reset_is_plain}
use Rattle.rl_plain.proofs.law.reset_is_plain.Goals as goal

pub returns : goal.returns
returns c = reset_is_plain
