use Rattle.rl_plain.proofs.Machines.{call_is_plain}
use Rattle.rl_plain.proofs.law.call_is_plain.Goals as goal

pub returns : goal.returns
returns c = call_is_plain
