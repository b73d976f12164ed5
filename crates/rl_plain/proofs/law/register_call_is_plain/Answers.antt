use Rattle.rl_plain.proofs.Machines.{register_call_is_plain}
use Rattle.rl_plain.proofs.law.register_call_is_plain.Goals as goal

pub returns : goal.returns
returns c = register_call_is_plain
