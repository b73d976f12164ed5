use Rattle.rl_plain.proofs.Machines.{call_keeps_model}
use Rattle.rl_plain.proofs.law.call_keeps_model.Goals as goal

pub returns : goal.returns
returns c = call_keeps_model
