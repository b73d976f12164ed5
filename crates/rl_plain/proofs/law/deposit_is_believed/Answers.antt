use Rattle.rl_plain.proofs.Believed.{deposit_is_believed}
use Rattle.rl_plain.proofs.law.deposit_is_believed.Goals as goal

pub returns : goal.returns
returns c = deposit_is_believed
