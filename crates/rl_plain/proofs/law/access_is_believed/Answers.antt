use Rattle.rl_plain.proofs.Believed.{access_is_believed}
use Rattle.rl_plain.proofs.law.access_is_believed.Goals as goal

pub returns : goal.returns
returns c = access_is_believed
