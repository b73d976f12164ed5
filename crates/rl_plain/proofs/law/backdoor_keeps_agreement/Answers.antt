use Rattle.rl_plain.proofs.Backdoor.{backdoor_keeps_agreement}
use Rattle.rl_plain.proofs.law.backdoor_keeps_agreement.Goals as goal

pub returns : goal.returns
returns c = backdoor_keeps_agreement
