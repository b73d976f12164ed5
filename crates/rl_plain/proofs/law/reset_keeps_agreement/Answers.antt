use Rattle.rl_plain.proofs.Resets.{reset_keeps_agreement}
use Rattle.rl_plain.proofs.law.reset_keeps_agreement.Goals as goal

pub returns : goal.returns
returns c = reset_keeps_agreement
