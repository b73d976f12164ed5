use Rattle.rl_plain.proofs.Agreement.{access_keeps_agreement}
use Rattle.rl_plain.proofs.law.access_keeps_agreement.Goals as goal

pub returns : goal.returns
returns c = access_keeps_agreement
