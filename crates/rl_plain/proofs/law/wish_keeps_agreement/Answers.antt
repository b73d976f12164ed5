use Rattle.rl_plain.proofs.Wishes.{wish_keeps_agreement}
use Rattle.rl_plain.proofs.law.wish_keeps_agreement.Goals as goal

pub returns : goal.returns
returns c = wish_keeps_agreement
