use Rattle.rl_access.proofs.WholeGathered.{whole_access_predicts}
use Rattle.rl_access.proofs.law.whole_access_predicts.Goals as goal

pub returns : goal.returns
returns c = whole_access_predicts
