use Rattle.rl_split.proofs.UnderWay.{others_stay_under_way}
use Rattle.rl_split.proofs.law.others_stay_under_way.Goals as goal

pub returns : goal.returns
returns c = others_stay_under_way
