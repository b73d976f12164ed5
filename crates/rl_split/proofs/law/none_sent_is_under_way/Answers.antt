use Rattle.rl_split.proofs.UnderWay.{none_sent_is_under_way}
use Rattle.rl_split.proofs.law.none_sent_is_under_way.Goals as goal

pub returns : goal.returns
returns c = none_sent_is_under_way
