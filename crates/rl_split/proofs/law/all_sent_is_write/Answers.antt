use Rattle.rl_split.proofs.UnderWay.{all_sent_is_write}
use Rattle.rl_split.proofs.law.all_sent_is_write.Goals as goal

pub returns : goal.returns
returns c = all_sent_is_write
