use Rattle.rl_split.proofs.UnderWay.{all_sent_is_read}
use Rattle.rl_split.proofs.law.all_sent_is_read.Goals as goal

pub returns : goal.returns
returns c = all_sent_is_read
