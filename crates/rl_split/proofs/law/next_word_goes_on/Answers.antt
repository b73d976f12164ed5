use Rattle.rl_split.proofs.UnderWay.{next_word_goes_on}
use Rattle.rl_split.proofs.law.next_word_goes_on.Goals as goal

pub returns : goal.returns
returns c = next_word_goes_on
