use Rattle.rl_weave_laws.proofs.AnyWords.{each_word_is_taken}
use Rattle.rl_weave_laws.proofs.word_law.each_word_is_taken.Goals as goal

pub returns : goal.returns
returns c = each_word_is_taken
