use Rattle.rl_weave_laws.proofs.Fresh.{fresh_is_unsent}
use Rattle.rl_weave_laws.proofs.word_law.fresh_is_unsent.Goals as goal

pub returns : goal.returns
returns c = fresh_is_unsent
