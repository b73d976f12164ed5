use Rattle.rl_weave_laws.proofs.Halves.{fresh_is_half}
use Rattle.rl_weave_laws.proofs.word_law.fresh_is_half.Goals as goal

pub returns : goal.returns
returns c = fresh_is_half
