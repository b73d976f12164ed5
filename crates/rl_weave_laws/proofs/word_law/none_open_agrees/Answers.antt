use Rattle.rl_weave_laws.proofs.Halves.{none_open_agrees}
use Rattle.rl_weave_laws.proofs.word_law.none_open_agrees.Goals as goal

pub returns : goal.returns
returns c = none_open_agrees
