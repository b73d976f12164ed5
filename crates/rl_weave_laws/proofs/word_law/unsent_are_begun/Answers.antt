use Rattle.rl_weave_laws.proofs.AnyWords.{none_open_gathers_nothing, unsent_are_begun}
use Rattle.rl_weave_laws.proofs.word_law.unsent_are_begun.Goals as goal

pub returns-clause-begun : goal.returns-clause-begun
returns-clause-begun c = unsent_are_begun

pub returns-clause-nothing : goal.returns-clause-nothing
returns-clause-nothing c = none_open_gathers_nothing
