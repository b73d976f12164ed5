use Rattle.rl_weave_laws.proofs.Orders.{ended_are_all}
use Rattle.rl_weave_laws.proofs.word_law.ended_are_all.Goals as goal

pub returns : goal.returns
returns c = ended_are_all
