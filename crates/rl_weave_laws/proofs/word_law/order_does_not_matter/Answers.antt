use Rattle.rl_weave_laws.proofs.AnyOrder.{order_does_not_matter}
use Rattle.rl_weave_laws.proofs.word_law.order_does_not_matter.Goals as goal

pub returns : goal.returns
returns c = order_does_not_matter
