use Rattle.rl_access.proofs.Beliefs.{nothing_differs}
use Rattle.rl_access.proofs.law.nothing_else_differs.Goals as goal

pub returns : goal.returns
returns c = nothing_differs
