use Rattle.rl_plan.proofs.Each.{forgets}
use Rattle.rl_plan.proofs.law.a_reset_forgets.Goals as goal

pub returns : goal.returns
returns c = forgets
