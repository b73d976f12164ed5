use Rattle.rl_plan.proofs.Each.{told_apart}
use Rattle.rl_plan.proofs.law.policies_are_told_apart.Goals as goal

pub returns : goal.returns
returns c = told_apart
