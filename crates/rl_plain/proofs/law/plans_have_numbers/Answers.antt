use Rattle.rl_plain.proofs.PlanNumbers.{plans_have_numbers}
use Rattle.rl_plain.proofs.law.plans_have_numbers.Goals as goal

pub returns : goal.returns
returns c = plans_have_numbers
