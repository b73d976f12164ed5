use Rattle.rl_plan.proofs.Few.{lines_few}
use Rattle.rl_plan.proofs.law.lines_are_few.Goals as goal

pub returns : goal.returns
returns c = lines_few
