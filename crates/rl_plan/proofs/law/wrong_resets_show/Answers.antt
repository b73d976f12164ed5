use Rattle.rl_plan.proofs.Each.{wrong_shown}
use Rattle.rl_plan.proofs.law.wrong_resets_show.Goals as goal

pub returns : goal.returns
returns c = wrong_shown
