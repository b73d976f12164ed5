use Rattle.rl_plan.proofs.Each.{deaf_shown}
use Rattle.rl_plan.proofs.law.deaf_ones_show.Goals as goal

pub returns : goal.returns
returns c = deaf_shown
