use Rattle.rl_plan.proofs.Each.{stuck_shown}
use Rattle.rl_plan.proofs.law.stuck_bits_show.Goals as goal

pub returns : goal.returns
returns c = stuck_shown
