use Rattle.rl_plain.proofs.Masters.{other_steps_commute}
use Rattle.rl_plain.proofs.law.other_steps_commute.Goals as goal

pub returns : goal.returns
returns c = other_steps_commute
