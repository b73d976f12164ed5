use Rattle.rl_mirror.proofs.ReachLemmas.{update_brings}
use Rattle.rl_mirror.proofs.law.update_brings.Goals as goal

pub returns : goal.returns
returns c = update_brings
