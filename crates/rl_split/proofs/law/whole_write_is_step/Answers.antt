use Rattle.rl_split.proofs.Accesses.{whole_write_is_step}
use Rattle.rl_split.proofs.law.whole_write_is_step.Goals as goal

pub returns : goal.returns
returns c = whole_write_is_step
