use Rattle.rl_split.proofs.Accesses.{narrow_read_is_step}
use Rattle.rl_split.proofs.law.narrow_read_is_step.Goals as goal

pub returns : goal.returns
returns c = narrow_read_is_step
