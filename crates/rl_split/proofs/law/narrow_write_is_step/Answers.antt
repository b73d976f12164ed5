use Rattle.rl_split.proofs.Accesses.{narrow_write_is_step}
use Rattle.rl_split.proofs.law.narrow_write_is_step.Goals as goal

pub returns : goal.returns
returns c = narrow_write_is_step
