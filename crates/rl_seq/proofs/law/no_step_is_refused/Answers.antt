use Rattle.rl_seq.proofs.Granting.{no_step_is_refused}
use Rattle.rl_seq.proofs.law.no_step_is_refused.Goals as goal

pub returns : goal.returns
returns c = no_step_is_refused
