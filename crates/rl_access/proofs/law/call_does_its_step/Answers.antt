use Rattle.rl_access.proofs.Worlds.{call_does_step, step_is_call}
use Rattle.rl_access.proofs.law.call_does_its_step.Goals as goal

pub returns-clause-exact : goal.returns-clause-exact
returns-clause-exact c = call_does_step

pub returns-clause-some : goal.returns-clause-some
returns-clause-some c = step_is_call
