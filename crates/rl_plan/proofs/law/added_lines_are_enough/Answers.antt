use Rattle.rl_plan.proofs.EnoughLemmas.{enough}
use Rattle.rl_plan.proofs.law.added_lines_are_enough.Goals as goal

pub returns : goal.returns
returns c = enough
