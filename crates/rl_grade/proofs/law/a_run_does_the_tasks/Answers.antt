use Rattle.rl_grade.proofs.Running.{run_does_tasks}
use Rattle.rl_grade.proofs.law.a_run_does_the_tasks.Goals as goal

pub returns : goal.returns
returns c = run_does_tasks
