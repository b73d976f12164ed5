use Rattle.rl_grade.proofs.Running.{run_stops_there}
use Rattle.rl_grade.proofs.law.a_run_stops_at_the_refused_line.Goals as goal

pub returns : goal.returns
returns c = run_stops_there
