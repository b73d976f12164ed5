use Rattle.rl_plain.proofs.BrokenCourses.{broken_run_is_plain}
use Rattle.rl_plain.proofs.law.broken_run_is_plain.Goals as goal

pub returns : goal.returns
returns c = broken_run_is_plain
