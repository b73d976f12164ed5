use Rattle.rl_plain.proofs.PlainCourses.{run_is_plain}
use Rattle.rl_plain.proofs.law.run_is_plain.Goals as goal

pub returns : goal.returns
returns c = run_is_plain
