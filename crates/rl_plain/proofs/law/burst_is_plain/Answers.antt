use Rattle.rl_plain.proofs.PlainCourses.{burst_is_plain}
use Rattle.rl_plain.proofs.law.burst_is_plain.Goals as goal

pub returns : goal.returns
returns c = burst_is_plain
