use Rattle.rl_plain.proofs.PlainCourses.{plan_is_plain}
use Rattle.rl_plain.proofs.law.plan_is_plain.Goals as goal

pub returns : goal.returns
returns c = plan_is_plain
