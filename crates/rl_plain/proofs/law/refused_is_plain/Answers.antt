use Rattle.rl_plain.proofs.PlainCourses.{refused_is_plain}
use Rattle.rl_plain.proofs.law.refused_is_plain.Goals as goal

pub returns : goal.returns
returns c = refused_is_plain
