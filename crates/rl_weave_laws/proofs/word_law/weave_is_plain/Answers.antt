use Rattle.rl_weave_laws.proofs.Courses.{weave_is_plain}
use Rattle.rl_weave_laws.proofs.word_law.weave_is_plain.Goals as goal

pub returns : goal.returns
returns c = weave_is_plain
