use Rattle.rl_weave_laws.proofs.Once.{each_steps_once}
use Rattle.rl_weave_laws.proofs.word_law.each_steps_once.Goals as goal

pub returns : goal.returns
returns c = each_steps_once
