use Rattle.rl_weave_laws.proofs.Halves.{step_keeps_half}
use Rattle.rl_weave_laws.proofs.word_law.step_keeps_half.Goals as goal

pub returns : goal.returns
returns c = step_keeps_half
