use Rattle.rl_weave_laws.proofs.Models.{step_keeps_model}
use Rattle.rl_weave_laws.proofs.word_law.step_keeps_model.Goals as goal

pub returns : goal.returns
returns c = step_keeps_model
