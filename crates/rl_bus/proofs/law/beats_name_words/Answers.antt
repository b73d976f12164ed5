use Rattle.rl_bus.proofs.Reached.{keeps_beats}
use Rattle.rl_bus.proofs.law.beats_name_words.Goals as goal

pub returns : goal.returns
returns c = keeps_beats
