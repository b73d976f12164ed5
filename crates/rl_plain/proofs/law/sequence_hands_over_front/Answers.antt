use Rattle.rl_plain.proofs.Fronts.{sequence_hands_over_front}
use Rattle.rl_plain.proofs.law.sequence_hands_over_front.Goals as goal

pub returns : goal.returns
returns g c = sequence_hands_over_front g.R.Recorder.takes g.R.Recorder.breaks
