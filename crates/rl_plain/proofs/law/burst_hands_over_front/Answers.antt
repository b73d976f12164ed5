use Rattle.rl_plain.proofs.Fronts.{burst_hands_over_front}
use Rattle.rl_plain.proofs.law.burst_hands_over_front.Goals as goal

pub returns : goal.returns
returns g c = burst_hands_over_front g.R.Recorder.takes g.R.Recorder.breaks
