use Rattle.std.proofs.Common.{ap, ◌==◌}
use Rattle.std.proofs.lemmas.Nat.Bits.{shr_and_one}
use Rattle.rl_policy.specs.Bits.{bit}
use Rattle.rl_session.proofs.layout_text.has_lane.Goals as goal

pub returns : goal.returns
unfolding bit
returns c = ap (λ b. b == 1) (shr_and_one c.args.word.now.lanes c.args.lane)
