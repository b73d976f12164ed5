use Rattle.std.proofs.Common.{ap, ◌==◌}
use Rattle.std.proofs.lemmas.Nat.Bits.{shr_and_one}
use Rattle.rl_policy.specs.Bits.{bit}
use Rattle.rl_report.proofs.outcome.has_mark.Goals as goal

pub returns : goal.returns
unfolding bit
returns c = ap (λ b. b == 1) (shr_and_one c.args.differ c.args.place)
