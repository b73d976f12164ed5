use Rattle.std.proofs.Common.{ap, eqb}
use Rattle.std.proofs.lemmas.Nat.Bits.{shr_and_one}
use Rattle.rl_policy.specs.Bits.{bit}
use Rattle.rl_bus.proofs.table.Lanes.is_enabled.Goals as goal

pub returns : goal.returns
unfolding bit
returns c = ap (λ x. eqb x 1) (shr_and_one c.args.self.now.enabled c.args.lane)
