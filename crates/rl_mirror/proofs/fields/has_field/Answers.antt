use Rattle.std.proofs.Common.{ap, eqb}
use Rattle.std.proofs.lemmas.Nat.Bits.{shr_and_one}
use Rattle.rl_policy.specs.Bits.{bit}
use Rattle.rl_mirror.proofs.fields.has_field.Goals as goal

pub returns : goal.returns
unfolding bit
returns c = ap (λ x. eqb x 1) (shr_and_one c.args.fields c.args.k)
