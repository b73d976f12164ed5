use Rattle.std.proofs.Common.{arith}
use Rattle.rl_policy.proofs.BitLemmas.{from_low_bits}
use Rattle.rl_policy.proofs.policy.neutral_word.Goals as goal

pub returns : goal.returns
returns c = from_low_bits c.args.width _ _ _ c.mask.ensures (λ i l. c.neutral.ensures i (omega arith))
