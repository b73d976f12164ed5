use Rattle.rl_policy.proofs.BitLemmas.{from_low_bits, bit-shr}
use Rattle.rl_policy.proofs.word.take.Goals as goal

pub returns : goal.returns
returns c = from_low_bits _ _ _ _ c.mask.ensures (λ i _. bit-shr c.args.word c.args.lsb i)
