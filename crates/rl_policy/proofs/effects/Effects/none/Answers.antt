use Rattle.rl_policy.proofs.BitLemmas.{bit-zero}
use Rattle.rl_policy.proofs.effects.Effects.none.Goals as goal

pub returns : goal.returns
returns c = record {
  owned = λ b _. bit-zero b;
  spending = λ b _. bit-zero b;
  zero_by_zero = λ b _. bit-zero b;
  one_by_zero = λ b _. bit-zero b;
  zero_by_one = λ b _. bit-zero b;
  one_by_one = λ b _. bit-zero b;
  zero_by_read = λ b _. bit-zero b;
  one_by_read = λ b _. bit-zero b;
  shown = λ b _. bit-zero b;
}
