use Rattle.std.proofs.Common.{◌≡◌, false}
use Rattle.rl_seq.specs.Choice.{any_below}
use Rattle.rl_seq.proofs.Choosing.{is_compared_at}
use Rattle.rl_seq.proofs.choice.is_bit_compared.Given as goal

abbrev pub invariant-loop-k : goal.invariant-loop-k
invariant-loop-k l = any_below l.k (is_compared_at l.chip l.reg l.bit) ≡ false
