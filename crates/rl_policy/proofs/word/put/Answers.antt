use Rattle.std.proofs.Common.{◌-◌, ◌^◌, arith}
use Rattle.std.proofs.lemmas.Nat.{or_lt, and_le_l, mod_below}
use Rattle.std.proofs.lemmas.Bool.Decides.{nat_tests}
use Rattle.rl_policy.proofs.BitLemmas.{is_from_bits, word_bits, bit-shl, bit-above}
use Rattle.rl_policy.proofs.word.put.Goals as goal

pub returns : goal.returns
returns c =
    is_from_bits 64 _ _
    (or_lt 64 _ _ (omega (arith, and_le_l c.args.word (2 ^ 64 - 1 - c.window.result))) (mod_below _ (2 ^ 64) (omega arith)))
    (λ i l. grind (arith, nat_tests, word_bits, bit-shl, c.window.ensures i l, bit-above c.args.v c.args.width (i - c.args.lsb)))
