use Rattle.std.proofs.Common.{ap, sym, ◌==◌, ◌∙◌, arith}
use Rattle.std.specs.Prelude.{nat_lt}
use Rattle.std.proofs.lemmas.Bool.{false_from_ne_true, ltb-true}
use Rattle.std.proofs.lemmas.Nat.Bits.{shr_and_one}
use Rattle.rl_policy.proofs.BitLemmas.{bit-above}
use Rattle.rl_policy.specs.Bits.{bit}
use Rattle.rl_grade.proofs.hidden.has_bit.Goals as goal

pub returns-then-i-lt64 : goal.returns-then-i-lt64
unfolding bit
returns-then-i-lt64 c = ap (λ b. b == 1) (shr_and_one c.args.value c.args.i)

pub returns-else-i-lt64 : goal.returns-else-i-lt64
returns-else-i-lt64 c =
    let high = c.if-i-lt64.false in
    false_from_ne_true (nat_lt c.args.i 64) (λ so. let low = ltb-true c.args.i 64 so in omega (arith, low, high))
    ∙ sym (bit-above c.args.value 64 c.args.i (omega (arith, c.ranges.value.fits)) high)
