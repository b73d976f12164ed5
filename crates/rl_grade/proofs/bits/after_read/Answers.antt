use Rattle.std.proofs.Common.{◌==◌, ap, ◌∙◌, arith}
use Rattle.rl_policy.specs.Bits.{bit}
use Rattle.rl_policy.specs.Table.{after_read}
use Rattle.rl_grade.proofs.HiddenTests.{one_bit}
use Rattle.rl_grade.proofs.bits.after_read.Goals as goal

pub returns : goal.returns
returns c =
    ap (λ x. x == 1) c.read_effect.ensures ∙ one_bit (λ i. after_read c.args.policy (bit c.repeated.result i))
    ∙ ap (after_read c.args.policy) (c.repeated.ensures 0 (omega arith))
