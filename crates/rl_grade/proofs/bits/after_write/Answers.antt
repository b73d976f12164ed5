use Rattle.std.proofs.Common.{◌==◌, ap, ◌∙◌, arith}
use Rattle.rl_policy.specs.Bits.{bit}
use Rattle.rl_policy.specs.Table.{after_write}
use Rattle.rl_grade.proofs.HiddenTests.{one_bit}
use Rattle.rl_grade.proofs.bits.after_write.Goals as goal

pub returns : goal.returns
returns c =
    ap (λ x. x == 1) c.write_effect.ensures
    ∙ one_bit (λ i. after_write c.args.policy (bit c.repeated.result i) (bit c.repeated-2.result i) c.args.spent)
    ∙ ap (λ b. after_write c.args.policy b (bit c.repeated-2.result 0) c.args.spent) (c.repeated.ensures 0 (omega arith))
    ∙ ap (λ b. after_write c.args.policy c.args.old b c.args.spent) (c.repeated-2.ensures 0 (omega arith))
