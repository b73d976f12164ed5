use Rattle.std.proofs.Common.{ap, arith, ◌∙◌}
use Rattle.rl_policy.specs.Bits.{bit}
use Rattle.rl_policy.specs.Table.{after_write}
use Rattle.rl_policy.proofs.BitLemmas.{from_low_bits}
use Rattle.rl_policy.proofs.policy.write_effect.Goals as goal

pub returns : goal.returns
returns c =
    from_low_bits c.args.width _ _ _ c.mask.ensures
    (λ i l. c.written.ensures i (omega arith) ∙ ap (after_write c.args.p (bit c.args.cur i) (bit c.args.w i)) (c.repeated.ensures i (omega arith)))
