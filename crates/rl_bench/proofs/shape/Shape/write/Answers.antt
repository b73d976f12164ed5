use Rattle.std.proofs.Common.{ap, ◌∙◌}
use Rattle.rl_policy.specs.Bits.{bit}
use Rattle.rl_policy.proofs.BitLemmas.{bit-from_bits, from_bits-same}
use Rattle.rl_policy.specs.Access.{bit_written, mark_written}
use Rattle.rl_bus.specs.Setup.{policy_at}
use Rattle.rl_bench.proofs.HeldLemmas.{held_same}
use Rattle.rl_bench.proofs.shape.Shape.write.Goals as goal

pub returns-clause-bits : goal.returns-clause-bits
returns-clause-bits c at e =
    let p = policy_at at.setup at.reg in
    c.hold.ensures at e
    ∙ held_same _ _ _ _ (λ b k.
    ap (λ n. bit n b) (c.write-written.ensures.bits (policy_at at.setup at.reg) e.effects) ∙ bit-from_bits 64 _ b k
    ∙ ap (λ w. bit_written (p b) (bit c.args.bits b) (bit c.args.marks b) w (bit c.covered.result b)) (ap (λ n. bit n b) c.spread-carried.ensures ∙ bit-from_bits 64 _ b k)
    ∙ ap (bit_written (p b) (bit c.args.bits b) (bit c.args.marks b) _) (ap (λ n. bit n b) c.covered.ensures ∙ bit-from_bits 64 _ b k))

pub returns-clause-marks : goal.returns-clause-marks
returns-clause-marks c at e =
    c.write-written.ensures.marks (policy_at at.setup at.reg) e.effects ∙ from_bits-same 64 _ _ (λ b k.
    ap (mark_written (policy_at at.setup at.reg b) (bit c.args.marks b)) (ap (λ n. bit n b) c.covered.ensures ∙ bit-from_bits 64 _ b k))
