use Rattle.std.proofs.Common.{ap, ◌∙◌}
use Rattle.rl_policy.specs.Bits.{bit}
use Rattle.rl_policy.proofs.BitLemmas.{bit-from_bits, from_bits-same}
use Rattle.rl_policy.specs.Access.{bit_left}
use Rattle.rl_bus.specs.Setup.{policy_at}
use Rattle.rl_bench.proofs.HeldLemmas.{held_same, gathered_same}
use Rattle.rl_bench.proofs.shape.Shape.read.Goals as goal

pub returns-clause-word : goal.returns-clause-word
returns-clause-word c at e =
    c.gather.ensures
    ∙ from_bits-same 64 _ _ (gathered_same c.args.lanes.now _ _ c.requires (λ b k.
    ap (λ n. bit n b) (c.read-shown.ensures.answer (policy_at at.setup at.reg) e.effects) ∙ bit-from_bits 64 _ b k))

pub returns-clause-bits : goal.returns-clause-bits
returns-clause-bits c at e =
    c.hold.ensures at e
    ∙ held_same _ _ _ _ (λ b k.
    ap (λ n. bit n b) (c.read-shown.ensures.bits (policy_at at.setup at.reg) e.effects) ∙ bit-from_bits 64 _ b k
    ∙ ap (bit_left (policy_at at.setup at.reg b) (bit c.args.bits b)) (ap (λ n. bit n b) c.covered.ensures ∙ bit-from_bits 64 _ b k))
