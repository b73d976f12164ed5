use Rattle.std.proofs.Common.{arith}
use Rattle.std.proofs.lemmas.Nat.{and_le_r}
use Rattle.rl_policy.specs.Bits.{bit}
use Rattle.rl_policy.proofs.BitLemmas.{is_from_bits, bit-and}
use Rattle.rl_policy.proofs.MaskLemmas.{masks_left, masks_answer}
use Rattle.rl_policy.proofs.effects.Effects.read.Goals as goal

pub returns-clause-answer : goal.returns-clause-answer
returns-clause-answer c own e =
    is_from_bits 64 _ _ (omega (arith, and_le_r c.args.self.now.shown c.args.bits))
    (λ b k. simp bit-and (rw (e.shown b k) (masks_answer (own b) (bit c.args.bits b))))

pub returns-clause-bits : goal.returns-clause-bits
returns-clause-bits c own e =
    let r = e in
    is_from_bits 64 _ _ c.replaced.type_inv
    (λ b k. rw (c.replaced.ensures b k, c.replaced-left.ensures b k, bit-and, r.owned b k, r.zero_by_read b k, r.one_by_read b k)
    (masks_left (own b) (bit c.args.bits b) (bit c.args.lanes b)))
