use Rattle.std.proofs.Common.{◌^◌, ◌<◌, arith}
use Rattle.std.specs.Prelude.{bit_and}
use Rattle.std.proofs.lemmas.Nat.{or_lt, and_le_r}
use Rattle.rl_policy.specs.Bits.{bit}
use Rattle.rl_policy.proofs.BitLemmas.{is_from_bits, bit-and, bit-not, bit-or}
use Rattle.rl_policy.proofs.MaskLemmas.{masks_write, masks_mark}
use Rattle.rl_policy.proofs.effects.Effects.write.Goals as goal

pub returns-clause-bits : goal.returns-clause-bits
returns-clause-bits c own e =
    let r = e in
    let small : bit_and c.args.self.now.spending c.args.marks < 2 ^ 64 = omega (arith, and_le_r c.args.self.now.spending c.args.marks) in
    is_from_bits 64 _ _ c.replaced.type_inv
    (λ b k. rw (c.replaced.ensures b k, c.replaced-written.ensures b k, c.replaced-by_zero.ensures b k, c.replaced-by_one.ensures b k) (simp (bit-and, bit-not)
    (rw (r.owned b k, r.spending b k, r.zero_by_zero b k, r.one_by_zero b k, r.zero_by_one b k, r.one_by_one b k)
    (masks_write (own b) (bit c.args.bits b) (bit c.args.marks b) (bit c.args.word b) (bit c.args.lanes b)))))

pub returns-clause-marks : goal.returns-clause-marks
returns-clause-marks c own e =
    let low = and_le_r c.args.self.now.spending c.args.lanes in
    is_from_bits 64 _ _ (or_lt 64 c.args.marks (bit_and c.args.self.now.spending c.args.lanes) (omega arith) (omega arith))
    (λ b k. rw (bit-or, bit-and, e.spending b k) (masks_mark (own b) (bit c.args.marks b) (bit c.args.lanes b)))
