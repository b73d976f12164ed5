use Rattle.std.proofs.Common.{◌≡◌, ◌/◌, ◌%◌, sym, arith, ◌∙◌}
use Rattle.std.specs.Prelude.{slice_index}
use Rattle.rl_policy.specs.Bits.{bit}
use Rattle.rl_policy.proofs.BitLemmas.{bit-zero, is_from_bits, from_bits-lt, bit-from_bits}
use Rattle.rl_bus.proofs.LaneLemmas.{lane_below-none, moved_bit, spread_more, spread_less}
use Rattle.rl_bus.proofs.table.Lanes.spread.Goals as goal
use Rattle.rl_bus.proofs.table.Lanes.spread.Goals.{then-is_enabled, else-is_enabled}

pub loop-lane-init : goal.loop-lane-init
loop-lane-init c = record { fits = omega arith; bits = λ b l. rw lane_below-none (bit-zero b) }

pub loop-lane-preserved : goal.loop-lane-preserved
loop-lane-preserved c = elim c.if-is_enabled.branch [
  | then-is_enabled w ↦ record {
    fits = rw (w.bits-is, w.put-bits.ensures) (from_bits-lt 64 _);
    bits = λ b k. rw (w.bits-is, w.put-bits.ensures, w.take.ensures, w.from-place.ensures)
        (bit-from_bits 64 _ b k ∙ moved_bit c.loop-lane.lane (slice_index c.args.self.now.bytes c.loop-lane.lane) b (bit c.args.word) (bit c.loop-lane.bits)
        ∙ spread_more c.args.self.now c.loop-lane.lane (b / 8) (b % 8) (bit c.args.word) _ (sym c.is_enabled.ensures ∙ w.if-is_enabled.true) (c.loop-lane.invariant.bits b k));
  }
  | else-is_enabled w ↦ record {
    fits = rw w.bits-is c.loop-lane.invariant.fits;
    bits = λ b k. rw w.bits-is
        (spread_less c.args.self.now c.loop-lane.lane (b / 8) (b % 8) (bit c.args.word) _ (sym c.is_enabled.ensures ∙ w.if-is_enabled.false) (c.loop-lane.invariant.bits b k));
  }
]

pub returns : goal.returns
returns c =
    let end : c.loop-lane.lane ≡ 8 = omega arith in
    is_from_bits 64 _ _ (omega arith) (λ b k. rw end at (c.loop-lane.invariant.bits b k))

pub put-bits-requires-clause-v_fits : goal.put-bits-requires-clause-v_fits
put-bits-requires-clause-v_fits c = rw c.take.ensures (from_bits-lt 8 _)
