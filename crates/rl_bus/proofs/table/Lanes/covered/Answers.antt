use Rattle.std.proofs.Common.{◌≡◌, ◌/◌, sym, arith, ◌∙◌}
use Rattle.rl_policy.proofs.BitLemmas.{bit-zero, is_from_bits, bit-or}
use Rattle.rl_bus.proofs.LaneLemmas.{lane_below-none, byte_within, lane_more, lane_less}
use Rattle.rl_bus.proofs.table.Lanes.covered.Goals as goal
use Rattle.rl_bus.proofs.table.Lanes.covered.Goals.{then-is_enabled, else-is_enabled}

pub loop-lane-init : goal.loop-lane-init
loop-lane-init c = λ b l. rw lane_below-none (bit-zero b)

pub loop-lane-preserved : goal.loop-lane-preserved
loop-lane-preserved c = elim c.if-is_enabled.branch [
  | then-is_enabled w ↦ λ b k. rw (w.mask-is, bit-or, w.window-mask.ensures b k, w.from.ensures, byte_within)
      (lane_more c.args.self.now c.loop-lane.lane (b / 8) _ (sym c.is_enabled.ensures ∙ w.if-is_enabled.true) (c.loop-lane.invariant b k))
  | else-is_enabled w ↦ λ b k. rw w.mask-is
      (lane_less c.args.self.now c.loop-lane.lane (b / 8) _ (sym c.is_enabled.ensures ∙ w.if-is_enabled.false) (c.loop-lane.invariant b k))
]

pub returns : goal.returns
returns c =
    let end : c.loop-lane.lane ≡ 8 = omega arith in
    is_from_bits 64 _ _ (omega arith) (λ b k. rw end at (c.loop-lane.invariant b k))
