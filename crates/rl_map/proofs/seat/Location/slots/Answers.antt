use Rattle.std.proofs.Common.{◌^◌, ◌≤◌, arith}
use Rattle.std.proofs.Math.Nat.{pow-le-pow_right, le_trans}
use Rattle.std.proofs.lemmas.Nat.{mul-le}
use Rattle.rl_map.proofs.Chunks.{by_width, count_le, slots_next, slots_done, more_slots}
use Rattle.rl_map.proofs.seat.Location.slots.Goals as goal

pub overflow_mul-slots : goal.overflow_mul-slots
overflow_mul-slots c =
    let early : c.loop-map.map-index ≤ 4 = omega (arith, c.requires.path.short) in
    let few : c.loop-map.slots ≤ 8 ^ 4 = le_trans c.loop-map.invariant.few (pow-le-pow_right {n = 8} (omega arith) early) in
    let w = c.requires.path.widths c.loop-map.map-index _ c.loop-map-test.true in
    let count : c.div_ceil.result ≤ 8 = rw c.div_ceil.ensures (count_le _ _ c.loop-map.invariant.size w) in
    omega (arith, mul-le _ _ _ _ few count)

pub loop-map-preserved : goal.loop-map-preserved
loop-map-preserved c =
    let was = c.loop-map.invariant in
    let w = c.requires.path.widths c.loop-map.map-index _ c.loop-map-test.true in
    record {
      so_far = slots_next c.loop-map.slots c.loop-map.bytes _ c.args.path.now c.loop-map.map-index _ _ c.loop-map-test.true c.div_ceil.ensures was.so_far;
      size = by_width (λ n. n ≤ 8) _ w (omega arith) (omega arith) (omega arith) (omega arith);
      few = more_slots c.loop-map.slots _ c.loop-map.map-index was.few (rw c.div_ceil.ensures (count_le _ _ was.size w));
    }

pub returns : goal.returns
returns c = slots_done c.loop-map.slots c.loop-map.bytes _ c.args.path.now c.loop-map.map-index (omega (arith, c.loop-map-test.false)) c.loop-map.invariant.so_far
