use Rattle.std.proofs.Common.{◌+◌, ◌<◌, length, sym, subst, arith}
use Rattle.rl_map.proofs.Accepting.{all_part}
use Rattle.rl_map.proofs.Sorting.{some_row}
use Rattle.rl_map.proofs.Scanning.{scan_more, slice_length}
use Rattle.rl_map.proofs.Folding.{Seen, seen_more, seen_none}
use Rattle.rl_map.proofs.shared.first_shared.Goals as goal

pub loop-k-init : goal.loop-k-init
loop-k-init c = record {
  start_in = omega arith;
  same = λ i d p q. absurd (omega arith);
  before = λ i d p. absurd (omega arith);
  seen = seen_none c.args.places.now c.args.rows.now;
}

pub loop-k-preserved : goal.loop-k-preserved
loop-k-preserved c =
    let rows = c.args.rows.now in
    let k = c.loop-k.k in
    let was = c.loop-k.invariant in
    let low : k < length rows = c.loop-k-test.true in
    let next = c.group_start-start.result in
    let step = scan_more rows c.loop-k.start k next some_row c.requires.ascending low (record { start_in = was.start_in; same = was.same; before = was.before })
    c.group_start-start.ensures.same c.group_start-start.ensures.other in
    record {
      start_in = step.0.start_in;
      same = step.0.same;
      before = step.0.before;
      seen = subst (Seen c.args.places.now rows (k + 1)) (sym c.with_row-best.ensures)
          (seen_more c.args.places.now rows next k _ c.loop-k.best step.0 step.1 low (slice_length rows next k step.1 (omega arith)) was.seen);
    }

pub returns-clause-least : goal.returns-clause-least
returns-clause-least c i j d less low key clash = c.loop-k.invariant.seen.least i j d less (omega (arith, low, c.loop-k-test.false)) key clash

pub returns-clause-made : goal.returns-clause-made
returns-clause-made c s e = c.loop-k.invariant.seen.made s e

pub with_row-best-requires-clause-rows : goal.with_row-best-requires-clause-rows
with_row-best-requires-clause-rows c = all_part (λ row. row.place < length c.args.places.now) c.args.rows.now _ _ c.requires.rows
