use Rattle.std.proofs.Common.{sym, arith}
use Rattle.std.proofs.lemmas.List.Filters.{length-filter_more}
use Rattle.rl_map.specs.Layout.{lets_through}
use Rattle.rl_map.proofs.Orders.{digit_le}
use Rattle.rl_map.proofs.find.count_through.Goals as goal

pub loop-row-preserved : goal.loop-row-preserved
loop-row-preserved c =
    let was = c.loop-row.invariant in
    record {
      count = rw (c.one_if-count.ensures, c.lets_through.ensures, was.count) (sym (length-filter_more (lets_through c.args.write) c.args.rows.now c.loop-row.row-index _ c.loop-row-test.true));
      behind = omega (arith, was.behind, c.one_if-count.ensures, digit_le c.lets_through.result);
    }
