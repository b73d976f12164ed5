use Rattle.std.proofs.Common.{◌≡◌, ◌+◌, None, arith}
use Rattle.std.proofs.lemmas.Grind.{common_steps}
use Rattle.toml.specs.Data.{as_table}
use Rattle.toml.specs.View.{view}
use Rattle.rl_desc.specs.Spots.{spot_in}
use Rattle.rl_desc.proofs.RowLemmas.{Continues-more, tables_of-next}
use Rattle.rl_desc.proofs.rows.read_rows.Goals as goal

pub loop-row-preserved-in_default : goal.loop-row-preserved-in_default
loop-row-preserved-in_default g c =
    let other : as_table (view c.row-item.result) ≡ None = grind (arith, common_steps) in
    let next = rw other at (tables_of-next c.args.rows.now c.loop-row.row-index c.row-item.result c.loop-row-test.true c.row-item.is) in
    rw (← next) c.loop-row.invariant

pub loop-row-preserved : goal.loop-row-preserved
loop-row-preserved g c =
    let next = rw (← c.in-Some.ensures) at (tables_of-next c.args.rows.now c.loop-row.row-index c.row-item.result c.loop-row-test.true c.row-item.is) in
    let (none, same) = c.in_ok-read.ensures in
    let at_place = rw c.spot.ensures at none in
    let pushed = rw same at c.in_ok-push.ensures.items in
    let counted : c.in_ok-count.count ≡ c.loop-row.count + 1 = grind arith in
    Continues-more (λ i. g.D.Described.fault (spot_in c.args.place i)) g.D.Described.data_of
    c.loop-row.count c.in_ok-count.count c.loop-row.parts.items _ _ _ _ _ (rw next at c.loop-row.invariant) at_place pushed counted
