use Rattle.std.proofs.Common.{arith}
use Rattle.rl_session.specs.Soak.{rows_text, row_text}
use Rattle.rl_session.proofs.ListingLemmas.{more_pushed, all_pushed, next_row, no_row}
use Rattle.rl_session.proofs.soak.push_rows.Goals as goal

pub loop-k-preserved : goal.loop-k-preserved
loop-k-preserved c =
    let row = row_text c.args.array in
    more_pushed c.args.text.now.items _ _ (rows_text row 0 64) _ _ _ c.loop-k.invariant (next_row row c.loop-k.k 64 (omega arith)) c.in_ok-push_row.ensures

pub returns : goal.returns
returns c =
    let row = row_text c.args.array in
    all_pushed c.args.text.now.items _ (rows_text row 0 64) _ c.loop-k.invariant (no_row row c.loop-k.k 64 (omega arith))
