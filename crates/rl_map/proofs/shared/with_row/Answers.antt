use Rattle.std.proofs.Common.{◌+◌, drop, sym, ap, ◌∙◌}
use Rattle.std.specs.Prelude.{fold}
use Rattle.rl_map.specs.Clashes.{with_pair}
use Rattle.rl_map.proofs.Lists.{drop_at}
use Rattle.rl_map.proofs.shared.with_row.Goals as goal

pub loop-other-preserved : goal.loop-other-preserved
loop-other-preserved c =
    let rows = c.args.rows.now in
    let i = c.loop-other.other-index in
    let next = with_pair c.args.places.now c.args.row.now in
    ap (λ best. fold next best (drop (i + 1) rows)) c.with_pair-least.ensures
    ∙ sym (ap (fold next c.loop-other.least) (drop_at rows i _ c.loop-other-test.true)) ∙ c.loop-other.invariant
