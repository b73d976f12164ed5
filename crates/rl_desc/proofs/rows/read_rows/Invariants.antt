use Rattle.std.proofs.Common.{◌≡◌, ◌++◌, drop, map}
use Rattle.toml.specs.View.{items_view}
use Rattle.rl_desc.specs.Columns.{first_from, in_rows}
use Rattle.rl_desc.specs.Spots.{spot_in}
use Rattle.rl_desc.specs.Shapes.{tables_of}
use Rattle.rl_desc.proofs.rows.read_rows.Given as goal

abbrev pub invariant-loop-row : goal.invariant-loop-row
invariant-loop-row g l =
    let all = tables_of (items_view l.rows) in
    let rest = tables_of (items_view (drop l.row-index l.rows)) in
    (first_from l.count (λ i. g.D.Described.fault (spot_in l.place i)) rest ≡ in_rows l.place g.D.Described.fault all)
    × (l.parts.items ++ map g.D.Described.data_of rest ≡ map g.D.Described.data_of all)
