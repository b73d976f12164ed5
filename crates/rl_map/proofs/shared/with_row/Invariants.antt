use Rattle.std.proofs.Common.{◌≡◌, drop}
use Rattle.std.specs.Prelude.{fold}
use Rattle.rl_map.specs.Clashes.{with_pair}
use Rattle.rl_map.proofs.shared.with_row.Given as goal

abbrev pub invariant-loop-other : goal.invariant-loop-other
invariant-loop-other l = fold (with_pair l.places l.row) l.least (drop l.other-index l.rows) ≡ fold (with_pair l.places l.row) l.best l.rows
