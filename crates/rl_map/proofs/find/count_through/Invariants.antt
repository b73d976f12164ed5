use Rattle.std.proofs.Common.{◌≡◌, length, take, ◌≤◌}
use Rattle.std.specs.Prelude.{filter}
use Rattle.rl_map.specs.Layout.{lets_through}
use Rattle.rl_map.proofs.find.count_through.Given as goal

abbrev pub invariant-loop-row : goal.invariant-loop-row
invariant-loop-row l = record {
  count : l.count ≡ length (filter (lets_through l.write) (take l.row-index l.rows));
  behind : l.count ≤ l.row-index;
}
