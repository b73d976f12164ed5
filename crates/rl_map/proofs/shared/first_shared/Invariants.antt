use Rattle.std.proofs.Common.{◌≡◌, ℕ, ◌<◌, ◌≤◌, get_or}
use Rattle.rl_bus.specs.declared.table.WordRow.{WordRow}
use Rattle.rl_map.specs.Layout.{key_of}
use Rattle.rl_map.proofs.Folding.{Seen}
use Rattle.rl_map.proofs.shared.first_shared.Given as goal

abbrev pub invariant-loop-k : goal.invariant-loop-k
invariant-loop-k l = record {
  start_in : l.start ≤ l.k;
  same : (i : ℕ) (d : WordRow) → l.start ≤ i → i < l.k → key_of (get_or l.rows i d) ≡ key_of (get_or l.rows l.start d);
  before : (i : ℕ) (d : WordRow) → i < l.start → key_of (get_or l.rows i d) < key_of (get_or l.rows l.start d);
  seen : Seen l.places l.rows l.k l.best;
}
