use Rattle.std.proofs.Common.{ℕ, ◌<◌, ◌≤◌, get_or}
use Rattle.rl_bus.specs.declared.table.WordRow.{WordRow}
use Rattle.rl_map.specs.Layout.{key_of}
use Rattle.rl_map.proofs.shared.is_ascending.Given as goal

abbrev pub invariant-loop-k : goal.invariant-loop-k
invariant-loop-k l = (i j : ℕ) (d : WordRow) → i ≤ j → j < l.k → key_of (get_or l.rows i d) ≤ key_of (get_or l.rows j d)
