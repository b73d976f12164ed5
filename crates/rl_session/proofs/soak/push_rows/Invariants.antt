-- The rows from the next one on are left.
use Rattle.std.proofs.Common.{◌≡◌, ◌++◌, ◌-◌}
use Rattle.rl_session.specs.Soak.{rows_text, row_text}
use Rattle.rl_session.proofs.soak.push_rows.Given as goal

abbrev pub invariant-loop-k : goal.invariant-loop-k
invariant-loop-k l =
    l.text.items ++ rows_text (row_text l.array) l.k (64 - l.k) ≡ l.initial.text.items ++ rows_text (row_text l.array) 0 64
