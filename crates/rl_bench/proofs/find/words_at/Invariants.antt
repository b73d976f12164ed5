use Rattle.std.proofs.Common.{◌≡◌, ℕ, ◌<◌, ◌≤◌, true, slice_index_or}
use Rattle.rl_bus.specs.Setup.{stands_at}
use Rattle.rl_bus.specs.declared.table.WordRow.{WordRow}
use Rattle.rl_bench.proofs.find.words_at.Given as goal

-- those so far stand there
abbrev pub invariant-loop-end : goal.invariant-loop-end
invariant-loop-end l = (k : ℕ) (d : WordRow) → l.first ≤ k → k < l.end → stands_at l.port l.address (slice_index_or l.words k d) ≡ true
