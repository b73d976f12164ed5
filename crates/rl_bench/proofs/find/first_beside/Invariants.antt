use Rattle.std.proofs.Common.{ℕ, ◌+◌, ◌*◌, ◌^◌, ◌<◌, slice_index_or}
use Rattle.rl_bus.specs.declared.table.WordRow.{WordRow}
use Rattle.rl_map.specs.Layout.{key_of}
use Rattle.rl_bench.proofs.find.first_beside.Given as goal

-- those so far stand before the address
abbrev pub invariant-loop-first : goal.invariant-loop-first
invariant-loop-first l = (k : ℕ) (d : WordRow) → k < l.first → key_of (slice_index_or l.words k d) < l.port * 2 ^ 64 + l.address
