use Rattle.std.proofs.Common.{◌≡◌, take}
use Rattle.std.specs.Prelude.{sum_by}
use Rattle.rl_map.specs.Tables.{mem_rows}
use Rattle.rl_bench.proofs.rows.mem_rows.Given as goal

abbrev pub invariant-loop-mem : goal.invariant-loop-mem
invariant-loop-mem l = record {
  rows : l.rows.items ≡ mem_rows 0 (take l.mem l.chip.mems);
  first : l.first ≡ sum_by (λ m. m.size) (take l.mem l.chip.mems);
}
