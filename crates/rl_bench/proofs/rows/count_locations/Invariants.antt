use Rattle.std.proofs.Common.{◌≡◌, take}
use Rattle.std.specs.Prelude.{sum_by}
use Rattle.rl_bench.proofs.rows.count_locations.Given as goal

abbrev pub invariant-loop-mem : goal.invariant-loop-mem
invariant-loop-mem l = l.count ≡ sum_by (λ m. m.size) (take l.mem l.chip.mems)
