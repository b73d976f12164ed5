use Rattle.std.proofs.Common.{◌≡◌, ◌++◌, map, take}
use Rattle.rl_bench.specs.Rows.{reset_of}
use Rattle.rl_bench.proofs.rows.push_resets.Given as goal

abbrev pub invariant-loop-reset : goal.invariant-loop-reset
invariant-loop-reset l = l.rows.items ≡ l.initial.rows.items ++ map (reset_of l.field) (take l.reset-index l.resets)
