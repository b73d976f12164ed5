use Rattle.std.proofs.Common.{◌≡◌, take}
use Rattle.rl_map.specs.Tables.{reset_rows}
use Rattle.rl_bench.proofs.rows.reset_rows.Given as goal

abbrev pub invariant-loop-field : goal.invariant-loop-field
invariant-loop-field l = l.rows.items ≡ reset_rows 0 (take l.field l.chip.fields)
