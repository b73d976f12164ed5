use Rattle.std.proofs.Common.{◌≡◌, map, take}
use Rattle.rl_map.specs.Tables.{field_row}
use Rattle.rl_bench.proofs.rows.field_rows.Given as goal

abbrev pub invariant-loop-number : goal.invariant-loop-number
invariant-loop-number l = l.rows.items ≡ map field_row (take l.number l.chip.fields)
