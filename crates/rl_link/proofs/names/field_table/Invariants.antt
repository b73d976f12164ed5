use Rattle.std.proofs.Common.{◌≡◌, map, take}
use Rattle.rl_model.specs.Chip.{field_path}
use Rattle.rl_link.proofs.names.field_table.Given as goal

abbrev pub invariant-loop-field : goal.invariant-loop-field
invariant-loop-field l = l.table ≡ map (field_path l.chip) (take l.field l.chip.fields)
