-- One row of the reset values of a field.
use Rattle.std.specs.Prelude.{ℕ}
use Rattle.rl_model.specs.declared.rows.Reset.{Reset}
use Rattle.rl_bus.specs.declared.table.ResetRow.{ResetRow}

abbrev pub reset_of : ℕ → Reset → ResetRow
reset_of f r = record { field = f; kind = r.kind; value = r.value }
