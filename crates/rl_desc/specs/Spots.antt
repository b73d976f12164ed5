-- Where a row is.
use Rattle.std.specs.Prelude.{ℕ, Some, None}
use Rattle.rl_model.specs.declared.fault.Spot.{Spot}
use Rattle.rl_desc.specs.declared.fault.Rows.{Rows}
use Rattle.rl_desc.specs.declared.fault.Rows.TheVariants.{Array, Fields}

-- row i of an array, and field i of a register
abbrev pub spot_in : Rows → ℕ → Spot
spot_in (Array a) i = record { array = a; row = i; field = None }
spot_in (Fields reg) i = record reg { field = Some i }
