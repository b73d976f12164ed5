-- What the calls of one operation are of.
use Rattle.std.specs.Prelude.{◌<◌, length}
use Rattle.rl_access.specs.Model.{ModelData}

-- the first register, the fields 0 to 2, the first memory, the first kind of reset, and the maps 0 and 1 are there
pub record AreThere (m : ModelData) : Type 0 where
  pub reg : 0 < length m.chip.regs
  pub field : 2 < length m.chip.fields
  pub mem : 0 < length m.chip.mems
  pub kind : 0 < length m.chip.kinds
  pub map : 1 < length m.layout.maps
