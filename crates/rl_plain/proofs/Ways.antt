-- The way of a granted write.
use Rattle.std.proofs.Common.{◌≡◌, ℕ, true, map, Option, Ok}
use Rattle.std.specs.Prelude.{nat_lt, ◌^◌}
use Rattle.rl_model.specs.declared.rows.Item.TheVariants as item
use Rattle.rl_access.specs.declared.event.Op.TheVariants as op
use Rattle.rl_access.specs.declared.event.Refused.TheVariants.{TooWide}
use Rattle.rl_access.specs.Model.{ModelData}
use Rattle.rl_access.specs.Operation.{reg_of}
use Rattle.rl_access.specs.Rules.{Grant, grant, only_where, way, watched_way, item_size, field_width}
use Rattle.rl_plain.proofs.Granted.{only_ok, IsWay, way_found, watched_way_found}

fits_way : (m : ModelData) (reg : ℕ) (value place : ℕ) (g : Grant) → only_where g (nat_lt value (256 ^ item_size m.chip (item.Reg reg))) TooWide ≡ Ok place → g ≡ Ok place
fits_way m reg value place g e = (only_ok g (nat_lt value (256 ^ item_size m.chip (item.Reg reg))) TooWide place e).0

-- what a whole write is to its place
pub write_way : (m : ModelData) (reg : ℕ) (map : Option ℕ) (value place : ℕ) → grant m (op.Write reg map value) ≡ Ok place → IsWay m.layout (item.Reg reg) true place
write_way m reg map value place granted = way_found m (item.Reg reg) map true place (fits_way m reg value place (way m (item.Reg reg) map true) granted)

pub other_write_way : (m : ModelData) (reg : ℕ) (map : Option ℕ) (value place : ℕ) → grant m (op.OtherWrite reg map value) ≡ Ok place → IsWay m.layout (item.Reg reg) true place
other_write_way m reg map value place granted = watched_way_found m reg map true place (fits_way m reg value place (watched_way m reg map true) granted)

pub field_write_way : (m : ModelData) (field : ℕ) (map : Option ℕ) (value place : ℕ) → grant m (op.FieldWrite field map value) ≡ Ok place → IsWay m.layout (item.Reg (reg_of m.chip field)) true place
field_write_way m field map value place granted =
    way_found m (item.Reg (reg_of m.chip field)) map true place (only_ok (way m (item.Reg (reg_of m.chip field)) map true) (nat_lt value (2 ^ field_width m.chip field)) TooWide place granted).0
