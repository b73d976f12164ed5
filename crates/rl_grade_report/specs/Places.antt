-- The places of a chip at which flaws are reported.
use Rattle.std.specs.Prelude.{ℕ, List, [], ◌∷◌, ◌++◌, length, map, flat_map, slice_get, Option, Some, None}
use Rattle.std.specs.List.{range_with_len}
use Rattle.rl_model.specs.declared.rows.Item.TheVariants.{Reg, Mem}
use Rattle.rl_model.specs.declared.rows.RegRow.{RegRow}
use Rattle.rl_model.specs.Rows.{ChipData}
use Rattle.rl_grade.specs.declared.place.Place.{Place}
use Rattle.rl_grade.specs.declared.place.Place.TheVariants.{OfItem, OfField, OfSession}

abbrev pub fields_of : Option RegRow → List Place
fields_of None = []
fields_of (Some row) = map OfField (range_with_len row.first row.count)

-- a register, and its fields behind it
abbrev pub reg_places : ChipData → ℕ → List Place
reg_places c reg = OfItem (Reg reg) ∷ fields_of (slice_get c.regs reg)

abbrev pub mem_place : ℕ → Place
mem_place mem = OfItem (Mem mem)

abbrev pub regs_places : ChipData → (regs : ℕ) → List Place
regs_places c regs = flat_map (reg_places c) (range_with_len 0 regs)

abbrev pub mems_places : (mems : ℕ) → List Place
mems_places mems = map mem_place (range_with_len 0 mems)

-- the registers, each with its fields, the memories, and the session
abbrev pub places_of : ChipData → List Place
places_of c = regs_places c (length c.regs) ++ mems_places (length c.mems) ++ OfSession ∷ []
