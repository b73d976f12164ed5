-- Which items the bus reaches, and in which direction.
use Rattle.std.specs.Prelude.{◌&&◌, Bool, List, if◌then◌else◌}
use Rattle.std.specs.List.{list_any}
use Rattle.rl_model.specs.declared.rows.Item.{Item}
use Rattle.rl_bus.specs.declared.table.WordRow.{WordRow}
use Rattle.rl_grade.specs.Flaws.{is_of}

-- a word of the item lets items of the direction through
abbrev pub lets : Item → (write : Bool) → WordRow → Bool
lets item write w = is_of w.cell item && (if write then w.writes else w.reads)

abbrev pub is_reached : List WordRow → Item → (write : Bool) → Bool
is_reached rows item write = list_any (lets item write) rows
