-- The arrays of a description: the first fault of their rows, and what they say.
use Rattle.std.specs.Prelude.{[], ◌∷◌, List, map, Option}
use Rattle.toml.specs.Data.{Members}
use Rattle.toml.specs.View.{items_view}
use Rattle.rl_model.specs.declared.fault.Array.TheVariants as arrays
use Rattle.rl_model.specs.Data.{PartsData}
use Rattle.rl_desc.specs.declared.document.Arrays.{Arrays}
use Rattle.rl_desc.specs.declared.fault.DescFault.{DescFault}
use Rattle.rl_desc.specs.declared.fault.Rows.TheVariants.{Array}
use Rattle.rl_desc.specs.declared.key.Key.TheVariants as key
use Rattle.rl_desc.specs.Columns.{in_rows, rows_at}
use Rattle.rl_desc.specs.Data.{DocumentData}
use Rattle.rl_desc.specs.Reading.{scope_fault, reg_fault, mem_fault, map_fault, place_fault, flaw_fault}
use Rattle.rl_desc.specs.Reading.{scope_of, reg_of, mem_of, map_of, place_of, flaw_of}
use Rattle.rl_desc.specs.Refusals.{first}
use Rattle.rl_desc.specs.Shapes.{tables_of}

pub record ArrayRows : Type 0 where
  pub blocks : List Members
  pub files : List Members
  pub regs : List Members
  pub mems : List Members
  pub maps : List Members
  pub places : List Members
  pub flaws : List Members

-- the rows of arrays
abbrev pub rows_in : Arrays → ArrayRows
rows_in a = record {
  blocks = tables_of (items_view a.blocks.now);
  files = tables_of (items_view a.files.now);
  regs = tables_of (items_view a.regs.now);
  mems = tables_of (items_view a.mems.now);
  maps = tables_of (items_view a.maps.now);
  places = tables_of (items_view a.places.now);
  flaws = tables_of (items_view a.flaws.now);
}

-- the rows of a description
abbrev pub rows_of : Members → ArrayRows
rows_of doc = record {
  blocks = rows_at key.Block doc;
  files = rows_at key.File doc;
  regs = rows_at key.Reg doc;
  mems = rows_at key.Mem doc;
  maps = rows_at key.Map doc;
  places = rows_at key.Place doc;
  flaws = rows_at key.Flaw doc;
}

-- the first fault of the rows that a chip is built of
abbrev pub parts_fault : ArrayRows → Option DescFault
parts_fault rows =
    first
    (in_rows (Array arrays.Block) scope_fault rows.blocks ∷ in_rows (Array arrays.File) scope_fault rows.files
    ∷ in_rows (Array arrays.Reg) reg_fault rows.regs ∷ in_rows (Array arrays.Mem) mem_fault rows.mems ∷ [])

abbrev pub parts_data : ArrayRows → PartsData
parts_data rows = record {
  blocks = map scope_of rows.blocks;
  files = map scope_of rows.files;
  regs = map reg_of rows.regs;
  mems = map mem_of rows.mems;
}

-- the first fault of all rows
abbrev pub rows_fault : ArrayRows → Option DescFault
rows_fault rows =
    first
    (parts_fault rows
    ∷ in_rows (Array arrays.Map) map_fault rows.maps
    ∷ in_rows (Array arrays.Place) place_fault rows.places
    ∷ in_rows (Array arrays.Flaw) flaw_fault rows.flaws ∷ [])

abbrev pub rows_data : ArrayRows → DocumentData
rows_data rows = record {
  parts = parts_data rows;
  maps = map map_of rows.maps;
  places = map place_of rows.places;
  flaws = map flaw_of rows.flaws;
}
