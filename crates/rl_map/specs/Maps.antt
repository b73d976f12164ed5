-- What a layout keeps of the maps, the ports and the places that it was built of.
use Rattle.std.specs.Prelude.{◌≡◌, ℕ, ◌+◌, ◌<◌, nat_lt, if◌then◌else◌, List, [], ◌∷◌, ◌++◌, length, map, flat_map, take, drop}
use Rattle.std.specs.Prelude.{fold, slice_get, slice_index_or, Option, Some, None, option_map, unwrap_or, position, bytes_eq}
use Rattle.std.specs.List.{range_with_len}
use Rattle.std.specs.Option.{option_or}
use Rattle.rl_model.specs.declared.rows.Item.{Item}
use Rattle.rl_model.specs.declared.rows.Item.TheVariants as item
use Rattle.rl_model.specs.Rows.{ChipData}
use Rattle.rl_model.specs.Chip.{bytes_of}
use Rattle.rl_bus.specs.declared.op.AdapterKind.{AdapterKind}
use Rattle.rl_bus.specs.declared.table.WordRow.{WordRow}
use Rattle.rl_map.specs.declared.path.Level.{Level}
use Rattle.rl_map.specs.declared.parts.MapNode.{MapNode}
use Rattle.rl_map.specs.declared.parts.PlacePart.{PlacePart}
use Rattle.rl_map.specs.declared.rows.MapRow.{MapRow}
use Rattle.rl_map.specs.declared.rows.PortRow.{PortRow}
use Rattle.rl_map.specs.declared.rows.PlaceRow.{PlaceRow}
use Rattle.rl_map.specs.Level.{has_fifo}
use Rattle.rl_map.specs.Layout.{LayoutData, no_map, no_kind, place_at, words_of, row_of, key_of}

-- ---- maps

-- the map with a name
abbrev pub map_number : List MapRow → List ℕ → Option ℕ
map_number maps name = position (λ m. bytes_eq m.name name) maps

abbrev pub map_with : List MapRow → Option ℕ → MapRow
map_with maps None = no_map
map_with maps (Some n) = slice_index_or maps n no_map

abbrev pub level_of : MapNode → Level
level_of m = record { bytes = m.bytes; kind = m.kind; word = m.word; offset = m.offset }

-- A root is a path by itself; any other map stands before the path of its parent (uvm_reg_map::add_submap, IEEE
-- 1800.2-2017, 18.2).
abbrev pub path_under : List MapRow → Option (List ℕ) → Level → List Level
path_under earlier None level = level ∷ []
path_under earlier (Some parent) level = level ∷ (map_with earlier (map_number earlier parent)).path

-- a root is a port by itself; any other map has the port of its parent
abbrev pub port_under : ℕ → List MapRow → Option (List ℕ) → ℕ
port_under ports earlier None = ports
port_under ports earlier (Some parent) = (map_with earlier (map_number earlier parent)).port

abbrev pub map_row : ℕ → List MapRow → MapNode → MapRow
map_row ports earlier m = record {
  name = m.name;
  path = path_under earlier m.parent (level_of m);
  port = port_under ports earlier m.parent;
}

-- ---- ports

-- the first kind with a name
abbrev pub kind_number : List AdapterKind → List ℕ → Option ℕ
kind_number kinds name = position (λ k. bytes_eq k.name name) kinds

abbrev pub kind_with : List AdapterKind → Option ℕ → AdapterKind
kind_with kinds None = no_kind
kind_with kinds (Some n) = slice_index_or kinds n no_kind

-- A root as a port, with its adapter and whether a predictor watches it (uvm_reg_map::set_auto_predict, IEEE
-- 1800.2-2017, 18.2).
abbrev pub port_row : List AdapterKind → ℕ → MapNode → PortRow
port_row kinds number m =
    let adapter = kind_number kinds m.adapter in
    record {
      map = number;
      base = m.base;
      bytes = m.bytes;
      adapter = unwrap_or adapter 0;
      kind = kind_with kinds adapter;
      explicit = m.explicit;
    }

-- the ports, and a root among them
abbrev pub ports_with : List AdapterKind → ℕ → List PortRow → Option (List ℕ) → MapNode → List PortRow
ports_with kinds number ports None m = ports ++ port_row kinds number m ∷ []
ports_with kinds number ports (Some parent) m = ports

-- the maps and the ports, after those that were before
pub record MapTables : Type 0 where
  pub maps : List MapRow
  pub ports : List PortRow

abbrev pub with_map : List AdapterKind → MapTables → MapNode → MapTables
with_map kinds t m = record {
  maps = t.maps ++ map_row (length t.ports) t.maps m ∷ [];
  ports = ports_with kinds (length t.maps) t.ports m.parent m;
}

abbrev pub no_tables : MapTables
no_tables = record { maps = []; ports = [] }

abbrev pub tables_of : List AdapterKind → List MapNode → MapTables
tables_of kinds maps = fold (with_map kinds) no_tables maps

-- ---- places

-- the register or the memory with a path
abbrev pub item_at : ChipData → List ℕ → Option Item
item_at chip path =
    option_or
    (option_map (λ n. item.Reg n) (position (bytes_eq path) (take (length chip.regs) (drop chip.scopes chip.paths))))
    (option_map (λ n. item.Mem n)
    (position (bytes_eq path) (take (length chip.mems) (drop (chip.scopes + length chip.regs) chip.paths))))

abbrev pub item_bytes : ChipData → Item → ℕ
item_bytes chip i = unwrap_or (bytes_of chip i) 0

-- the locations of a memory; a register has one
abbrev pub item_size : ChipData → Item → ℕ
item_size chip (item.Reg n) = 1
item_size chip (item.Mem n) = unwrap_or (option_map (λ m. m.size) (slice_get chip.mems n)) 0

-- A register or a memory in a map, with offset and rights (uvm_reg_map::add_reg and add_mem, IEEE 1800.2-2017, 18.2).
abbrev pub place_row : ChipData → List MapRow → PlacePart → PlaceRow
place_row chip maps p =
    let number = map_number maps p.map in
    let m = map_with maps number in
    let i = unwrap_or (item_at chip p.item) (item.Reg 0) in
    record {
      map = unwrap_or number 0;
      item = i;
      offset = p.offset;
      rights = p.rights;
      bytes = item_bytes chip i;
      size = item_size chip i;
      port = m.port;
      fifo = has_fifo m.path;
    }

-- ---- the layout

-- the rows of a location, of a place and of all places, in this order
abbrev pub location_rows : LayoutData → (place index : ℕ) → List WordRow
location_rows l place index = map (row_of l place index) (words_of l place index)

abbrev pub place_rows : LayoutData → ℕ → List WordRow
place_rows l place = flat_map (location_rows l place) (range_with_len 0 (place_at l place).size)

abbrev pub all_rows : LayoutData → List WordRow
all_rows l = flat_map (place_rows l) (range_with_len 0 (length l.places))

-- a row goes before those of a higher key, and before those of its own
abbrev pub row_into : WordRow → List WordRow → List WordRow
row_into r [] = r ∷ []
row_into r (s ∷ rows) = if nat_lt (key_of s) (key_of r) then s ∷ row_into r rows else r ∷ s ∷ rows

-- the rows by port and address, those of one address as they were
unfoldable pub by_address : List WordRow → List WordRow
by_address [] = []
by_address (r ∷ rows) = row_into r (by_address rows)

-- the layout of parts that no condition refuses
unfoldable pub layout_of : ChipData → List MapNode → List PlacePart → List AdapterKind → LayoutData
layout_of chip maps places kinds =
    let tables = tables_of kinds maps in
    let bare : LayoutData = record {
      maps = tables.maps;
      places = map (place_row chip tables.maps) places;
      ports = tables.ports;
      kinds = kinds;
      rows = [];
    } in
    record bare { rows = by_address (all_rows bare) }

-- ---- the relation

-- each item of the layout is in the chip, with the same bytes and the same size
abbrev pub IsPlaceIn : ChipData → PlaceRow → Type 0
IsPlaceIn chip p =
    (bytes_of chip p.item ≡ Some p.bytes)
    × ((m : ℕ) → p.item ≡ item.Mem m → option_map (λ m. m.size) (slice_get chip.mems m) ≡ Some p.size)

-- the layout was built with the chip
abbrev pub IsBuiltWith : LayoutData → ChipData → Type 0
IsBuiltWith l chip = (place : ℕ) → place < length l.places → IsPlaceIn chip (place_at l place)
