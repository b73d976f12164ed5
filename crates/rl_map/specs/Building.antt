-- What holds of the maps, the ports and the places while a layout is built.
use Rattle.std.specs.Prelude.{◌≡◌, ℕ, ◌+◌, ◌*◌, ◌^◌, ◌<◌, ◌≤◌, ◌==◌, Bool, false, not, ◌&&◌, ◌||◌, List, length, map, flat_map, All, slice_index_or, slice_get, Option, Some, None}
use Rattle.std.specs.List.{range_with_len}
use Rattle.rl_model.specs.Rows.{ChipData}
use Rattle.rl_model.specs.declared.rows.Item.TheVariants as item
use Rattle.rl_bus.specs.declared.op.AdapterKind.{AdapterKind}
use Rattle.rl_bus.specs.declared.table.WordRow.{WordRow}
use Rattle.rl_bus.specs.Lanes.{IsWidth}
use Rattle.rl_map.specs.declared.path.Level.{Level}
use Rattle.rl_map.specs.declared.parts.MapNode.{MapNode}
use Rattle.rl_map.specs.declared.rows.MapRow.{MapRow}
use Rattle.rl_map.specs.declared.rows.PortRow.{PortRow}
use Rattle.rl_map.specs.declared.rows.PlaceRow.{PlaceRow}
use Rattle.rl_map.specs.Level.{IsPath, has_fifo, root_bytes}
use Rattle.rl_map.specs.Words.{item_words}
use Rattle.rl_map.specs.Layout.{no_map, no_port, no_place, location_of, word_row, PlacedOnce, key_of}
use Rattle.rl_map.specs.Maps.{IsPlaceIn, map_number, port_row}
use Rattle.rl_map.specs.Faults.{Placed, some_byte, is_above, is_unaligned}

-- ---- maps and ports

pub record IsMapRow (ports : List PortRow) (m : MapRow) : Type 0 where
  pub path : IsPath m.path
  pub some : 0 < length m.path
  pub port : m.port < length ports
  pub root : root_bytes m.path ≡ (slice_index_or ports m.port no_port).bytes

pub record IsPortRow (kinds : List AdapterKind) (maps : ℕ) (p : PortRow) : Type 0 where
  pub map : p.map < maps
  pub width : IsWidth p.bytes
  pub wide : p.bytes ≤ p.kind.most_bytes
  pub adapter : slice_get kinds p.adapter ≡ Some p.kind
  pub adapter_in : p.adapter < length kinds
  pub narrow : p.bytes ≤ 8
  pub most : p.kind.most_address < 2 ^ 64

pub record AreTables (kinds : List AdapterKind) (maps : List MapRow) (ports : List PortRow) : Type 0 where
  pub few : length maps ≤ 64
  pub fewer : length ports ≤ length maps
  pub each_map : All (IsMapRow ports) maps
  pub each_port : All (IsPortRow kinds (length maps)) ports

-- of some adapter kinds
abbrev pub HasTables : List MapRow → List PortRow → Type 0
HasTables maps ports = (kinds : List AdapterKind) × AreTables kinds maps ports

-- a map's parent is an earlier map, whose path has room for one more
abbrev pub IsUnder : List MapRow → Option (List ℕ) → Type 0
IsUnder maps None = Unit {0}
IsUnder maps (Some parent) =
    (n : ℕ) × (map_number maps parent ≡ Some n) × (n < length maps) × (length (slice_index_or maps n no_map).path < 4)

-- a root has a port
abbrev pub HasPort : List AdapterKind → ℕ → Option (List ℕ) → MapNode → Type 0
HasPort kinds number None m = IsPortRow kinds (number + 1) (port_row kinds number m)
HasPort kinds number (Some parent) m = Unit {0}

-- ---- places

abbrev pub path_in : List MapRow → PlaceRow → List Level
path_in maps p = (slice_index_or maps p.map no_map).path

abbrev pub port_for : List PortRow → PlaceRow → PortRow
port_for ports p = slice_index_or ports p.port no_port

abbrev pub placed_at : PlaceRow → List Level → PortRow → Placed
placed_at row path port = record { row = row; path = path; port = port }

abbrev pub placed_in : List MapRow → List PortRow → PlaceRow → Placed
placed_in maps ports p = record { row = p; path = path_in maps p; port = port_for ports p }

-- a place whose map and item are there
pub record IsPlacedIn (chip : ChipData) (maps : List MapRow) (p : PlaceRow) : Type 0 where
  pub map : p.map < length maps
  pub port : p.port ≡ (slice_index_or maps p.map no_map).port
  pub some : 1 ≤ p.bytes
  pub most : p.bytes ≤ 8
  pub size : 1 ≤ p.size
  pub sizes : p.size ≤ 65536
  pub reg : (r : ℕ) → p.item ≡ item.Reg r → p.size ≡ 1
  pub fifo : p.fifo ≡ has_fifo (path_in maps p)
  pub known : IsPlaceIn chip p

-- and which is no memory on a FIFO path
pub record IsPlaceRow (chip : ChipData) (maps : List MapRow) (ports : List PortRow) (p : PlaceRow) : Type 0 where
  pub placed : IsPlacedIn chip maps p
  pub port_in : p.port < length ports
  pub mem : (m : ℕ) → p.item ≡ item.Mem m → p.fifo ≡ false

-- no address is above the adapter's, and each is aligned
pub record IsSeated (p : Placed) : Type 0 where
  pub low : some_byte p (is_above p) ≡ false
  pub straight : some_byte p (is_unaligned p) ≡ false

-- its words are few enough after so many
pub record HasRoom (maps : List MapRow) (ports : List PortRow) (words : ℕ) (p : PlaceRow) : Type 0 where
  pub room : words + p.size * length (item_words (path_in maps p) (port_for ports p).base (location_of p 0)) ≤ 1048576
  pub seated : IsSeated (placed_in maps ports p)

-- the rows of a place
abbrev pub location_rows_of : List MapRow → List PortRow → ℕ → PlaceRow → ℕ → List WordRow
location_rows_of maps ports number p index =
    map (word_row p number index) (item_words (path_in maps p) (port_for ports p).base (location_of p index))

abbrev pub rows_of : List MapRow → List PortRow → ℕ → PlaceRow → List WordRow
rows_of maps ports number p = flat_map (location_rows_of maps ports number p) (range_with_len 0 p.size)

abbrev pub rows_of_all : List MapRow → List PortRow → List PlaceRow → List WordRow
rows_of_all maps ports places =
    flat_map (λ q. rows_of maps ports q (slice_index_or places q no_place)) (range_with_len 0 (length places))

pub record ArePlaces (chip : ChipData) (maps : List MapRow) (ports : List PortRow) (places : List PlaceRow)
    (rows : List WordRow) : Type 0 where
  pub few : length places ≤ 4096
  pub once : PlacedOnce places
  pub each : All (IsPlaceRow chip maps ports) places
  pub seated : All (λ p. IsSeated (placed_in maps ports p)) places
  pub words_are : rows ≡ rows_of_all maps ports places
  pub few_words : length rows ≤ 1048576

-- each row is one of a place
abbrev pub AreRowsOf : List PlaceRow → List WordRow → Type 0
AreRowsOf places rows = All (λ r. r.place < length places) rows

-- ---- rows that clash

-- two places of which one has a FIFO kind on its path, or that have a right in common
abbrev pub rows_clash : List PlaceRow → WordRow → WordRow → Bool
rows_clash places r s =
    not (r.place == s.place)
    && ((r.reads && s.reads)
    || (r.writes && s.writes)
    || (slice_index_or places r.place no_place).fifo
    || (slice_index_or places s.place no_place).fifo)

-- no two rows of one address clash
abbrev pub NoRowsClash : List PlaceRow → List WordRow → Type 0
NoRowsClash places rows =
    (i k : ℕ) (d : WordRow)
    → i < k → k < length rows
    → key_of (slice_index_or rows i d) ≡ key_of (slice_index_or rows k d)
    → rows_clash places (slice_index_or rows i d) (slice_index_or rows k d) ≡ false
