-- A layout as data, and what it answers.
use Rattle.std.specs.Prelude.{◌≡◌, ℕ, ◌+◌, ◌*◌, ◌/◌, ◌^◌, ◌<◌, ◌≤◌, ◌==◌, nat_lt, Bool, true, false, ◌&&◌, if◌then◌else◌, List, [], ◌∷◌}
use Rattle.std.specs.Prelude.{length, map, All, slice_index_or, slice_get, Option, Some, None, filter, position, bytes_eq, codes}
use Rattle.rl_policy.specs.Bits.{bit}
use Rattle.rl_model.specs.declared.rows.Item.{Item}
use Rattle.rl_model.specs.declared.rows.Item.TheVariants as item
use Rattle.rl_model.specs.declared.sets.Rights.{Rights}
use Rattle.rl_bus.specs.declared.op.AdapterKind.{AdapterKind}
use Rattle.rl_bus.specs.declared.table.Cell.{Cell}
use Rattle.rl_bus.specs.declared.table.Cell.TheVariants as cell
use Rattle.rl_bus.specs.declared.table.WordRow.{WordRow}
use Rattle.rl_bus.specs.Lanes.{IsWidth}
use Rattle.rl_bus.specs.Setup.{stands_for}
use Rattle.rl_map.specs.declared.path.Level.{Level}
use Rattle.rl_map.specs.declared.seat.Location.{Location}
use Rattle.rl_map.specs.declared.seat.Seat.{Seat}
use Rattle.rl_map.specs.declared.word.Word.{Word}
use Rattle.rl_map.specs.declared.rows.MapRow.{MapRow}
use Rattle.rl_map.specs.declared.rows.PortRow.{PortRow}
use Rattle.rl_map.specs.declared.rows.PlaceRow.{PlaceRow}
use Rattle.rl_map.specs.declared.rows.Here.{Here}
use Rattle.rl_map.specs.Level.{IsPath, has_fifo, root_bytes}
use Rattle.rl_map.specs.Seat.{seat_of, AddressesFit}
use Rattle.rl_map.specs.Words.{seats_of, item_words, words_with, lanes_of, no_word}
use Rattle.rl_map.specs.Partition.{have_bit, AreParts, IsPartition, IsWordOn}

-- Maps (uvm_reg_map, IEEE 1800.2-2017, 18.2), places and ports in description order, the adapter kinds that the layout
-- was built with, and the words of all locations of all places by port and address. Those of one address stand by
-- place, location and order.
pub record LayoutData : Type 0 where
  pub maps : List MapRow
  pub places : List PlaceRow
  pub ports : List PortRow
  pub kinds : List AdapterKind
  pub rows : List WordRow

-- ---- what stands past the end of a list

abbrev pub no_map : MapRow
no_map = record { name = []; path = []; port = 0 }

abbrev pub no_kind : AdapterKind
no_kind = record {
  name = codes "-";
  most_bytes = 0;
  most_address = 0;
  aligned = false;
  write_lanes = false;
  read_lanes = false;
}

abbrev pub no_port : PortRow
no_port = record { map = 0; base = 0; bytes = 0; adapter = 0; kind = no_kind; explicit = false }

abbrev pub no_place : PlaceRow
no_place = record {
  map = 0;
  item = item.Reg 0;
  offset = 0;
  rights = record { bits = 0 };
  bytes = 0;
  size = 0;
  port = 0;
  fifo = false;
}

abbrev pub map_at : LayoutData → ℕ → MapRow
map_at l m = slice_index_or l.maps m no_map

abbrev pub port_at : LayoutData → ℕ → PortRow
port_at l p = slice_index_or l.ports p no_port

abbrev pub place_at : LayoutData → ℕ → PlaceRow
place_at l p = slice_index_or l.places p no_place

-- ---- seats and words

-- The rights of a place (uvm_reg_map::add_reg and add_mem, IEEE 1800.2-2017, 18.2): to read is bit 0, to write bit 1.
abbrev pub has_right : Rights → Bool → Bool
has_right rights write = bit rights.bits (if write then 1 else 0)

abbrev pub location_of : PlaceRow → ℕ → Location
location_of p index = record { bytes = p.bytes; offset = p.offset; index = index }

-- the maps from the place's own up to the root, and where the root begins
abbrev pub path_of : LayoutData → ℕ → List Level
path_of l place = (map_at l (place_at l place).map).path

abbrev pub base_of : LayoutData → ℕ → ℕ
base_of l place = (port_at l (place_at l place).port).base

abbrev pub seat_at : LayoutData → (place index byte : ℕ) → Seat
seat_at l place index byte = seat_of (path_of l place) (base_of l place) (location_of (place_at l place) index) byte

abbrev pub place_seats : LayoutData → (place index : ℕ) → List Seat
place_seats l place index = seats_of (path_of l place) (base_of l place) (location_of (place_at l place) index)

-- the words of a location of a place, by ascending order
unfoldable pub words_of : LayoutData → (place index : ℕ) → List Word
words_of l place index = item_words (path_of l place) (base_of l place) (location_of (place_at l place) index)

-- ---- rows

abbrev pub cell_of : Item → ℕ → Cell
cell_of (item.Reg r) index = cell.Reg r
cell_of (item.Mem m) index = cell.Loc m index

-- the location of a cell, which for a register is 0
abbrev pub index_of : Cell → ℕ
index_of (cell.Reg r) = 0
index_of (cell.Loc m index) = index

-- the row of a word of a location of place number `number`
abbrev pub word_row : PlaceRow → (number index : ℕ) → Word → WordRow
word_row p number index w = record {
  port = p.port;
  address = w.address;
  reads = has_right p.rights false;
  writes = has_right p.rights true;
  cell = cell_of p.item index;
  place = number;
  lanes = lanes_of w;
}

abbrev pub row_of : LayoutData → (place index : ℕ) → Word → WordRow
row_of l place index w = word_row (place_at l place) place index w

-- a row has the right of a direction
abbrev pub lets_through : Bool → WordRow → Bool
lets_through write r = if write then r.writes else r.reads

-- the rows at an address of a port that have the right of a direction
abbrev pub standing : LayoutData → (port address : ℕ) → (write : Bool) → List WordRow
standing l port address write = filter (stands_for port address write) l.rows

-- ---- look-ups

abbrev pub same_item : Item → Item → Bool
same_item (item.Reg a) (item.Reg b) = a == b
same_item (item.Mem a) (item.Mem b) = a == b
same_item (item.Reg a) (item.Mem b) = false
same_item (item.Mem a) (item.Reg b) = false

abbrev pub is_in : Option ℕ → ℕ → Bool
is_in None map = true
is_in (Some wanted) map = map == wanted

-- the first place of the item, or its place in the given map
abbrev pub place_of : LayoutData → Item → Option ℕ → Option ℕ
place_of l item map = position (λ p. same_item p.item item && is_in map p.map) l.places

abbrev pub map_named : LayoutData → List ℕ → Option ℕ
map_named l name = position (λ m. bytes_eq m.name name) l.maps

-- the place and the location whose words stand at an address, and how many there are
abbrev pub here_of : List WordRow → Option Here
here_of [] = None
here_of (r ∷ rs) = Some (record { place = r.place; index = index_of r.cell; count = length (r ∷ rs) })

abbrev pub found : LayoutData → (port address : ℕ) → (write : Bool) → Option Here
found l port address write = here_of (standing l port address write)

-- the words that stand there, by ascending order
abbrev pub words_here : LayoutData → ℕ → List WordRow → List Word
words_here l address [] = []
words_here l address (r ∷ rs) = words_with address (words_of l r.place (index_of r.cell))

abbrev pub words_found : LayoutData → (port address : ℕ) → (write : Bool) → List Word
words_found l port address write = words_here l address (standing l port address write)

-- ---- what holds of every layout

pub record IsLocation (l : LayoutData) (place index : ℕ) : Type 0 where
  pub place_in : place < length l.places
  pub index_in : index < (place_at l place).size

pub record IsMapOf (l : LayoutData) (m : MapRow) : Type 0 where
  pub path : IsPath m.path
  pub port : m.port < length l.ports
  pub root : root_bytes m.path ≡ (port_at l m.port).bytes

pub record IsPortOf (l : LayoutData) (p : PortRow) : Type 0 where
  pub map : p.map < length l.maps
  pub width : IsWidth p.bytes
  pub wide : p.bytes ≤ p.kind.most_bytes
  pub adapter : slice_get l.kinds p.adapter ≡ Some p.kind
  pub adapter_in : p.adapter < length l.kinds

pub record IsPlaceOf (l : LayoutData) (p : PlaceRow) : Type 0 where
  pub map : p.map < length l.maps
  pub port : p.port ≡ (map_at l p.map).port
  pub port_in : p.port < length l.ports
  pub some : 1 ≤ p.bytes
  pub most : p.bytes ≤ 8
  pub size : 1 ≤ p.size
  pub sizes : p.size ≤ 65536
  pub reg : (r : ℕ) → p.item ≡ item.Reg r → p.size ≡ 1
  pub fifo : p.fifo ≡ has_fifo (map_at l p.map).path
  pub mem : (m : ℕ) → p.item ≡ item.Mem m → p.fifo ≡ false

-- the words of a location
pub record HasWords (l : LayoutData) (place index : ℕ) : Type 0 where
  pub some : 0 < length (words_of l place index)
  pub few : length (words_of l place index) ≤ 8
  pub fits : AddressesFit (path_of l place) (base_of l place) (location_of (place_at l place) index)
  -- each of them is one that the port's adapter carries
  pub on :
      All (IsWordOn (port_at l (place_at l place).port).kind (port_at l (place_at l place).port).bytes)
      (words_of l place index)
  -- each byte of the location stands in one of them, at the lane that its seat says, and nothing else does
  pub partition : IsPartition (place_seats l place index) (words_of l place index)
  pub parts : AreParts (words_of l place index)
  pub reach : (b : ℕ) → have_bit (words_of l place index) b ≡ nat_lt (b / 8) (place_at l place).bytes
  -- those that stand at the address of one of them, and have the right of a direction, are this location's, by order
  pub found : (write : Bool) (k : ℕ)
      → k < length (words_of l place index)
      → has_right (place_at l place).rights write ≡ true
      → let address = (slice_index_or (words_of l place index) k no_word).address in
      standing l (place_at l place).port address write
      ≡ map (row_of l place index) (words_with address (words_of l place index))
  -- outside FIFO paths an address has one of them
  pub alone : (place_at l place).fifo ≡ false
      → (i k : ℕ) → i < length (words_of l place index) → k < length (words_of l place index)
      → (slice_index_or (words_of l place index) i no_word).address
      ≡ (slice_index_or (words_of l place index) k no_word).address
      → i ≡ k

-- a row is that of a word of a location
pub record IsRowOf (l : LayoutData) (r : WordRow) : Type 0 where
  pub location : IsLocation l r.place (index_of r.cell)
  pub low : r.address < 2 ^ 64
  pub number : ℕ
  pub number_in : number < length (words_of l r.place (index_of r.cell))
  pub row :
      r ≡ row_of l r.place (index_of r.cell) (slice_index_or (words_of l r.place (index_of r.cell)) number no_word)

-- a word of a location stands at an address of a port
pub record Occupies (l : LayoutData) (port address place index : ℕ) : Type 0 where
  pub location : IsLocation l place index
  pub port_is : (place_at l place).port ≡ port
  pub number : ℕ
  pub number_in : number < length (words_of l place index)
  pub address_is : (slice_index_or (words_of l place index) number no_word).address ≡ address

-- an item has one place in a map at most
abbrev pub PlacedOnce : List PlaceRow → Type 0
PlacedOnce places = (p q : ℕ) → p < length places → q < length places
    → (slice_index_or places p no_place).item ≡ (slice_index_or places q no_place).item
    → (slice_index_or places p no_place).map ≡ (slice_index_or places q no_place).map → p ≡ q

-- by port, and then by address
abbrev pub key_of : WordRow → ℕ
key_of r = r.port * 2 ^ 64 + r.address

abbrev pub IsAscending : List WordRow → Type 0
IsAscending rows =
    (i j : ℕ) (d : WordRow)
    → i ≤ j → j < length rows
    → key_of (slice_index_or rows i d) ≤ key_of (slice_index_or rows j d)

pub record IsSound (l : LayoutData) : Type 0 where
  pub maps : length l.maps ≤ 64
  pub ports : length l.ports ≤ 64
  pub places : length l.places ≤ 4096
  pub kinds : length l.kinds < 2 ^ 32
  pub rows : length l.rows ≤ 1048576
  pub each_map : (m : ℕ) → m < length l.maps → IsMapOf l (map_at l m)
  pub each_port : (p : ℕ) → p < length l.ports → IsPortOf l (port_at l p)
  pub each_place : (p : ℕ) → p < length l.places → IsPlaceOf l (place_at l p)
  pub once : PlacedOnce l.places
  pub ascending : IsAscending l.rows
  pub each_row : All (IsRowOf l) l.rows
  pub each_location : (place index : ℕ) → IsLocation l place index → HasWords l place index
  -- where words of both directions stand at an address, there are as many of each
  pub even : (port address : ℕ) (one other : Bool)
      → 0 < length (standing l port address one)
      → 0 < length (standing l port address other)
      → length (standing l port address one) ≡ length (standing l port address other)
  -- An address on a FIFO path belongs to one place in both directions: where a word of such a place stands,
  -- each word there, of either direction and whatever its rights, is of the same location of the same place.
  pub owner : (port address p i q j : ℕ)
      → Occupies l port address p i → Occupies l port address q j
      → (place_at l p).fifo ≡ true
      → (p ≡ q) × (i ≡ j)

-- what was found is there
pub record IsHere (l : LayoutData) (port address : ℕ) (write : Bool) (h : Here) : Type 0 where
  pub location : IsLocation l h.place h.index
  pub port_is : (place_at l h.place).port ≡ port
  pub right : has_right (place_at l h.place).rights write ≡ true
  pub some : 0 < h.count
  pub few : h.count ≤ 8
  pub count : length (standing l port address write) ≡ h.count
  pub words : h.count ≡ length (words_with address (words_of l h.place h.index))
