-- The first condition that fails for maps and places.
use Rattle.std.specs.Prelude.{◌≡◌, ◌≢◌, ℕ, ◌+◌, ◌*◌, ◌%◌, ◌==◌, min, nat_lt, nat_le, ◌&&◌, ◌||◌, Bool, true, false, not, List, [], ◌∷◌, ◌++◌, length}
use Rattle.std.specs.Prelude.{map, filter, fold, flat_map, slice_index_or, Option, Some, None, is_some, is_none, option_map, unwrap_or, Result, Ok, Err, position}
use Rattle.std.specs.List.{list_any, range_with_len}
use Rattle.rl_model.specs.declared.fault.Array.{Array}
use Rattle.rl_model.specs.declared.fault.Array.TheVariants as array
use Rattle.rl_model.specs.declared.fault.Spot.{Spot}
use Rattle.rl_model.specs.declared.rows.Item.{Item}
use Rattle.rl_model.specs.declared.rows.Item.TheVariants as item
use Rattle.rl_model.specs.Rows.{ChipData}
use Rattle.rl_model.specs.Rules.{is_name, or_else, first_failing, row_of}
use Rattle.rl_bus.specs.declared.op.AdapterKind.{AdapterKind}
use Rattle.rl_map.specs.declared.fault.MapCause.{MapCause}
use Rattle.rl_map.specs.declared.fault.MapCause.TheVariants.{TooMany, BadName, DuplicateName, NoSuchMap, TooDeep, BadBytes, NoSuchAdapter, NoSuchItem}
use Rattle.rl_map.specs.declared.fault.MapCause.TheVariants.{PlacedTwice, MemInFifo, AddressOverflow, Unaligned, SharedAddress}
use Rattle.rl_map.specs.declared.fault.MapFault.{MapFault}
use Rattle.rl_map.specs.declared.fault.MapFault.TheVariants.{Bad, Memory}
use Rattle.rl_map.specs.declared.path.Level.{Level}
use Rattle.rl_map.specs.declared.seat.Access.{Access}
use Rattle.rl_map.specs.declared.parts.MapNode.{MapNode}
use Rattle.rl_map.specs.declared.parts.PlacePart.{PlacePart}
use Rattle.rl_map.specs.declared.rows.MapRow.{MapRow}
use Rattle.rl_map.specs.declared.rows.PortRow.{PortRow}
use Rattle.rl_map.specs.declared.rows.PlaceRow.{PlaceRow}
use Rattle.rl_map.specs.Access.{through}
use Rattle.rl_map.specs.Seat.{access_of, seat_of}
use Rattle.rl_map.specs.Words.{item_words}
use Rattle.rl_map.specs.Layout.{no_map, no_port, location_of, same_item, has_right}
use Rattle.rl_map.specs.Maps.{MapTables, no_tables, with_map, tables_of, path_under, level_of, kind_number, kind_with, map_number, item_at, place_row}

-- ---- the order of refusals

-- whether a condition fails, and as what
abbrev pub Check : Type 0
Check = Bool × MapCause

-- the first that fails at a spot
abbrev pub first_of : Spot → List Check → Option MapFault
first_of spot cs = first_failing (λ cause. Bad cause spot) cs

abbrev pub row_at : Array → ℕ → Spot
row_at a row = row_of a row

-- ---- maps

abbrev pub is_width : ℕ → Bool
is_width bytes = bytes == 1 || bytes == 2 || bytes == 4 || bytes == 8

-- the parent is an earlier map, or there is none
abbrev pub has_parent : List MapRow → Option (List ℕ) → Bool
has_parent earlier None = true
has_parent earlier (Some parent) = is_some (map_number earlier parent)

abbrev pub map_checks : List AdapterKind → List MapRow → MapNode → List Check
map_checks kinds earlier m =
    (nat_le 64 (length earlier), TooMany)
    ∷ (not (is_name m.name), BadName)
    ∷ (is_some (map_number earlier m.name), DuplicateName)
    ∷ (not (has_parent earlier m.parent), NoSuchMap)
    ∷ (nat_lt 4 (length (path_under earlier m.parent (level_of m))), TooDeep)
    ∷ (not (is_width m.bytes), BadBytes)
    ∷ (is_none m.parent && is_none (kind_number kinds m.adapter), NoSuchAdapter)
    ∷ (is_none m.parent && nat_lt (kind_with kinds (kind_number kinds m.adapter)).most_bytes m.bytes, BadBytes) ∷ []

-- the maps after those that are in the tables
abbrev pub maps_fault : List AdapterKind → MapTables → List MapNode → Option MapFault
maps_fault kinds t [] = None
maps_fault kinds t (m ∷ ms) =
    or_else (first_of (row_at array.Map (length t.maps)) (map_checks kinds t.maps m))
    (maps_fault kinds (with_map kinds t m) ms)

-- ---- places

-- a place with the path and the port of its map
pub record Placed : Type 0 where
  pub row : PlaceRow
  pub path : List Level
  pub port : PortRow

abbrev pub placed_by : MapTables → PlaceRow → Placed
placed_by t row = record {
  row = row;
  path = (slice_index_or t.maps row.map no_map).path;
  port = slice_index_or t.ports row.port no_port;
}

abbrev pub placed : ChipData → MapTables → PlacePart → Placed
placed chip t p = placed_by t (place_row chip t.maps p)

abbrev pub is_mem : Item → Bool
is_mem (item.Reg n) = false
is_mem (item.Mem n) = true

-- the words of all locations of a place; each has as many as the first
abbrev pub word_count : Placed → ℕ
word_count p = p.row.size * length (item_words p.path p.port.base (location_of p.row 0))

-- the same map and item
abbrev pub is_same_place : PlaceRow → PlaceRow → Bool
is_same_place p q = p.map == q.map && same_item p.item q.item

abbrev pub is_placed : List PlaceRow → PlaceRow → Bool
is_placed places p = list_any (λ q. is_same_place q p) places

-- some byte of some location
abbrev pub some_byte : Placed → ((index byte : ℕ) → Bool) → Bool
some_byte p test =
    list_any (λ index. list_any (test index) (range_with_len 0 p.row.bytes)) (range_with_len 0 p.row.size)

abbrev pub address_in : Placed → (index byte : ℕ) → ℕ
address_in p index byte = (seat_of p.path p.port.base (location_of p.row index) byte).address

abbrev pub is_above : Placed → (index byte : ℕ) → Bool
is_above p index byte = nat_lt p.port.kind.most_address (address_in p index byte)

-- somewhere on the way a byte-addressed map stands in a word-addressed one off a multiple of its width
abbrev pub is_askew : Access → List Level → Bool
is_askew access [] = false
is_askew access (level ∷ up) =
    (not access.word && (level.word && not (access.address % access.bytes == 0))) || is_askew (through access level) up

abbrev pub is_unaligned : Placed → (index byte : ℕ) → Bool
is_unaligned p index byte =
    (p.port.kind.aligned && not (address_in p index byte % p.port.bytes == 0))
    || is_askew (access_of (location_of p.row index) byte) p.path

-- ---- shared addresses

-- a byte of the place stands at the address
abbrev pub stands_on : ℕ → Placed → Bool
stands_on address p = some_byte p (λ index byte. address_in p index byte == address)

-- two places of one port that may not share an address: they have a right in common, or one has a FIFO kind on its path
abbrev pub share_right : PlaceRow → PlaceRow → Bool
share_right p q =
    (has_right p.rights false && has_right q.rights false) || (has_right p.rights true && has_right q.rights true)

abbrev pub clash : Placed → Placed → Bool
clash p q = p.row.port == q.row.port && (share_right p.row q.row || p.row.fifo || q.row.fifo)

-- the first earlier place that clashes at the address
abbrev pub sharer : List Placed → Placed → ℕ → Option ℕ
sharer earlier p address = position (λ q. clash q p && stands_on address q) earlier

-- the addresses of a place's bytes, location by location
abbrev pub addresses_of : Placed → List ℕ
addresses_of p =
    flat_map (λ index. map (address_in p index) (range_with_len 0 p.row.bytes)) (range_with_len 0 p.row.size)

abbrev pub least : List ℕ → Option ℕ
least [] = None
least (a ∷ more) = Some (fold min a more)

-- the least address that is shared, and the first earlier place that shares it
abbrev pub shared : List Placed → Placed → Option MapCause
shared earlier p =
    option_map (λ address. SharedAddress address (unwrap_or (sharer earlier p address) 0))
    (least (filter (λ address. is_some (sharer earlier p address)) (addresses_of p)))

-- ---- all conditions of a place

abbrev pub place_checks : ChipData → MapTables → List PlaceRow → ℕ → PlacePart → Placed → List Check
place_checks chip t earlier words part p =
    (nat_le 4096 (length earlier), TooMany)
    ∷ (is_none (map_number t.maps part.map), NoSuchMap)
    ∷ (is_none (item_at chip part.item), NoSuchItem)
    ∷ (is_placed earlier p.row, PlacedTwice)
    ∷ (is_mem p.row.item && p.row.fifo, MemInFifo)
    ∷ (nat_lt 1048576 (words + word_count p), TooMany)
    ∷ (some_byte p (is_above p), AddressOverflow)
    ∷ (some_byte p (is_unaligned p), Unaligned)
    ∷ (is_some (shared (map (placed_by t) earlier) p), unwrap_or (shared (map (placed_by t) earlier) p) TooMany) ∷ []

-- the places after those that are earlier, which have so many words
abbrev pub places_fault : ChipData → MapTables → List PlaceRow → ℕ → List PlacePart → Option MapFault
places_fault chip t earlier words [] = None
places_fault chip t earlier words (part ∷ parts) =
    let p = placed chip t part in
    or_else (first_of (row_at array.Place (length earlier)) (place_checks chip t earlier words part p))
    (places_fault chip t (earlier ++ p.row ∷ []) (words + word_count p) parts)

-- The first condition that fails. The conditions and their order are this project's own.
unfoldable pub layout_fault : ChipData → List MapNode → List PlacePart → List AdapterKind → Option MapFault
layout_fault chip maps places kinds =
    or_else (maps_fault kinds no_tables maps) (places_fault chip (tables_of kinds maps) [] 0 places)

-- ---- what a step answers

-- e is the first fault, unless memory ran out
abbrev pub Fails : MapFault → Option MapFault → Type 0
Fails e fault = e ≢ Memory → fault ≡ Some e

-- There is no fault, and P of what was made. Or the fault was met.
abbrev pub Passes : {X : Type 0} → Result X MapFault → Option MapFault → (X → Type 0) → Type 0
Passes (Ok x) fault P = (fault ≡ None) × P x
Passes (Err e) fault P = Fails e fault
