-- The conditions of maps and places, step by step.
use Rattle.std.specs.Prelude.{◌≡◌, ℕ, ◌+◌, nat_lt, nat_le, ◌&&◌, not, List, [], ◌∷◌, ◌++◌, length, map, Option, Some, None, is_some, is_none, unwrap_or, Result, Ok, Err, if◌then◌else◌}
use Rattle.rl_model.specs.declared.fault.Array.TheVariants as array
use Rattle.rl_model.specs.Rows.{ChipData}
use Rattle.rl_model.specs.Rules.{is_name, or_else}
use Rattle.rl_bus.specs.declared.op.AdapterKind.{AdapterKind}
use Rattle.rl_map.specs.declared.fault.MapCause.{MapCause}
use Rattle.rl_map.specs.declared.fault.MapCause.TheVariants.{TooMany, BadName, DuplicateName, NoSuchMap, TooDeep, BadBytes, NoSuchAdapter}
use Rattle.rl_map.specs.declared.fault.MapCause.TheVariants.{NoSuchItem, PlacedTwice, MemInFifo, AddressOverflow, Unaligned}
use Rattle.rl_map.specs.declared.fault.MapFault.{MapFault}
use Rattle.rl_map.specs.declared.parts.MapNode.{MapNode}
use Rattle.rl_map.specs.declared.parts.PlacePart.{PlacePart}
use Rattle.rl_map.specs.declared.rows.MapRow.{MapRow}
use Rattle.rl_map.specs.declared.rows.PortRow.{PortRow}
use Rattle.rl_map.specs.declared.rows.PlaceRow.{PlaceRow}
use Rattle.rl_map.specs.Maps.{path_under, level_of, map_number, kind_number, kind_with, item_at, place_row}
use Rattle.rl_map.specs.Faults.{Check, first_of, row_at, has_parent, is_width, Placed, is_mem, word_count, is_placed, some_byte, is_above, is_unaligned, shared}
use Rattle.rl_map.specs.Building.{placed_in}

-- ---- the cause alone

abbrev pub first_cause : List Check → Option MapCause
first_cause [] = None
first_cause (c ∷ cs) = if c.0 then Some c.1 else first_cause cs

-- no condition fails, or the cause is that of the first that does
abbrev pub Tells : {X : Type 0} → Result X MapCause → List Check → Type 0
Tells (Ok x) checks = first_cause checks ≡ None
Tells (Err cause) checks = first_cause checks ≡ Some cause

-- ---- the conditions of a map

abbrev pub name_checks : List MapRow → MapNode → List Check
name_checks earlier m =
    (nat_le 64 (length earlier), TooMany) ∷ (not (is_name m.name), BadName)
    ∷ (is_some (map_number earlier m.name), DuplicateName) ∷ []

abbrev pub under_checks : List MapRow → MapNode → List Check
under_checks earlier m =
    (not (has_parent earlier m.parent), NoSuchMap)
    ∷ (nat_lt 4 (length (path_under earlier m.parent (level_of m))), TooDeep) ∷ []

-- those on the map alone
abbrev pub row_checks : List MapRow → MapNode → List Check
row_checks earlier m = name_checks earlier m ++ under_checks earlier m ++ (not (is_width m.bytes), BadBytes) ∷ []

abbrev pub adapter_checks : List AdapterKind → MapNode → List Check
adapter_checks kinds m =
    (is_none (kind_number kinds m.adapter), NoSuchAdapter)
    ∷ (nat_lt (kind_with kinds (kind_number kinds m.adapter)).most_bytes m.bytes, BadBytes) ∷ []

-- those on the adapter of a root
abbrev pub port_checks : List AdapterKind → MapNode → List Check
port_checks kinds m =
    (is_none m.parent && is_none (kind_number kinds m.adapter), NoSuchAdapter)
    ∷ (is_none m.parent && nat_lt (kind_with kinds (kind_number kinds m.adapter)).most_bytes m.bytes, BadBytes) ∷ []

-- ---- the conditions of a place but the last

abbrev pub there_checks : ChipData → List MapRow → PlacePart → List Check
there_checks chip maps part =
    (is_none (map_number maps part.map), NoSuchMap) ∷ (is_none (item_at chip part.item), NoSuchItem) ∷ []

abbrev pub fifo_checks : PlaceRow → List Check
fifo_checks row = (is_mem row.item && row.fifo, MemInFifo) ∷ []

abbrev pub word_checks : ℕ → Placed → List Check
word_checks words p =
    (nat_lt 1048576 (words + word_count p), TooMany) ∷ (some_byte p (is_above p), AddressOverflow)
    ∷ (some_byte p (is_unaligned p), Unaligned) ∷ []

-- all but those on shared addresses
abbrev pub own_checks : ChipData → List MapRow → List PlaceRow → ℕ → PlacePart → Placed → List Check
own_checks chip maps earlier words part p =
    (nat_le 4096 (length earlier), TooMany)
    ∷ there_checks chip maps part ++ (is_placed earlier p.row, PlacedTwice) ∷ fifo_checks p.row ++ word_checks words p

-- a part as a place
abbrev pub place_of_part : ChipData → List MapRow → List PortRow → PlacePart → Placed
place_of_part chip maps ports part = placed_in maps ports (place_row chip maps part)

abbrev pub own_fault : ChipData → List MapRow → List PortRow → List PlaceRow → ℕ → PlacePart → Option MapFault
own_fault chip maps ports earlier words part =
    first_of (row_at array.Place (length earlier))
    (own_checks chip maps earlier words part (place_of_part chip maps ports part))

-- ---- all places but for shared addresses

-- the first place that is refused for another cause than a shared address
abbrev pub own_faults : ChipData → List MapRow → List PortRow → List PlaceRow → ℕ → List PlacePart → Option MapFault
own_faults chip maps ports earlier words [] = None
own_faults chip maps ports earlier words (part ∷ parts) =
    or_else (own_fault chip maps ports earlier words part)
    (own_faults chip maps ports (earlier ++ place_row chip maps part ∷ [])
    (words + word_count (place_of_part chip maps ports part)) parts)

-- the places before it
abbrev pub accepted : ChipData → List MapRow → List PortRow → List PlaceRow → ℕ → List PlacePart → List PlaceRow
accepted chip maps ports earlier words [] = []
accepted chip maps ports earlier words (part ∷ parts) =
    if is_some (own_fault chip maps ports earlier words part) then []
    else place_row chip maps part
    ∷ accepted chip maps ports (earlier ++ place_row chip maps part ∷ [])
    (words + word_count (place_of_part chip maps ports part)) parts

-- ---- shared addresses alone

abbrev pub shared_check : List Placed → Placed → List Check
shared_check earlier p = (is_some (shared earlier p), unwrap_or (shared earlier p) TooMany) ∷ []

-- of these places after the earlier ones, the first that shares an address with one before it
abbrev pub shared_faults : List MapRow → List PortRow → List PlaceRow → List PlaceRow → Option MapFault
shared_faults maps ports earlier [] = None
shared_faults maps ports earlier (p ∷ ps) =
    or_else
    (first_of (row_at array.Place (length earlier))
    (shared_check (map (placed_in maps ports) earlier) (placed_in maps ports p)))
    (shared_faults maps ports (earlier ++ p ∷ []) ps)
