-- The first clash of rows: by the later place, then by the address, then by the earlier place.
use Rattle.std.specs.Prelude.{◌≡◌, ℕ, ◌<◌, ◌≤◌, ◌==◌, nat_lt, Bool, true, ◌&&◌, ◌||◌, if◌then◌else◌, List, length, Option, Some, None, option_map, slice_index_or}
use Rattle.rl_bus.specs.declared.table.WordRow.{WordRow}
use Rattle.rl_model.specs.declared.fault.Array.TheVariants as array
use Rattle.rl_model.specs.Rules.{or_else}
use Rattle.rl_map.specs.declared.fault.MapCause.TheVariants.{SharedAddress}
use Rattle.rl_map.specs.declared.fault.MapFault.{MapFault}
use Rattle.rl_map.specs.declared.fault.MapFault.TheVariants.{Bad}
use Rattle.rl_map.specs.declared.rows.PlaceRow.{PlaceRow}
use Rattle.rl_map.specs.declared.shared.Shared.{Shared}
use Rattle.rl_map.specs.Layout.{key_of}
use Rattle.rl_map.specs.Faults.{row_at}
use Rattle.rl_map.specs.Building.{rows_clash}

-- the clash of two rows of one address
abbrev pub shared_by : WordRow → WordRow → Shared
shared_by a b =
    if nat_lt a.place b.place
    then record { place = b.place; address = b.address; other = a.place }
    else record { place = a.place; address = b.address; other = b.place }

abbrev pub is_before : Shared → Shared → Bool
is_before a b =
    nat_lt a.place b.place
    || (a.place == b.place && (nat_lt a.address b.address || (a.address == b.address && nat_lt a.other b.other)))

abbrev pub earlier : Option Shared → Shared → Shared
earlier None found = found
earlier (Some best) found = if is_before found best then found else best

abbrev pub with_pair : List PlaceRow → WordRow → Option Shared → WordRow → Option Shared
with_pair places row best other =
    if rows_clash places other row then Some (earlier best (shared_by other row)) else best

-- one clash doesn't come after another
pub record IsFirst (a b : Shared) : Type 0 where
  pub place : a.place ≤ b.place
  pub address : a.place ≡ b.place → a.address ≤ b.address
  pub other : a.place ≡ b.place → a.address ≡ b.address → a.other ≤ b.other

abbrev pub NotAfter : Option Shared → Shared → Type 0
NotAfter None s = ⊥
NotAfter (Some best) s = IsFirst best s

-- it is the clash of two rows
pub record IsMade (places : List PlaceRow) (rows : List WordRow) (s : Shared) : Type 0 where
  pub first : ℕ
  pub second : ℕ
  pub less : first < second
  pub second_in : second < length rows
  pub key : (d : WordRow) → key_of (slice_index_or rows first d) ≡ key_of (slice_index_or rows second d)
  pub clash : (d : WordRow) → rows_clash places (slice_index_or rows first d) (slice_index_or rows second d) ≡ true
  pub is : (d : WordRow) → s ≡ shared_by (slice_index_or rows first d) (slice_index_or rows second d)

-- no clash of two rows comes before it
abbrev pub IsLeast : List PlaceRow → List WordRow → Option Shared → Type 0
IsLeast places rows best =
    (i k : ℕ) (d : WordRow)
    → i < k → k < length rows
    → key_of (slice_index_or rows i d) ≡ key_of (slice_index_or rows k d)
    → rows_clash places (slice_index_or rows i d) (slice_index_or rows k d) ≡ true
    → NotAfter best (shared_by (slice_index_or rows i d) (slice_index_or rows k d))

-- ---- the refusal

abbrev pub clash_fault : Shared → MapFault
clash_fault s = Bad (SharedAddress s.address s.other) (row_at array.Place s.place)

-- a clash among the places before the one that is refused otherwise comes first
abbrev pub first_fault : Option Shared → Option MapFault → Option MapFault
first_fault best refused = or_else (option_map clash_fault best) refused
