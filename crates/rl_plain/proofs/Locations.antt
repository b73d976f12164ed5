-- The locations of memories in a device.
use Rattle.std.proofs.Common.{◌≡◌, ℕ, zero, suc, ◌+◌, ◌<◌, false, List, [], ◌∷◌, length, get_or, refl, arith}
use Rattle.std.specs.Prelude.{slice_get, sum_by}
use Rattle.std.specs.Option.{option_map_or}
use Rattle.rl_bus.specs.declared.table.MemRow.{MemRow}
use Rattle.rl_bus.specs.Setup.{no_mem, mem_of, location}
use Rattle.rl_model.specs.declared.rows.MemRow.{MemRow as Mem}
use Rattle.rl_model.specs.Rows.{ChipData}
use Rattle.rl_map.specs.Layout.{LayoutData}
use Rattle.rl_map.specs.Tables.{mem_rows, setup_of}
use Rattle.rl_split.specs.Law.{no_flaws}
use Rattle.rl_access.specs.Operation.{location_size}
use Rattle.rl_access.specs.Rules.{memory_size, is_writable}
use Rattle.rl_access.proofs.MemoryRows.{location_within as within_all, apart as apart_there}

-- ---- the rows of the memories

abbrev row_in : ℕ → List Mem → ℕ → MemRow
row_in n ms k = get_or (mem_rows n ms) k no_mem

-- a row says of its memory what the chip does
record IsRowOf (row : MemRow) (ms : List Mem) (k : ℕ) : Type 0 where
  bytes : row.bytes ≡ option_map_or (λ m. m.bytes) (slice_get ms k) 0
  size : row.size ≡ option_map_or (λ m. m.size) (slice_get ms k) 0
  writable : row.writable ≡ option_map_or (λ m. m.writable) (slice_get ms k) false

row_is : (n : ℕ) (ms : List Mem) (k : ℕ) → k < length ms → IsRowOf (row_in n ms k) ms k
row_is n [] k l = absurd (omega (arith, l))
row_is n (m ∷ ms) zero l = record { bytes = refl; size = refl; writable = refl }
row_is n (m ∷ ms) (suc k) l = let rest = row_is (n + m.size) ms k (omega (arith, l)) in record { bytes = rest.bytes; size = rest.size; writable = rest.writable }

-- ---- in a device

-- the row of a memory in the device
pub record IsMemoryRow (c : ChipData) (l : LayoutData) (mem : ℕ) : Type 0 where
  pub bytes : (mem_of (setup_of c l no_flaws) mem).bytes ≡ location_size c mem
  pub writable : (mem_of (setup_of c l no_flaws) mem).writable ≡ is_writable c mem

pub memory_row : (c : ChipData) (l : LayoutData) (mem : ℕ) → mem < length c.mems → IsMemoryRow c l mem
unfolding setup_of
memory_row c l mem inside = let row = row_is 0 c.mems mem inside in record { bytes = row.bytes; writable = row.writable }

-- a location stands within all of them
pub location_within : (c : ChipData) (l : LayoutData) (mem index : ℕ) → mem < length c.mems → index < memory_size c mem → location (setup_of c l no_flaws) mem index < sum_by (λ m. m.size) c.mems
location_within c l mem index inside low = within_all c l no_flaws mem index inside low

-- two locations stand apart
pub apart : (c : ChipData) (l : LayoutData) (mem index m i : ℕ) → mem < length c.mems → index < memory_size c mem → m < length c.mems → i < memory_size c m →
    location (setup_of c l no_flaws) m i ≡ location (setup_of c l no_flaws) mem index → (m ≡ mem) × (i ≡ index)
apart c l mem index m i inside low within below same = apart_there c l no_flaws mem index m i inside low within below same
