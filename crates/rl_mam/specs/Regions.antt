-- The regions of a memory: which locations they take, and why a region is refused.
use Rattle.std.specs.Prelude.{◌≡◌, ℕ, ◌+◌, ◌<◌, ◌≤◌, ◌==◌, nat_lt, nat_le, not, if◌then◌else◌, List, [], ◌∷◌, Option, None, Some, Result, Ok, Err, find, filter, insert, All, Any}
use Rattle.std.specs.List.{position_or_len}
use Rattle.rl_mam.specs.declared.region.Region.{Region}
use Rattle.rl_mam.specs.declared.region.MamFault.{MamFault}
use Rattle.rl_mam.specs.declared.region.MamFault.TheVariants.{Empty, OutOfRange, Overlap, NoRoom, Memory}
use Rattle.rl_mam.specs.declared.region.RegionFault.{RegionFault}
use Rattle.rl_mam.specs.declared.region.RegionFault.TheVariants.{NoSuchRegion, OutsideRegion}

-- Consecutive locations of a memory (uvm_mem_region, IEEE 1800.2-2017, 18.12).
abbrev pub region : (first len : ℕ) → Region
region first len = record { first = first; len = len }

-- Regions from a location on, in ascending order: each begins where the one before it has ended or later,
-- none is empty, and all end within the memory.
abbrev pub AreApart : (from size : ℕ) → List Region → Type 0
AreApart from size [] = Unit {0}
AreApart from size (r ∷ rs) =
    (from ≤ r.first) × (0 < r.len) × (r.first + r.len ≤ size) × AreApart (r.first + r.len) size rs

-- ---- locations

abbrev pub IsIn : Region → ℕ → Type 0
IsIn r x = (r.first ≤ x) × (x < r.first + r.len)

-- a location is taken where it is one of a region
abbrev pub IsTaken : List Region → ℕ → Type 0
IsTaken regions x = Any (λ r. IsIn r x) regions

-- a free run: locations of the memory of which none is taken
pub record IsFree (size : ℕ) (regions : List Region) (first len : ℕ) : Type 0 where
  pub inside : first + len ≤ size
  pub free : (x : ℕ) → first ≤ x → x < first + len → ¬ IsTaken regions x

-- The place of a request (uvm_mem_mam::request_region, IEEE 1800.2-2017, 18.12). That it is the lowest one where it
-- fits is this project's own.
pub record IsLowestFree (size : ℕ) (regions : List Region) (len first : ℕ) : Type 0 where
  pub fits : IsFree size regions first len
  pub lowest : (f : ℕ) → IsFree size regions f len → first ≤ f

-- the longest free run has so many locations
pub record IsLongestFree (size : ℕ) (regions : List Region) (longest : ℕ) : Type 0 where
  pub first : ℕ
  pub run : IsFree size regions first longest
  pub most : (f len : ℕ) → IsFree size regions f len → len ≤ longest

-- ---- the regions after a call

-- how many regions stand before one that begins there
abbrev pub place_of : List Region → ℕ → ℕ
place_of regions first = position_or_len (λ r. nat_lt first r.first) regions

abbrev pub added : Region → List Region → List Region
added r regions = insert regions (place_of regions r.first) r

-- the region that begins there
abbrev pub region_at : List Region → ℕ → Option Region
region_at regions first = find (λ r. r.first == first) regions

abbrev pub without : List Region → ℕ → List Region
without regions first = filter (λ r. not (r.first == first)) regions

-- ---- refusals

-- these locations and the region have one in common
abbrev pub Meets : (first len : ℕ) → Region → Type 0
Meets first len r = (r.first < first + len) × (first < r.first + r.len)

-- where the first region begins that these locations meet
pub record IsFirstMet (regions : List Region) (first len at : ℕ) : Type 0 where
  pub met : Any (λ r. (r.first ≡ at) × Meets first len r) regions
  pub least : All (λ r. Meets first len r → at ≤ r.first) regions

-- Why `reserve` refuses: no two of these hold, and want of memory comes last. The causes are this project's own.
abbrev pub ReserveCause : (size : ℕ) → List Region → (first len : ℕ) → MamFault → Type 0
ReserveCause size regions first len Empty = len ≡ 0
ReserveCause size regions first len OutOfRange = (0 < len) × (size < first + len)
ReserveCause size regions first len (Overlap at) = (0 < len) × (first + len ≤ size) × IsFirstMet regions first len at
ReserveCause size regions first len (NoRoom longest) = ⊥
ReserveCause size regions first len Memory = (0 < len) × IsFree size regions first len

-- why `request` refuses: likewise
abbrev pub RequestCause : (size : ℕ) → List Region → (len : ℕ) → MamFault → Type 0
RequestCause size regions len Empty = len ≡ 0
RequestCause size regions len OutOfRange = ⊥
RequestCause size regions len (Overlap at) = ⊥
RequestCause size regions len (NoRoom longest) = (longest < len) × IsLongestFree size regions longest
RequestCause size regions len Memory = (0 < len) × ((first : ℕ) × IsLowestFree size regions len first)

-- ---- accesses

-- Where `count` locations from location k of a region on begin, if it has them (uvm_mem_region, IEEE 1800.2-2017,
-- 18.12).
abbrev pub location_of : Region → (k count : ℕ) → Result ℕ RegionFault
location_of r k count = if nat_le (k + count) r.len then Ok (r.first + k) else Err (OutsideRegion r.len)

abbrev pub location_at : Option Region → (k count : ℕ) → Result ℕ RegionFault
location_at None k count = Err NoSuchRegion
location_at (Some r) k count = location_of r k count

-- where they begin in the region that begins at `first`, if there is such a one and it has them
abbrev pub location_in : List Region → (first k count : ℕ) → Result ℕ RegionFault
location_in regions first k count = location_at (region_at regions first) k count
