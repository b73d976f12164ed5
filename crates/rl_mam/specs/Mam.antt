-- A memory allocation manager as data.
use Rattle.std.specs.Prelude.{◌≤◌, ◌<◌, ◌≡◌, ℕ, List, length}
use Rattle.rl_model.specs.Rows.{ChipData}
use Rattle.rl_access.specs.Rules.{memory_size}
use Rattle.rl_mam.specs.declared.region.Region.{Region}
use Rattle.rl_mam.specs.Regions.{AreApart, added, without}

-- A memory of a chip, how many locations it has, and its regions (uvm_mem_mam, IEEE 1800.2-2017, 18.12).
pub record MamData : Type 0 where
  pub mem : ℕ
  pub size : ℕ
  pub regions : List Region

pub record IsMam (m : MamData) : Type 0 where
  pub small : m.size ≤ 65536
  pub apart : AreApart 0 m.size m.regions

-- the chip has the memory, with the size known to the manager
pub record IsManagerOf (c : ChipData) (m : MamData) : Type 0 where
  pub mem : m.mem < length c.mems
  pub size : memory_size c m.mem ≡ m.size

-- ---- the steps

-- A region is given out (uvm_mem_mam::reserve_region, IEEE 1800.2-2017, 18.12).
abbrev pub adding : MamData → Region → MamData
adding m r = record m { regions = added r m.regions }

-- The region that begins there is taken back (uvm_mem_mam::release_region, IEEE 1800.2-2017, 18.12).
abbrev pub releasing : MamData → ℕ → MamData
releasing m first = record m { regions = without m.regions first }
