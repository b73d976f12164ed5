-- What an access through a region leaves in a device.
use Rattle.std.specs.Prelude.{◌≡◌, ℕ, ◌<◌, length, Option, Some}
use Rattle.rl_bus.specs.declared.table.Cell.TheVariants.{Loc}
use Rattle.rl_bus.specs.State.{State, peeked}
use Rattle.rl_model.specs.Rows.{ChipData}
use Rattle.rl_access.specs.Rules.{memory_size}
use Rattle.rl_mam.specs.declared.region.Region.{Region}
use Rattle.rl_mam.specs.Regions.{IsIn}

-- location i of memory m is one of the region of memory mem
abbrev pub IsWithin : (mem : ℕ) → Region → (m i : ℕ) → Type 0
IsWithin mem r m i = (m ≡ mem) × IsIn r i

-- where the device tells its state, each other location of its memories holds what it held
abbrev pub LeavesOutside : ChipData → (mem : ℕ) → Region → (before after : Option State) → Type 0
LeavesOutside c mem r before after = (s t : State) → before ≡ Some s → after ≡ Some t →
    (m i : ℕ) → m < length c.mems → i < memory_size c m → ¬ IsWithin mem r m i → peeked t (Loc m i) ≡ peeked s (Loc m i)
