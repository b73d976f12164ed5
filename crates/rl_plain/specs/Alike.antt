-- Layouts that the plain machine can't tell apart.
use Rattle.std.specs.Prelude.{◌≡◌, ℕ, Bool, Option}
use Rattle.rl_model.specs.declared.rows.Item.{Item}
use Rattle.rl_model.specs.Rows.{ChipData}
use Rattle.rl_map.specs.Layout.{LayoutData, place_at, place_of, port_at}
use Rattle.rl_split.specs.Narrow.{is_narrow}
use Rattle.rl_access.specs.declared.event.Op.{Op}
use Rattle.rl_plain.specs.Machine.{Machine, machine_step}

-- They have the same places of each item, and each place has the same map and rights, a root that is explicit in both
-- or in neither, and the same narrow accesses.
pub record AreAlike (c : ChipData) (k l : LayoutData) : Type 0 where
  pub places : (item : Item) (map : Option ℕ) → place_of k item map ≡ place_of l item map
  pub maps : (place : ℕ) → (place_at k place).map ≡ (place_at l place).map
  pub rights : (place : ℕ) → (place_at k place).rights ≡ (place_at l place).rights
  pub roots : (place : ℕ) → (port_at k (place_at k place).port).explicit ≡ (port_at l (place_at l place).port).explicit
  pub narrow : (field place : ℕ) (write : Bool) → is_narrow c k field place write ≡ is_narrow c l field place write

-- over both, each operation is the same step with the same event, also where it is refused
abbrev pub AlikeLayoutsStepAlike : Type 0
AlikeLayoutsStepAlike =
    (c : ChipData) (k l : LayoutData) (p : Machine) (op : Op)
    → AreAlike c k l → machine_step c k p op ≡ machine_step c l p op
