-- Other masters' accesses to different registers, in any order.
use Rattle.std.specs.Prelude.{◌≡◌, ◌≢◌, ℕ, ◌<◌, length, Some}
use Rattle.rl_model.specs.Chip.{IsSound}
use Rattle.rl_model.specs.Rows.{ChipData}
use Rattle.rl_map.specs.Layout.{LayoutData}
use Rattle.rl_mirror.specs.Mirror.{IsMirrorOf}
use Rattle.rl_access.specs.declared.event.Op.{Op}
use Rattle.rl_access.specs.declared.event.Op.TheVariants as op
use Rattle.rl_access.specs.Operation.{register_of}
use Rattle.rl_plain.specs.Machine.{Machine, machine_step, mirror_of}

-- the accesses of another master
abbrev pub IsOther : Op → Type 0
IsOther (op.OtherWrite reg map value) = Unit {0}
IsOther (op.OtherRead reg map) = Unit {0}
IsOther _ = ⊥

-- either of two operations may come first: they leave the same machine, and the event of each is
-- what it is without the other
pub record Commute (c : ChipData) (l : LayoutData) (p : Machine) (one two : Op) : Type 0 where
  pub machine : (machine_step c l (machine_step c l p one).machine two).machine
      ≡ (machine_step c l (machine_step c l p two).machine one).machine
  pub first : (machine_step c l (machine_step c l p two).machine one).event ≡ (machine_step c l p one).event
  pub second : (machine_step c l (machine_step c l p one).machine two).event ≡ (machine_step c l p two).event

-- on a machine of the chip, those on different registers do, also where they are refused
abbrev pub OtherStepsCommute : Type 0
OtherStepsCommute =
    (c : ChipData) (l : LayoutData) (p : Machine) (one two : Op) (i j : ℕ)
    → IsSound c → IsMirrorOf c (mirror_of p) → IsOther one → IsOther two
    → register_of c one ≡ Some i → register_of c two ≡ Some j → i < length c.regs → j < length c.regs → i ≢ j
    → Commute c l p one two
