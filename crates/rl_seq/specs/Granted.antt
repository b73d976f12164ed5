-- No step of a sequence is refused.
use Rattle.std.specs.Prelude.{◌≡◌, ℕ, Option, IsOk}
use Rattle.rl_model.specs.Rows.{ChipData}
use Rattle.rl_map.specs.Layout.{LayoutData}
use Rattle.rl_access.specs.Model.{ModelData, IsModel}
use Rattle.rl_access.specs.Rules.{grant}
use Rattle.rl_seq.specs.declared.sequence.Sequence.{Sequence}
use Rattle.rl_seq.specs.Plan.{Plan, stop, step, look}
use Rattle.rl_seq.specs.Sequences.{plan_of}

-- a model of the chip and the layout
pub record IsModelFor (c : ChipData) (l : LayoutData) (m : ModelData) : Type 0 where
  pub model : IsModel m
  pub chip : m.chip ≡ c
  pub layout : m.layout ≡ l

-- each operation of the plan is granted, from any model of the chip and the layout, and so from the one
-- that the steps before leave
abbrev pub IsGranted : ChipData → LayoutData → Plan → Type 0
IsGranted c l stop = Unit {0}
IsGranted c l (step op p) = ((m : ModelData) → IsModelFor c l m → IsOk (grant m op)) × IsGranted c l p
IsGranted c l (look f) = (m : ModelData) → IsModelFor c l m → IsGranted c l (f m)

-- each of the five, so that a sequence of refusals can't pass
abbrev pub NoStepIsRefused : Type 0
NoStepIsRefused =
    (which : Sequence) (c : ChipData) (l : LayoutData) (block : Option ℕ) → IsGranted c l (plan_of which c l block)
