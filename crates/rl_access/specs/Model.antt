-- A register model as data: a chip, its layout, what is believed of it, and what the predictor has gathered.
use Rattle.std.specs.Prelude.{◌≡◌, List, Option, Some}
use Rattle.rl_bus.specs.Setup.{Setup, Flaws}
use Rattle.rl_bus.specs.Standing.{Standing, kinds_of}
use Rattle.rl_bus.specs.State.{State}
use Rattle.rl_model.specs.Rows.{ChipData}
use Rattle.rl_model.specs.Chip.{IsSound as IsChip}
use Rattle.rl_map.specs.Layout.{LayoutData, IsSound as IsLayout}
use Rattle.rl_map.specs.Maps.{IsBuiltWith}
use Rattle.rl_map.specs.Tables.{setup_of}
use Rattle.rl_mirror.specs.Mirror.{MirrorData, IsMirrorOf}
use Rattle.rl_mirror.specs.Reachable.{IsReachable}
use Rattle.rl_access.specs.declared.predictor.Gathered.{Gathered}
use Rattle.rl_access.specs.Gathering.{IsPredictorOf}

pub record ModelData : Type 0 where
  pub chip : ChipData
  pub layout : LayoutData
  pub mirror : MirrorData
  -- one list for each place
  pub gathered : List Gathered

-- ---- parts that belong together

pub record IsModel (m : ModelData) : Type 0 where
  pub chip : IsChip m.chip
  pub layout : IsLayout m.layout
  pub built : IsBuiltWith m.layout m.chip
  pub mirror : IsMirrorOf m.chip m.mirror
  -- an update reaches the desired values
  pub reach : IsReachable m.chip m.mirror
  pub predictor : IsPredictorOf m.layout m.gathered

-- a device that tells its state has the model's chip and layout, with any flaws
pub record IsSetupOf (c : ChipData) (l : LayoutData) (t : Setup) : Type 0 where
  pub flaws : Flaws
  pub setup : t ≡ setup_of c l flaws

abbrev pub IsDeviceFor : ChipData → LayoutData → Option State → Type 0
IsDeviceFor c l state = (s : State) → state ≡ Some s → IsSetupOf c l s.setup

abbrev pub IsDeviceOf : ModelData → Option State → Type 0
IsDeviceOf m state = IsDeviceFor m.chip m.layout state

-- what each call with adapters and a device asks, and what is so again after it
pub record IsReadyFor (c : ChipData) (l : LayoutData) (adapters : List Standing) (state : Option State) : Type 0 where
  -- the adapters' kinds are those with which the layout was built
  pub kinds : kinds_of adapters ≡ l.kinds
  pub device : IsDeviceFor c l state

abbrev pub IsReady : ModelData → List Standing → Option State → Type 0
IsReady m adapters state = IsReadyFor m.chip m.layout adapters state

-- the chip and the layout are the same
pub record IsSameChip (m new : ModelData) : Type 0 where
  pub chip : new.chip ≡ m.chip
  pub layout : new.layout ≡ m.layout
