-- A model and its device that a description describes, but with flaws of a trial's own.
use Rattle.std.specs.Prelude.{◌≡◌, List, Some}
use Rattle.rl_access.specs.Model.{IsDeviceOf, ModelData}
use Rattle.rl_access.specs.World.{IsAt}
use Rattle.rl_bus.specs.Standing.{Standing}
use Rattle.rl_bus.specs.State.{State}
use Rattle.rl_desc.specs.Data.{DescData}
use Rattle.rl_flaw.specs.declared.flaw.Flaw.{Flaw}
use Rattle.rl_session.specs.Judged.{first_world}
use Rattle.rl_grade.specs.Together.{with_flaws}

-- they stand as a description with these flaws and no others begins; beside them are those that it declares
pub record IsTrialOf (d : DescData) (flaws : List Flaw) (model : ModelData) (state : State) (declared : List Flaw)
    : Type 0 where
  pub chip : model.chip ≡ d.chip
  pub layout : model.layout ≡ d.layout
  pub declared_are : declared ≡ d.flaws
  pub device : IsDeviceOf model (Some state)
  pub first : (adapters : List Standing) → IsAt model adapters (Some state) (first_world (with_flaws d flaws) adapters)

-- the description of a model, which declares these flaws
abbrev pub described : ModelData → (declared : List Flaw) → DescData
described m declared = record { chip = m.chip; layout = m.layout; flaws = declared }
