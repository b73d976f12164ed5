-- A model and a device of a description.
use Rattle.std.specs.Prelude.{◌≡◌, Some}
use Rattle.rl_access.specs.Model.{ModelData, IsDeviceOf}
use Rattle.rl_bench.specs.declared.bench.Bench.{Bench}
use Rattle.rl_bench.specs.State.{bench_state}
use Rattle.rl_desc.specs.Data.{DescData}

-- The model has the description's chip and layout, and the device has the model's.
pub record IsOpened (desc : DescData) (model : ModelData) (bench : Bench) : Type 0 where
  pub chip : model.chip ≡ desc.chip
  pub layout : model.layout ≡ desc.layout
  pub device : IsDeviceOf model (Some (bench_state bench))
