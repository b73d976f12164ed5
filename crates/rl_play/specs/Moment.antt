-- What a call meets and leaves: a session at a moment.
use Rattle.std.specs.Prelude.{ℕ, List, map, Option}
use Rattle.rl_access.specs.Model.{ModelData}
use Rattle.rl_bus.specs.Standing.{Standing}
use Rattle.rl_bus.specs.State.{State}
use Rattle.rl_log.specs.declared.counts.Counts.{Counts}

pub record Moment : Type 0 where
  pub model : ModelData
  -- as their callers see them
  pub adapters : List Standing
  -- where the device tells it
  pub device : Option State
  -- what was written until then, where the sink tells it
  pub text : Option (List ℕ)
  -- what was counted until then
  pub counts : Counts

abbrev pub moment : ModelData → List Standing → Option State → Option (List ℕ) → Counts → Moment
moment model adapters device text counts =
    record { model = model; adapters = adapters; device = device; text = text; counts = counts }

-- a model, adapters as their callers see them, a device that may tell its state, a sink that
-- may tell its bytes, and counts
abbrev pub moment_of : {A D K : Type 0} → (A → Standing) → (D → Option State) → (K → Option (List ℕ))
    → ModelData → List A → D → K → Counts → Moment
moment_of standing state written model adapters device sink counts =
    moment model (map standing adapters) (state device) (written sink) counts
