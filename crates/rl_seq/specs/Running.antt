-- A sequence under way, and what a part of it does.
use Rattle.std.specs.Prelude.{◌≡◌, List, Result}
use Rattle.rl_bus.specs.Standing.{Standing}
use Rattle.rl_bus.specs.declared.device.Device.{Ghosts as Device}
use Rattle.rl_access.specs.Call.{scene}
use Rattle.rl_access.specs.Model.{IsReady}
use Rattle.rl_access.specs.declared.recorder.Recorder.{Ghosts as Recorder}
use Rattle.rl_seq.specs.declared.running.Running.{Running}
use Rattle.rl_seq.specs.Plan.{Plan}
use Rattle.rl_seq.specs.Stage.{Stage, Follows}

-- What it works on, with its adapters as their callers see them. `X` and `V` are the adapters behind `dyn`.
abbrev pub stage_at : {D R X : Type 0} {V : X → Type 0} → Device D → List Standing → Running D R X V → Stage R
stage_at d adapters run = record {
  scene = scene run.model.now adapters (d.account run.device.now) (d.state run.device.now);
  recorder = run.recorder.now;
}

-- adapters and device belong to the model
abbrev pub IsReadyAt : {R : Type 0} → Stage R → Type 0
IsReadyAt s = IsReady s.scene.model s.scene.adapters s.scene.device

-- it works on the same things, and tells the same recorder
pub record IsSameRun {D R X : Type 0} {V : X → Type 0} (run new : Running D R X V) : Type 0 where
  pub model : new.model.ghost_name ≡ run.model.ghost_name
  pub device : new.device.ghost_name ≡ run.device.ghost_name
  pub adapters : new.adapters.ghost_name ≡ run.adapters.ghost_name
  pub recorder : new.recorder.ghost_name ≡ run.recorder.ghost_name

-- the plan was followed, from these adapters to those, and it is still the same run
pub record GoesOn {D R X : Type 0} {V : X → Type 0} {T E : Type 0} (r : Recorder R) (d : Device D)
    (before after : List Standing) (run new : Running D R X V) (p : Plan) (result : Result T E) : Type 0 where
  pub follows : Follows r (stage_at d before run) (stage_at d after new) run.tally new.tally p result
  pub same : IsSameRun run new
