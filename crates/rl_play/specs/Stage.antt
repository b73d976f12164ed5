-- What a line is run on, and what stays. `X` and `V` are the adapters behind `dyn`.
use Rattle.std.specs.Prelude.{◌≡◌, ℕ, List, [], ◌∷◌, Option, Result}
use Rattle.rl_access.specs.declared.event.Tally.{Tally}
use Rattle.rl_access.specs.Call.{scene}
use Rattle.rl_access.specs.Model.{ModelData, IsReady, IsSameChip}
use Rattle.rl_bus.specs.Account.{Account}
use Rattle.rl_bus.specs.Causes.{HasCause}
use Rattle.rl_bus.specs.Standing.{Standing}
use Rattle.rl_bus.specs.State.{State}
use Rattle.rl_bus.specs.declared.device.Device.{Ghosts as Device}
use Rattle.rl_play.specs.AnyDevice.{Point, spot, LogsInTurn}
use Rattle.rl_play.specs.Leaves.{StaysReady}
use Rattle.rl_play.specs.Work.{Work}
use Rattle.rl_play.specs.declared.line.Stage.{Stage}
use Rattle.rl_play.specs.declared.recorder.Writing.{Writing}
use Rattle.rl_report.specs.Pieces.{SinkStays}
use Rattle.rl_report.specs.declared.sink.Sink.{Ghosts as Sink}

-- where it stands, with the adapters as their callers see them
abbrev pub spot_of : {D K X : Type 0} {V : X → Type 0} → Device D → Sink K → List Standing → Stage D K X V → Point
spot_of d k adapters stage = record {
  scene = scene stage.model.now adapters (d.account stage.device.now) (d.state stage.device.now);
  text = k.written stage.out.now;
  counts = stage.counts.now;
}

-- where it stands, where a recorder writes and counts
abbrev pub recorded : {A D K : Type 0} → (A → Standing) → (D → Account) → (D → Option State) → (K → Option (List ℕ))
    → ModelData → List A → D → Writing K → Point
recorded standing account state written model adapters device rec =
    spot standing account state written model adapters device rec.sink.now rec.counts

-- A recorder was told of the events of some work: each was written and counted in turn, and the next call may follow. It failed
-- only where the sink has failed once more. The sink is the same, was ended as often, and its bytes go where they went.
pub record IsRecorded {K E : Type 0} (k : Sink K) (work : Work) (before after : Point) (old new : Writing K)
    (result : Result Tally E) : Type 0 where
  pub logs : LogsInTurn work before after result
  pub ready : IsReady after.scene.model after.scene.adapters after.scene.device
  pub parts : IsSameChip before.scene.model after.scene.model
  pub cause : HasCause (k.faults old.sink.now) (k.faults new.sink.now) result
  pub steady : new.sink.ghost_name ∷ k.ends new.sink.now ∷ k.target new.sink.now ∷ []
      ≡ old.sink.ghost_name ∷ k.ends old.sink.now ∷ k.target old.sink.now ∷ []

-- adapters and device belong to the model
abbrev pub CanRun : {D K X : Type 0} {V : X → Type 0} → Device D → List Standing → Stage D K X V → Type 0
CanRun d adapters stage = IsReady stage.model.now adapters (d.state stage.device.now)

-- it is the same model, device and adapters, with the same log and counts
pub record IsSameStage {D K X : Type 0} {V : X → Type 0} (stage new : Stage D K X V) : Type 0 where
  pub model : new.model.ghost_name ≡ stage.model.ghost_name
  pub device : new.device.ghost_name ≡ stage.device.ghost_name
  pub adapters : new.adapters.ghost_name ≡ stage.adapters.ghost_name
  pub out : new.out.ghost_name ≡ stage.out.ghost_name
  pub counts : new.counts.ghost_name ≡ stage.counts.ghost_name

-- The next call may follow, on the same stage. A call fails where the sink has failed once more, and leaves how often
-- this was ended and where its bytes go.
pub record StaysOn {D K X : Type 0} {V : X → Type 0} {T E : Type 0} (d : Device D) (k : Sink K)
    (adapters : List Standing) (stage new : Stage D K X V) (result : Result T E) : Type 0 where
  pub ready : StaysReady stage.model.now new.model.now adapters (d.state new.device.now)
  pub sink : SinkStays k stage.out.now new.out.now result
  pub same : IsSameStage stage new
