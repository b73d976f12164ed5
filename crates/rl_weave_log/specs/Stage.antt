-- What a woven script is run on, and what stays of it. `X` and `V` are the adapters behind `dyn`.
use Rattle.std.specs.Prelude.{◌≡◌, List, true, false}
use Rattle.rl_access.specs.Model.{IsReady}
use Rattle.rl_bus.specs.Standing.{Standing}
use Rattle.rl_bus.specs.declared.device.Device.{Ghosts as Device}
use Rattle.rl_play.specs.Leaves.{Leaves, NotByCounts, StaysReady, stop_of}
use Rattle.rl_play.specs.declared.playing.Turn.{Turn}
use Rattle.rl_play.specs.declared.playing.Turn.TheVariants.{Next}
use Rattle.rl_report.specs.Reading.{Reading}
use Rattle.rl_report.specs.declared.sink.Sink.{Ghosts as Sink}
use Rattle.rl_weave.specs.Weave.{IsWeaveOn}
use Rattle.rl_weave_log.specs.Setting.{Setting}
use Rattle.rl_weave_log.specs.Turns.{IsGathering}
use Rattle.rl_weave_log.specs.declared.script.Stage.{Stage}
use Rattle.rl_weave_log.specs.declared.script.WovenScript.{WovenScript}

-- where it stands, with the adapters as their callers see them
abbrev pub setting_on : {D K X : Type 0} {V : X → Type 0} → Device D → Sink K → List Standing
    → WovenScript → Stage D K X V → Setting
setting_on d k adapters script stage = record {
  weave = script.weave;
  model = stage.model.now;
  adapters = adapters;
  device = d.state stage.device.now;
  drawing = script.draws.state;
  text = k.written stage.out.now;
  counts = stage.counts.now;
}

-- adapters and device belong to the model, and each access of the group is as the model has it
pub record CanWeave {D K X : Type 0} {V : X → Type 0} (d : Device D) (adapters : List Standing) (script : WovenScript)
    (stage : Stage D K X V) : Type 0 where
  pub ready : IsReady stage.model.now adapters (d.state stage.device.now)
  pub weave : IsWeaveOn stage.model.now script.weave

-- adapters and device belong to the model, and no access of the group has sent a word
pub record CanGather {D K X : Type 0} {V : X → Type 0} (d : Device D) (adapters : List Standing) (script : WovenScript)
    (stage : Stage D K X V) : Type 0 where
  pub ready : IsReady stage.model.now adapters (d.state stage.device.now)
  pub group : IsGathering stage.model.now script.weave

-- no access of the group has sent a word, and the next line can be read
pub record CanTake {D K X : Type 0} {V : X → Type 0} (d : Device D) (adapters : List Standing) (script : WovenScript)
    (stage : Stage D K X V) (lines : Reading) : Type 0 where
  pub gathering : CanGather d adapters script stage
  pub found : lines.found ≡ true
  pub going : lines.refused ≡ false

-- It is the same model, device and adapters, with the same log and counts, and they still belong together.
pub record StaysAt {D K X : Type 0} {V : X → Type 0} (d : Device D) (adapters : List Standing)
    (stage new : Stage D K X V) : Type 0 where
  pub ready : StaysReady stage.model.now new.model.now adapters (d.state new.device.now)
  pub same_model : new.model.ghost_name ≡ stage.model.ghost_name
  pub same_device : new.device.ghost_name ≡ stage.device.ghost_name
  pub same_adapters : new.adapters.ghost_name ≡ stage.adapters.ghost_name
  pub same_out : new.out.ghost_name ≡ stage.out.ghost_name
  pub same_counts : new.counts.ghost_name ≡ stage.counts.ghost_name

-- Where the script goes on, the next line can be taken in. Where it ends, it does so by no status that goes by the
-- counts, and by a fault only where the sink has failed once more.
pub record TurnsOn {D K X : Type 0} {V : X → Type 0} (d : Device D) (k : Sink K) (adapters : List Standing)
    (script : WovenScript) (stage new : Stage D K X V) (turn : Turn) : Type 0 where
  pub stays : StaysAt d adapters stage new
  pub group : turn ≡ Next → IsGathering new.model.now script.weave
  pub counted : NotByCounts (stop_of turn)
  pub leaves : Leaves k 0 0 stage.out.now new.out.now (stop_of turn)
