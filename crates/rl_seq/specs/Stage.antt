-- What a sequence, or a part of it, does to all that it works on, said once.
use Rattle.std.specs.Prelude.{◌≡◌, ℕ, List, Option, Result}
use Rattle.rl_bus.specs.Causes.{HasCause}
use Rattle.rl_bus.specs.Standing.{Standing}
use Rattle.rl_bus.specs.declared.device.Device.{Ghosts as Device}
use Rattle.rl_access.specs.Call.{Scene, scene_of}
use Rattle.rl_access.specs.Model.{ModelData, IsReady, IsSameChip}
use Rattle.rl_access.specs.declared.event.Tally.{Tally}
use Rattle.rl_access.specs.declared.recorder.Recorder.{Ghosts as Recorder}
use Rattle.rl_seq.specs.declared.sequence.Sequence.{Sequence}
use Rattle.rl_seq.specs.Plan.{Plan, Walks, IsSequence}
use Rattle.rl_seq.specs.Sequences.{plan_of}

-- a model, a device and adapters, and the recorder that is told of the events
pub record Stage (R : Type 0) : Type 0 where
  pub scene : Scene
  pub recorder : R

abbrev pub stage_of : {A D R : Type 0} → (A → Standing) → Device D → ModelData → List A → D → R → Stage R
stage_of standing d model adapters device recorder =
    record { scene = scene_of standing d.account d.state model adapters device; recorder = recorder }

-- What stays, and what a failure means: the next call may follow, the chip and the layout are the same, the recorder
-- keeps what no step changes, and `Err` comes only where it failed.
pub record Stays {R T E : Type 0} (r : Recorder R) (s new : Stage R) (result : Result T E) : Type 0 where
  pub ready : IsReady new.scene.model new.scene.adapters new.scene.device
  pub parts : IsSameChip s.scene.model new.scene.model
  pub cause : HasCause (r.faults s.recorder) (r.faults new.recorder) result
  pub steady : r.steady new.recorder ≡ r.steady s.recorder

-- the plan was followed, each event was handed over and counted, and the rest stays
pub record Follows {R T E : Type 0} (r : Recorder R) (s new : Stage R) (before after : Tally) (p : Plan)
    (result : Result T E) : Type 0 where
  pub walks : Walks r.takes r.breaks s.recorder new.recorder s.scene new.scene before after p result
  pub stays : Stays r s new result

-- A run of the sequence, over the block or the whole chip: each event of its plan was handed over and
-- counted, and the rest stays.
pub record IsRunOf {R E : Type 0} (r : Recorder R) (which : Sequence) (block : Option ℕ) (s new : Stage R)
    (result : Result Tally E) : Type 0 where
  pub hands_over : IsSequence r.takes r.breaks s.recorder new.recorder s.scene new.scene
      (plan_of which s.scene.model.chip s.scene.model.layout block) result
  pub stays : Stays r s new result
