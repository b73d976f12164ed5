-- What a call meets and leaves, against a part of the log.
use Rattle.std.specs.Prelude.{◌≡◌, ℕ, List, Option, IfSome, Result, OnOk, OnErr}
use Rattle.std.specs.Io.KnownBytes.{Appends}
use Rattle.rl_access.specs.Model.{ModelData}
use Rattle.rl_access.specs.World.{world, IsAt}
use Rattle.rl_bus.specs.Standing.{Standing}
use Rattle.rl_bus.specs.State.{State}
use Rattle.rl_log.specs.declared.counts.Counts.{Counts}
use Rattle.rl_report.specs.Pieces.{AppendsFront}
use Rattle.rl_weave.specs.Weave.{WeaveData}
use Rattle.rl_weave_log.specs.WeaveLog.{Weaving, Part}

pub record Setting : Type 0 where
  pub weave : WeaveData
  pub model : ModelData
  pub adapters : List Standing
  -- where the device tells it
  pub device : Option State
  pub drawing : ℕ
  -- what was written until then, where the sink tells it
  pub text : Option (List ℕ)
  pub counts : Counts

abbrev pub weaving_at : Setting → State → Weaving
weaving_at s d = record {
  weave = s.weave;
  world = world s.model s.adapters d;
  drawing = s.drawing;
  counts = s.counts;
}

-- these are what stands
pub record IsAtWeaving (s : Setting) (g : Weaving) : Type 0 where
  pub weave_is : s.weave ≡ g.weave
  pub world_is : IsAt s.model s.adapters s.device g.world
  pub drawing_is : s.drawing ≡ g.drawing
  pub counts_are : s.counts ≡ g.counts

-- the text was written, and the call left what stands after it; where the sink failed, a front of it was written
pub record IsPart {T E : Type 0} (p : Part) (old : Option (List ℕ)) (after : Setting) (r : Result T E) : Type 0 where
  pub whole : OnOk r (Appends old after.text p.text)
  pub left : OnOk r (IsAtWeaving after p.after)
  pub part : OnErr r (AppendsFront old after.text p.text)

-- where the device tells its state
abbrev pub Writes : {T E : Type 0} → (Weaving → Part) → (before after : Setting) → Result T E → Type 0
Writes part before after r = IfSome before.device (λ d. IsPart (part (weaving_at before d)) before.text after r)
