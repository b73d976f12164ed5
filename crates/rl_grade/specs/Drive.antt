-- Events that went to a recorder: all of them, or those up to the one at which it failed.
use Rattle.std.specs.Prelude.{◌≡◌, ℕ, List, ◌∷◌, ◌++◌, map, Option, Result, OnOk, OnErr, IfErr}
use Rattle.rl_access.specs.declared.event.Event.{Event}
use Rattle.rl_access.specs.HandsOver.{Told, TakesAll}
use Rattle.rl_access.specs.Model.{ModelData}
use Rattle.rl_access.specs.World.{IsAt}
use Rattle.rl_bus.specs.Standing.{Standing}
use Rattle.rl_bus.specs.State.{State}
use Rattle.rl_log.specs.Course.{Course}
use Rattle.rl_grade.specs.Heard.{Heard}

-- those before one were taken, and at that one it failed
pub record Broke {R : Type 0} (takes breaks : R → ModelData → Event → R → Type 0) (old new : R) (told : List Told)
    : Type 0 where
  pub done : List Told
  pub last : Told
  pub others : List Told
  pub split : done ++ last ∷ others ≡ told
  pub mid : R
  pub taken : TakesAll takes old done mid
  pub broken : breaks mid last.model last.event new

-- the events of a job, and what stands after them
pub record Drives {R T E : Type 0} (takes breaks : R → ModelData → Event → R → Type 0) (old new : R) (c : Course)
    (model : ModelData) (adapters : List Standing) (device : Option State) (r : Result T E) : Type 0 where
  pub whole : OnOk r (TakesAll takes old c.told new)
  pub after : OnOk r (IsAt model adapters device c.world)
  pub part : OnErr r (Broke takes breaks old new c.told)

-- ---- of lines

abbrev pub told_of : List Heard → List Told
told_of heard = map (λ h. h.told) heard

-- a recorder took the events before one of the line of that number, and broke at this one
pub record BrokeIn {R : Type 0} (takes breaks : R → ModelData → Event → R → Type 0) (old new : R) (heard : List Heard)
    (line : ℕ) : Type 0 where
  pub done : List Heard
  pub last : Heard
  pub others : List Heard
  pub split : done ++ last ∷ others ≡ heard
  pub line_is : last.line ≡ line
  pub mid : R
  pub taken : TakesAll takes old (told_of done) mid
  pub broken : breaks mid last.told.model last.told.event new

pub record DrivesAll {R T : Type 0} (takes breaks : R → ModelData → Event → R → Type 0) (old new : R)
    (heard : List Heard) (r : Result T ℕ) : Type 0 where
  pub whole : OnOk r (TakesAll takes old (told_of heard) new)
  pub part : IfErr r (BrokeIn takes breaks old new heard)

-- what hands over the rest from the one recorder on hands over all from the other on
abbrev pub LeadsTo : {R : Type 0} → (takes breaks : R → ModelData → Event → R → Type 0) → (old : R) → (all : List Heard)
    → (mid : R) → (rest : List Heard) → Type 0
LeadsTo {R} takes breaks old all mid rest =
    (new : R) (r : Result (Unit {0}) ℕ) → DrivesAll takes breaks mid new rest r → DrivesAll takes breaks old new all r
