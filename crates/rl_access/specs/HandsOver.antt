-- A list of events goes to a recorder.
use Rattle.std.specs.Prelude.{◌≡◌, List, [], ◌∷◌, Result, OnOk, OnErr}
use Rattle.rl_access.specs.declared.event.Event.{Event}
use Rattle.rl_access.specs.Model.{ModelData}

-- an event, with the model as it was right after it
pub record Told : Type 0 where
  pub model : ModelData
  pub event : Event

-- each event was taken, in order
abbrev pub TakesAll : {R : Type 0} → (R → ModelData → Event → R → Type 0) → R → List Told → R → Type 0
TakesAll takes old [] new = new ≡ old
TakesAll {R} takes old (t ∷ ts) new = (mid : R) × takes old t.model t.event mid × TakesAll takes mid ts new

-- each event but the last one was taken, in order, and the last one broke
abbrev pub BreaksAtLast :
    {R : Type 0} → (takes breaks : R → ModelData → Event → R → Type 0) → R → List Told → R → Type 0
BreaksAtLast takes breaks old [] new = ⊥
BreaksAtLast takes breaks old (t ∷ []) new = breaks old t.model t.event new
BreaksAtLast {R} takes breaks old (t ∷ u ∷ ts) new =
    (mid : R) × takes old t.model t.event mid × BreaksAtLast takes breaks mid (u ∷ ts) new

-- the events were handed over; at `Err` the last one broke
pub record HandsOver {R T E : Type 0} (takes breaks : R → ModelData → Event → R → Type 0) (old : R) (told : List Told)
    (new : R) (r : Result T E) : Type 0 where
  pub all : OnOk r (TakesAll takes old told new)
  pub part : OnErr r (BreaksAtLast takes breaks old told new)
