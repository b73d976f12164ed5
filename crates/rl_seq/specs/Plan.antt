-- Operations that are done one after another, some of them made from the model as it then is.
-- A bus error doesn't end them.
use Rattle.std.specs.Prelude.{◌≡◌, ℕ, zero, suc, Bool, if◌then◌else◌, List, [], ◌∷◌, Result, OnOk, IfOk, MatchResult}
use Rattle.rl_access.specs.declared.event.Event.{Event}
use Rattle.rl_access.specs.declared.event.Op.{Op}
use Rattle.rl_access.specs.declared.event.Tally.{Tally}
use Rattle.rl_access.specs.Call.{Scene}
use Rattle.rl_access.specs.HandsOver.{Told, HandsOver}
use Rattle.rl_access.specs.Model.{ModelData}
use Rattle.rl_access.specs.Runs.{IsOneStep, no_tally, counted_all}

-- nothing more; an operation, and then the rest; or a look at the model as it then is
pub data Plan : Type 0 where
  stop : Plan
  step : Op → Plan → Plan
  look : (ModelData → Plan) → Plan

abbrev pub followed_by : Plan → Plan → Plan
followed_by stop q = q
followed_by (step op p) q = step op (followed_by p q)
followed_by (look f) q = look (λ m. followed_by (f m) q)

abbrev pub only_if : Bool → Plan → Plan
only_if b p = if b then p else stop

-- for each number below the count, in order
abbrev pub each_below : ℕ → (ℕ → Plan) → Plan
each_below zero f = stop
each_below (suc n) f = followed_by (each_below n f) (f n)

-- what is told is each operation, in order
abbrev pub Runs : Plan → Scene → List Told → Scene → Type 0
Runs stop s [] new = new ≡ s
Runs stop s (t ∷ told) new = ⊥
Runs (step op p) s [] new = ⊥
Runs (step op p) s (t ∷ told) new = (mid : Scene) × IsOneStep s mid op t × Runs p mid told new
Runs (look f) s told new = Runs (f s.model) s told new

-- and where it broke off at its last
abbrev pub Breaks : Plan → Scene → List Told → Scene → Type 0
Breaks stop s told new = ⊥
Breaks (step op p) s [] new = ⊥
Breaks (step op p) s (t ∷ []) new = IsOneStep s new op t
Breaks (step op p) s (t ∷ u ∷ told) new = (mid : Scene) × IsOneStep s mid op t × Breaks p mid (u ∷ told) new
Breaks (look f) s told new = Breaks (f s.model) s told new

-- the plan was followed, and each event handed over and counted; at `Err` the recorder failed at the last one
pub record Walks {R T E : Type 0} (takes breaks : R → ModelData → Event → R → Type 0) (old rec : R) (s new : Scene)
    (before after : Tally) (p : Plan) (r : Result T E) : Type 0 where
  pub told : List Told
  pub handed : HandsOver takes breaks old told rec r
  pub counts : OnOk r (after ≡ counted_all before told)
  pub run : MatchResult r (λ x. Runs p s told new) (λ e. Breaks p s told new)

-- a sequence followed the plan, each event was handed over, and it answers what it counted
pub record IsSequence {R E : Type 0} (takes breaks : R → ModelData → Event → R → Type 0) (old rec : R) (s new : Scene)
    (p : Plan) (r : Result Tally E) : Type 0 where
  pub told : List Told
  pub handed : HandsOver takes breaks old told rec r
  pub counts : IfOk r (λ tally. tally ≡ counted_all no_tally told)
  pub run : MatchResult r (λ x. Runs p s told new) (λ e. Breaks p s told new)
