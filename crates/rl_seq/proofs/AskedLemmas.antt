-- What a plan asks of the device is what its events say.
use Rattle.std.proofs.Common.{◌≡◌, List, [], ◌∷◌, ap}
use Rattle.rl_access.specs.Asking.{IsAskedBy}
use Rattle.rl_access.specs.Call.{Scene}
use Rattle.rl_access.specs.HandsOver.{Told}
use Rattle.rl_access.proofs.AskedLemmas.{asked_none, asked_step, asked_last}
use Rattle.rl_seq.specs.Plan.{Plan, stop, step, look, Runs, Breaks}

pub plan_asked : (p : Plan) (s new : Scene) (told : List Told) → Runs p s told new → IsAskedBy s.account told new.account
plan_asked stop s new [] h = asked_none s.account new.account (ap (λ (x : Scene). x.account) h)
plan_asked stop s new (t ∷ told) h = absurd h
plan_asked (step o p) s new [] h = absurd h
plan_asked (step o p) s new (t ∷ told) h = asked_step s h.0 new.account o t told h.1 (plan_asked p h.0 new told h.2)
plan_asked (look f) s new told h = plan_asked (f s.model) s new told h

-- up to where it broke off
pub broken_plan_asked : (p : Plan) (s new : Scene) (told : List Told) → Breaks p s told new → IsAskedBy s.account told new.account
broken_plan_asked stop s new told h = absurd h
broken_plan_asked (step o p) s new [] h = absurd h
broken_plan_asked (step o p) s new (t ∷ []) h = asked_last s new o t h
broken_plan_asked (step o p) s new (t ∷ u ∷ told) h =
    asked_step s h.0 new.account o t (u ∷ told) h.1 (broken_plan_asked p h.0 new (u ∷ told) h.2)
broken_plan_asked (look f) s new told h = broken_plan_asked (f s.model) s new told h
