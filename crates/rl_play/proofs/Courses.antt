-- Several operations, from a scene whose device tells its state.
use Rattle.std.proofs.Common.{◌≡◌, Bool, true, false, if◌then◌else◌, List, [], ◌∷◌, ◌++◌, refl, sym, ap, subst, ◌∙◌}
use Rattle.std.specs.Bool.{MatchBool}
use Rattle.rl_access.specs.declared.event.Op.{Op}
use Rattle.rl_access.specs.Call.{Scene}
use Rattle.rl_access.specs.HandsOver.{Told}
use Rattle.rl_access.specs.Runs.{IsOneStep, RunsThrough, RunsInto}
use Rattle.rl_access.specs.Tally.{is_bus_error}
use Rattle.rl_seq.specs.Plan.{Plan, stop, step, look, Runs, Breaks}
use Rattle.rl_log.specs.Course.{Course, told_of, alone, first_then, through, along}
use Rattle.rl_log.specs.declared.counts.Counts.{Counts}
use Rattle.rl_play.specs.Recording.{led_to, with_steps}
use Rattle.rl_log.specs.Recording.{with_event, with_events}
use Rattle.rl_access.specs.World.{World, Step, step_of}
use Rattle.rl_access.proofs.Worlds.{IsWorld, performed}

-- these events, and then this scene
pub record IsCourse (told : List Told) (new : Scene) (c : Course) : Type 0 where
  pub told_is : told ≡ c.told
  pub world : IsWorld new c.world

-- some of the events, from the first one on, and then this scene
pub record IsFrontOf (told : List Told) (new : Scene) (c : Course) : Type 0 where
  pub rest : List Told
  pub all : told ++ rest ≡ c.told
  pub front : List Step
  pub others : List Step
  pub split : front ++ others ≡ c.steps
  pub counted : (counts : Counts) → with_events counts told ≡ with_steps counts front
  pub leads : (w : World) → IsWorld new (led_to w front)

-- one event, and then this scene
record IsOne (t : Told) (mid : Scene) (st : Step) : Type 0 where
  told_is : t ≡ told_of st
  world : IsWorld mid st.world

one : (s mid : Scene) (w : World) (op : Op) (t : Told) → IsWorld s w → IsOneStep s mid op t → IsOne t mid (step_of w op)
one s mid w op t h o =
    let p = performed s mid w op t.event h o.performs in
    record {
      told_is = ap (λ m. record { model = m; event = t.event }) (o.model ∙ p.after.model_is) ∙ ap
          (λ e. record { model = (step_of w op).world.model; event = e }) p.event_is;
      world = p.after;
    }

ended : (t : Told) (mid : Scene) (st : Step) → IsOne t mid st → is_bus_error t.event.end ≡ is_bus_error st.event.end
ended t mid st o = ap (λ t. is_bus_error t.event.end) o.told_is

-- one event, and then the others of a course
first_and : (t : Told) (mid : Scene) (st : Step) (told : List Told) (new : Scene) (c : Course) → IsOne t mid st
    → IsCourse told new c → IsCourse (t ∷ told) new (first_then st c)
first_and t mid st told new c o r =
    record { told_is = ap (λ t. t ∷ told) o.told_is ∙ ap (◌∷◌ (told_of st)) r.told_is; world = r.world }

front_and : (t : Told) (mid new : Scene) (st : Step) (told : List Told) (c : Course) → IsOne t mid st
    → IsFrontOf told new c → IsFrontOf (t ∷ told) new (first_then st c)
front_and t mid new st told c o f = record {
  rest = f.rest;
  all = ap (λ t. t ∷ (told ++ f.rest)) o.told_is ∙ ap (◌∷◌ (told_of st)) f.all;
  front = st ∷ f.front;
  others = f.others;
  split = ap (◌∷◌ st) f.split;
  counted = λ counts. ap (λ (t : Told). with_events (with_event counts t.event) told) o.told_is ∙ f.counted
      (with_event counts st.event);
  leads = λ w. f.leads st.world;
}

front_alone : (t : Told) (mid : Scene) (st : Step) (c : Course) → IsOne t mid st → IsFrontOf (t ∷ []) mid (first_then st c)
front_alone t mid st c o = record {
  rest = c.told;
  all = ap (λ t. t ∷ c.told) o.told_is;
  front = st ∷ [];
  others = c.steps;
  split = refl;
  counted = λ counts. ap (λ (t : Told). with_event counts t.event) o.told_is;
  leads = λ w. o.world;
}

-- ---- up to the first bus error

after_first : (b : Bool) (t : Told) (mid : Scene) (st : Step) (told : List Told) (new : Scene) (others : Course)
    (More : Type 0) → IsOne t mid st
    → MatchBool b ((told ≡ []) × (new ≡ mid)) More → (More → IsCourse told new others) → IsCourse (t ∷ told) new
    (if b then alone st else first_then st others)
after_first true t mid st told new others More o (none, same) next = record {
  told_is = ap (λ rest. t ∷ rest) none ∙ ap (λ t. t ∷ []) o.told_is;
  world = subst (λ s. IsWorld s st.world) (sym same) o.world;
}
after_first false t mid st told new others More o more next = first_and t mid st told new others o (next more)

pub runs_through : (ops : List Op) (told : List Told) (s new : Scene) (w : World) → IsWorld s w
    → RunsThrough s ops told new → IsCourse told new (through w ops)
unfolding through
runs_through [] [] s new w h r = record { told_is = refl; world = subst (λ s. IsWorld s w) (sym r) h }
runs_through [] (t ∷ told) s new w h r = absurd r
runs_through (op ∷ ops) [] s new w h r = absurd r
runs_through (op ∷ ops) (t ∷ told) s new w h (mid, o, rest) =
    let st = step_of w op in
    let first = one s mid w op t h o in
    after_first (is_bus_error st.event.end) t mid st told new (through st.world ops) (RunsThrough mid ops told new) first
    (subst (λ b. MatchBool b ((told ≡ []) × (new ≡ mid)) (RunsThrough mid ops told new)) (ended t mid st first) rest)
    (λ more. runs_through ops told mid new st.world first.world more)

front_quiet : (b : Bool) (told : List Told) (new : Scene) (st : Step) (others : Course) → b ≡ false
    → IsFrontOf told new (first_then st others) → IsFrontOf told new (if b then alone st else first_then st others)
front_quiet true told new st others quiet f = absurd cc
front_quiet false told new st others quiet f = f

front_one : (b : Bool) (t : Told) (mid : Scene) (st : Step) (others : Course) → IsOne t mid st → IsFrontOf
    (t ∷ []) mid (if b then alone st else first_then st others)
front_one true t mid st others o = record {
  rest = [];
  all = ap (λ t. t ∷ []) o.told_is;
  front = st ∷ [];
  others = [];
  split = refl;
  counted = λ counts. ap (λ (t : Told). with_event counts t.event) o.told_is;
  leads = λ w. o.world;
}
front_one false t mid st others o = front_alone t mid st others o

pub runs_into : (ops : List Op) (told : List Told) (s new : Scene) (w : World) → IsWorld s w → RunsInto s ops told new
    → IsFrontOf told new (through w ops)
unfolding through
runs_into [] [] s new w h r = absurd r
runs_into (op ∷ ops) [] s new w h r = absurd r
runs_into [] (t ∷ told) s new w h r = absurd r
runs_into (op ∷ ops) (t ∷ []) s new w h r =
    let st = step_of w op in front_one (is_bus_error st.event.end) t new st (through st.world ops) (one s new w op t h r)
runs_into (op ∷ ops) (t ∷ u ∷ told) s new w h (mid, o, quiet, rest) =
    let st = step_of w op in
    let first = one s mid w op t h o in
    front_quiet (is_bus_error st.event.end) (t ∷ u ∷ told) new st (through st.world ops)
    (sym (ended t mid st first) ∙ quiet)
    (front_and t mid new st (u ∷ told) (through st.world ops) first
    (runs_into ops (u ∷ told) mid new st.world first.world rest))

-- ---- a plan

pub runs_along : (p : Plan) (told : List Told) (s new : Scene) (w : World) → IsWorld s w → Runs p s told new
    → IsCourse told new (along w p)
unfolding along
runs_along stop [] s new w h r = record { told_is = refl; world = subst (λ s. IsWorld s w) (sym r) h }
runs_along stop (t ∷ told) s new w h r = absurd r
runs_along (step op p) [] s new w h r = absurd r
runs_along (step op p) (t ∷ told) s new w h (mid, o, rest) =
    let st = step_of w op in
    let first = one s mid w op t h o in
    first_and t mid st told new (along st.world p) first (runs_along p told mid new st.world first.world rest)
runs_along (look f) told s new w h r =
    runs_along (f w.model) told s new w h (subst (λ m. Runs (f m) s told new) h.model_is r)

pub breaks_along : (p : Plan) (told : List Told) (s new : Scene) (w : World) → IsWorld s w → Breaks p s told new
    → IsFrontOf told new (along w p)
unfolding along
breaks_along stop told s new w h r = absurd r
breaks_along (step op p) [] s new w h r = absurd r
breaks_along (step op p) (t ∷ []) s new w h r =
    let st = step_of w op in front_alone t new st (along st.world p) (one s new w op t h r)
breaks_along (step op p) (t ∷ u ∷ told) s new w h (mid, o, rest) =
    let st = step_of w op in
    let first = one s mid w op t h o in
    front_and t mid new st (u ∷ told) (along st.world p) first (breaks_along p (u ∷ told) mid new st.world first.world rest)
breaks_along (look f) told s new w h r =
    breaks_along (f w.model) told s new w h (subst (λ m. Breaks (f m) s told new) h.model_is r)
