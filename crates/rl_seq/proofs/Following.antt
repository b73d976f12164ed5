-- Plans that are followed one after another, with all that stays.
use Rattle.std.proofs.Common.{◌≡◌, ℕ, zero, suc, ◌+◌, ◌-◌, ◌<◌, ◌≤◌, true, false, List, Option, Result, Ok, Err, OnOk, OnErr, refl, sym, ap, ◌∙◌, subst, arith}
use Rattle.std.specs.Result.{IsErr}
use Rattle.rl_bus.specs.Causes.{HasCause}
use Rattle.rl_bus.specs.Standing.{Standing}
use Rattle.rl_bus.specs.declared.device.Device.{Ghosts as Device}
use Rattle.rl_access.specs.Call.{Scene, Performs}
use Rattle.rl_access.specs.Model.{ModelData, IsReady, IsSameChip}
use Rattle.rl_access.specs.Runs.{no_tally}
use Rattle.rl_access.specs.Tally.{counted}
use Rattle.rl_access.specs.declared.event.Event.{Event}
use Rattle.rl_access.specs.declared.event.Op.{Op}
use Rattle.rl_access.specs.declared.event.Tally.{Tally}
use Rattle.rl_access.specs.declared.recorder.Recorder.{Ghosts as Recorder}
use Rattle.rl_seq.specs.declared.sequence.Sequence.{Sequence}
use Rattle.rl_seq.specs.Plan.{Plan, stop, step, look, followed_by, each_below}
use Rattle.rl_seq.specs.Running.{GoesOn, IsReadyAt, IsSameRun, stage_at}
use Rattle.rl_seq.specs.declared.running.Running.{Running}
use Rattle.rl_seq.specs.Sequences.{walk, beginning_of, plan_of}
use Rattle.rl_seq.specs.Stage.{Stage, Stays, Follows, IsRunOf}
use Rattle.rl_seq.proofs.Planned.{walks_one, walks_none, walks_then, walks_broke, walks_below, walks_look, walks_same, walks_alike, Alike, grown, same_plan, sequence_done, sequence_broke}

pub same_parts : (m : ModelData) → IsSameChip m m
same_parts m = record { chip = refl; layout = refl }

parts_on : (a b c : ModelData) → IsSameChip a b → IsSameChip b c → IsSameChip a c
parts_on a b c first then = record { chip = then.chip ∙ first.chip; layout = then.layout ∙ first.layout }

-- ---- a run that stays the same

pub same_run : {D R X : Type 0} {V : X → Type 0} (run : Running D R X V) → IsSameRun run run
same_run run = record { model = refl; device = refl; adapters = refl; recorder = refl }

pub same_on : {D R X : Type 0} {V : X → Type 0} (run mid new : Running D R X V) → IsSameRun run mid → IsSameRun mid new → IsSameRun run new
same_on run mid new first then = record {
  model = then.model ∙ first.model;
  device = then.device ∙ first.device;
  adapters = then.adapters ∙ first.adapters;
  recorder = then.recorder ∙ first.recorder;
}

-- ---- what a recorder was told

module _ {R : Type 0} (r : Recorder R) where
  pub stays_none : {T E : Type 0} (s : Stage R) (x : T) → IsReady s.scene.model s.scene.adapters s.scene.device → Stays {E = E} r s s (Ok x)
  stays_none s x ready = record { ready = ready; parts = same_parts s.scene.model; cause = record { later = omega arith; failed = tt }; steady = refl }

  later_on : {T U E F : Type 0} (x : T) (p : Result U E) (a b c : ℕ) → HasCause {E = F} a b (Ok x) → HasCause b c p → HasCause a c p
  later_on x (Ok y) a b c first then = record { later = omega (arith, first.later, then.later); failed = tt }
  later_on x (Err e) a b c first then = record {
    later = omega (arith, first.later, then.later);
    failed = let up = then.failed in
        omega (arith, first.later, up);
  }

  stays_on : {T U E F : Type 0} (s m new : Stage R) (x : T) (p : Result U E) → Stays {E = F} r s m (Ok x) → Stays r m new p
      → Stays r s new p
  stays_on s m new x p first then = record {
    ready = then.ready;
    parts = parts_on s.scene.model m.scene.model new.scene.model first.parts then.parts;
    cause = later_on x p (r.faults s.recorder) (r.faults m.recorder) (r.faults new.recorder) first.cause then.cause;
    steady = then.steady ∙ first.steady;
  }

  -- the same answer, as `?` passes it on
  pub stays_err : {T U E : Type 0} (s new : Stage R) (e : E) (p : Result U E) → Stays {T = T} r s new (Err e) → IsErr p → Stays r s new p
  stays_err s new e (Ok y) a is = absurd (let no : false ≡ true = is in cc)
  stays_err s new e (Err f) a is = record { ready = a.ready; parts = a.parts; cause = record { later = a.cause.later; failed = a.cause.failed }; steady = a.steady }

  pub stays_ok : {T U E F : Type 0} (s new : Stage R) (x : T) (y : U) → Stays {E = E} r s new (Ok x) → Stays {E = F} r s new (Ok y)
  stays_ok s new x y a = record { ready = a.ready; parts = a.parts; cause = record { later = a.cause.later; failed = tt }; steady = a.steady }

  -- one operation, and its event as the recorder took it
  pub follows_one : {E : Type 0} (s new : Scene) (old rec : R) (before after : Tally) (op : Op) (event : Event)
      (result : Result (Unit {0}) E)
      → IsReady new.model new.adapters new.device → IsSameChip s.model new.model → Performs s new op event
      → OnOk result (r.takes old new.model event rec) → OnOk result (after ≡ counted before event)
      → OnErr result (r.breaks old new.model event rec)
      → HasCause (r.faults old) (r.faults rec) result → r.steady rec ≡ r.steady old
      → Follows r (record { scene = s; recorder = old }) (record { scene = new; recorder = rec }) before after (step op stop) result
  follows_one s new old rec before after op event result ready parts performs took counts broke cause steady = record {
    walks = walks_one r.takes r.breaks old rec s new before after op new.model event result
        (record { performs = performs; model = refl }) took counts broke;
    stays = record { ready = ready; parts = parts; cause = cause; steady = steady };
  }

  -- one that broke off, as `?` passes it on
  pub follows_err : {T U E : Type 0} (s new : Stage R) (t0 t1 t2 : Tally) (p : Plan) (e : E) (result : Result U E)
      → Follows {T = T} r s new t0 t1 p (Err e) → IsErr result → Follows r s new t0 t2 p result
  follows_err s new t0 t1 t2 p e (Ok y) a is = absurd (let no : false ≡ true = is in cc)
  follows_err s new t0 t1 t2 p e (Err f) a is = record {
    walks = record { told = a.walks.told; handed = record { all = tt; part = a.walks.handed.part }; counts = tt; run = a.walks.run };
    stays = stays_err s new e (Err f) a.stays is;
  }

  -- nothing
  pub follows_none : {T E : Type 0} (s : Stage R) (tally : Tally) (x : T) → IsReady s.scene.model s.scene.adapters s.scene.device
      → Follows {E = E} r s s tally tally stop (Ok x)
  follows_none s tally x ready = record { walks = walks_none r.takes r.breaks s.recorder s.scene tally x; stays = stays_none s x ready }

  -- one plan after another
  pub follows_then : {T U E F : Type 0} (s m new : Stage R) (t0 t1 t2 : Tally) (p q : Plan) (x : T) (result : Result U E)
      → Follows {E = F} r s m t0 t1 p (Ok x) → Follows r m new t1 t2 q result → Follows r s new t0 t2 (followed_by p q) result
  follows_then s m new t0 t1 t2 p q x result a b = record {
    walks = walks_then r.takes r.breaks s.recorder m.recorder new.recorder s.scene m.scene new.scene t0 t1 t2 p q x result a.walks b.walks;
    stays = stays_on s m new x result a.stays b.stays;
  }

  -- one that broke off, whatever was to follow
  pub follows_broke : {T U E : Type 0} (s new : Stage R) (t0 t1 t2 : Tally) (p q : Plan) (e : E) (result : Result U E)
      → Follows {T = T} r s new t0 t1 p (Err e) → IsErr result → Follows r s new t0 t2 (followed_by p q) result
  follows_broke s new t0 t1 t2 p q e result a is = record {
    walks = walks_broke r.takes r.breaks s.recorder new.recorder s.scene new.scene t0 t1 t2 p q e result a.walks is;
    stays = stays_err s new e result a.stays is;
  }

  -- a plan that is the same
  pub follows_same : {T E : Type 0} (s new : Stage R) (t0 t1 : Tally) (p q : Plan) (result : Result T E) → p ≡ q
      → Follows r s new t0 t1 p result → Follows r s new t0 t1 q result
  follows_same s new t0 t1 p q result e a = record { walks = walks_same r.takes r.breaks s.recorder new.recorder s.scene new.scene t0 t1 p q result e a.walks; stays = a.stays }

  -- or does the same
  follows_alike : {T E : Type 0} (s new : Stage R) (t0 t1 : Tally) (p q : Plan) (result : Result T E) → Alike p q
      → Follows r s new t0 t1 p result → Follows r s new t0 t1 q result
  follows_alike s new t0 t1 p q result e a = record { walks = walks_alike r.takes r.breaks s.recorder new.recorder s.scene new.scene t0 t1 p q result e a.walks; stays = a.stays }

  pub follows_look : {T E : Type 0} (s new : Stage R) (t0 t1 : Tally) (f : ModelData → Plan) (result : Result T E)
      → Follows r s new t0 t1 (f s.scene.model) result → Follows r s new t0 t1 (look f) result
  follows_look s new t0 t1 f result a = record { walks = walks_look r.takes r.breaks s.recorder new.recorder s.scene new.scene t0 t1 f result a.walks; stays = a.stays }

  -- ---- for each number below a count

  done : {T E F : Type 0} {U : Type 0} (s new : Stage R) (t0 t1 : Tally) (p : Plan) (x : T) (y : U) → Follows {E = E} r s new t0 t1 p (Ok x)
      → Follows {E = F} r s new t0 t1 p (Ok y)
  done s new t0 t1 p x y a = record {
    walks = record { told = a.walks.told; handed = record { all = a.walks.handed.all; part = tt }; counts = a.walks.counts; run = a.walks.run };
    stays = stays_ok s new x y a.stays;
  }

  -- a run went on by a plan, to its end
  abbrev pub WentOn : {D X : Type 0} {V : X → Type 0} → Device D → (before after : List Standing) → (run new : Running D R X V) → Plan → Type 0
  WentOn d before after run new p = GoesOn {T = Unit {0}} {E = Unit {0}} r d before after run new p (Ok tt)

  pub each_first : {D X : Type 0} {V : X → Type 0} (d : Device D) (adapters : List Standing) (run : Running D R X V) (f : ℕ → Plan)
      → IsReadyAt (stage_at d adapters run) → WentOn d adapters adapters run run (each_below 0 f)
  each_first d adapters run f ready = record { follows = follows_none (stage_at d adapters run) run.tally tt ready; same = same_run run }

  -- the one that comes next was followed
  pub each_more : {D X : Type 0} {V : X → Type 0} {T E : Type 0} (d : Device D) (before between after : List Standing) (run mid new : Running D R X V) (f : ℕ → Plan) (i : ℕ)
      (q : Plan) (x : T) → q ≡ f i → WentOn d before between run mid (each_below i f) → GoesOn {E = E} r d between after mid new q (Ok x)
      → WentOn d before after run new (each_below (i + 1) f)
  each_more d before between after run mid new f i q x same a b =
      let s = stage_at d before run in let m = stage_at d between mid in let n = stage_at d after new in
      record {
        follows = done s n run.tally new.tally (each_below (i + 1) f) x tt
            (follows_same s n run.tally new.tally (followed_by (each_below i f) q) (each_below (i + 1) f) (Ok x)
            (ap (followed_by (each_below i f)) same ∙ grown i f)
            (follows_then s m n run.tally mid.tally new.tally (each_below i f) q tt (Ok x) a.follows b.follows));
        same = same_on run mid new a.same b.same;
      }

  -- the one that comes next was left out
  pub each_skipped : {D X : Type 0} {V : X → Type 0} (d : Device D) (before after : List Standing) (run mid : Running D R X V) (f : ℕ → Plan) (i : ℕ)
      → f i ≡ stop → WentOn d before after run mid (each_below i f) → WentOn d before after run mid (each_below (i + 1) f)
  each_skipped d before after run mid f i out a =
      each_more {E = Unit {0}} d before after after run mid mid f i stop (tt {0}) (sym out) a
      (record { follows = follows_none (stage_at d after mid) mid.tally (tt {0}) a.follows.stays.ready; same = same_run mid })

  -- those that come next were left out
  each_passed : {D X : Type 0} {V : X → Type 0} (d : Device D) (before after : List Standing) (run mid : Running D R X V) (f : ℕ → Plan) (i gap : ℕ)
      → ((k : ℕ) → i ≤ k → k < i + gap → f k ≡ stop) → WentOn d before after run mid (each_below i f)
      → WentOn d before after run mid (each_below (i + gap) f)
  each_passed d before after run mid f i zero out a =
      subst (λ n. WentOn d before after run mid (each_below n f)) (let e : i ≡ i + 0 = omega arith in e) a
  each_passed d before after run mid f i (suc gap) out a =
      subst (λ n. WentOn d before after run mid (each_below n f)) (let e : i + gap + 1 ≡ i + suc gap = omega arith in e)
      (each_skipped d before after run mid f (i + gap) (out (i + gap) (omega arith) (omega arith))
      (each_passed d before after run mid f i gap (λ k from low. out k from (omega (arith, low))) a))

  -- up to a number
  pub each_up_to : {D X : Type 0} {V : X → Type 0} (d : Device D) (before after : List Standing) (run mid : Running D R X V) (f : ℕ → Plan) (i n : ℕ)
      → i ≤ n → ((k : ℕ) → i ≤ k → k < n → f k ≡ stop) → WentOn d before after run mid (each_below i f)
      → WentOn d before after run mid (each_below n f)
  each_up_to d before after run mid f i n low out a =
      subst (λ k. WentOn d before after run mid (each_below k f)) (let e : i + (n - i) ≡ n = omega (arith, low) in e)
      (each_passed d before after run mid f i (n - i) (λ k from under. out k from (omega (arith, low, under))) a)

  -- the one that comes next broke off
  pub each_broke : {D X : Type 0} {V : X → Type 0} {U W E : Type 0} (d : Device D) (before between after : List Standing) (run mid new : Running D R X V) (f : ℕ → Plan)
      (i n : ℕ) (q : Plan) (e : E) (result : Result W E) → q ≡ f i → i < n
      → WentOn d before between run mid (each_below i f) → GoesOn {T = U} r d between after mid new q (Err e) → IsErr result
      → GoesOn r d before after run new (each_below n f) result
  each_broke d before between after run mid new f i n q e result same low a b is =
      let s = stage_at d before run in let m = stage_at d between mid in let end = stage_at d after new in
      let both = follows_then s m end run.tally mid.tally new.tally (each_below i f) q tt (Err e) a.follows b.follows in
      let this = follows_same s end run.tally new.tally (followed_by (each_below i f) q) (followed_by (each_below i f) (f i)) (Err e)
      (ap (followed_by (each_below i f)) same) both in
      record {
        follows = record {
          walks = walks_below r.takes r.breaks s.recorder end.recorder s.scene end.scene run.tally new.tally new.tally f i n e result low
              this.walks is;
          stays = stays_err s end e result this.stays is;
        };
        same = same_on run mid new a.same b.same;
      }

  -- all of them were followed
  pub each_all : {D X : Type 0} {V : X → Type 0} {T E : Type 0} (d : Device D) (before after : List Standing) (run new : Running D R X V) (f : ℕ → Plan) (i n : ℕ) (x : T)
      → i ≡ n → WentOn d before after run new (each_below i f) → GoesOn {E = E} r d before after run new (each_below n f) (Ok x)
  each_all d before after run new f i n x same a =
      let s = stage_at d before run in let end = stage_at d after new in
      record {
        follows = follows_same s end run.tally new.tally (each_below i f) (each_below n f) (Ok x) (ap (λ k. each_below k f) same)
            (done s end run.tally new.tally (each_below i f) tt x a.follows);
        same = a.same;
      }

  -- by a plan that does the same
  pub goes_alike : {D X : Type 0} {V : X → Type 0} {T E : Type 0} (d : Device D) (before after : List Standing) (run new : Running D R X V) (p q : Plan) (result : Result T E)
      → Alike p q → GoesOn r d before after run new p result → GoesOn r d before after run new q result
  goes_alike d before after run new p q result alike a = record {
    follows = follows_alike (stage_at d before run) (stage_at d after new) run.tally new.tally p q result alike a.follows;
    same = a.same;
  }

  -- ---- a sequence

  -- its beginning, and then its walk
  pub then_walked : {T U E F : Type 0} (s m new : Stage R) (which : Sequence) (block : Option ℕ) (t0 t1 t2 : Tally) (x : T) (result : Result U E)
      → Follows {E = F} r s m t0 t1 (beginning_of which) (Ok x)
      → Follows r m new t1 t2 (walk which m.scene.model.chip m.scene.model.layout block) result
      → Follows r s new t0 t2 (plan_of which s.scene.model.chip s.scene.model.layout block) result
  then_walked s m new which block t0 t1 t2 x result begun walked =
      let same = same_plan (λ c l. walk which c l block) s.scene.model m.scene.model begun.stays.parts in
      follows_then s m new t0 t1 t2 (beginning_of which) (walk which s.scene.model.chip s.scene.model.layout block) x result begun
      (follows_same m new t1 t2 _ _ result same walked)

  pub sequence_ends : {T E : Type 0} (s new : Stage R) (which : Sequence) (block : Option ℕ) (before after : Tally) (x : T)
      → Follows {E = E} r s new before after (plan_of which s.scene.model.chip s.scene.model.layout block) (Ok x) → before ≡ no_tally
      → IsRunOf {E = E} r which block s new (Ok after)
  sequence_ends s new which block before after x a none = record {
    hands_over = sequence_done r.takes r.breaks s.recorder new.recorder s.scene new.scene before after _ x a.walks none;
    stays = stays_ok s new x after a.stays;
  }

  pub sequence_breaks : {T E : Type 0} (s new : Stage R) (which : Sequence) (block : Option ℕ) (before after : Tally) (e : E)
      (result : Result Tally E)
      → Follows {T = T} r s new before after (plan_of which s.scene.model.chip s.scene.model.layout block) (Err e) → IsErr result
      → IsRunOf r which block s new result
  sequence_breaks s new which block before after e result a is = record {
    hands_over = sequence_broke r.takes r.breaks s.recorder new.recorder s.scene new.scene before after _ e result a.walks is;
    stays = stays_err s new e result a.stays is;
  }
