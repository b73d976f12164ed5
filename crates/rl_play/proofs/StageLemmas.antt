-- What lines leave of the stage that they are run on.
use Rattle.std.proofs.Common.{◌≡◌, ℕ, ◌≤◌, List, Option, Some, None, Result, Ok, Err, OnErr, option_map, refl, sym, ap, ◌∙◌, subst, arith}
use Rattle.std.specs.Option.{ok_or}
use Rattle.rl_access.specs.Model.{ModelData, IsReady}
use Rattle.rl_bus.specs.Causes.{Rose}
use Rattle.rl_bus.specs.Standing.{Standing}
use Rattle.rl_bus.specs.State.{State}
use Rattle.rl_bus.specs.declared.device.Device.{Ghosts as Device}
use Rattle.rl_bus.specs.declared.device.Failed.{Failed}
use Rattle.rl_log.specs.Entry.{with_both}
use Rattle.rl_log.specs.declared.refusal.LineRefusal.{LineRefusal}
use Rattle.rl_log.specs.declared.refusal.LineRefusal.TheVariants.{NoSuchName}
use Rattle.rl_play.specs.AnyDevice.{Point, RunsOn}
use Rattle.rl_play.specs.Leaves.{StaysReady}
use Rattle.rl_play.specs.Stage.{CanRun, StaysOn}
use Rattle.rl_play.specs.Work.{Work}
use Rattle.rl_play.specs.declared.line.Stage.{Stage}
use Rattle.rl_play.proofs.LineLemmas.{GoesAs}
use Rattle.rl_report.specs.Pieces.{SinkStays}
use Rattle.rl_report.specs.declared.sink.Sink.{Ghosts as Sink}

-- ---- nothing was done

pub ready_still : (m : ModelData) (adapters : List Standing) (state : Option State) → IsReady m adapters state
    → StaysReady m m adapters state
ready_still m adapters state ready = record { ready = ready; parts = record { chip = refl; layout = refl } }

pub sink_still : {K T E : Type 0} (k : Sink K) (out : K) (x : T) → SinkStays {E = E} k out out (Ok x)
sink_still k out x = record { cause = record { later = omega arith; failed = tt }; ends = refl; target = refl }

pub stage_still : {D K X T E : Type 0} {V : X → Type 0} (d : Device D) (k : Sink K) (adapters : List Standing) (stage : Stage D K X V)
    (x : T) → CanRun d adapters stage → StaysOn {E = E} d k adapters stage stage (Ok x)
stage_still d k adapters stage x ready = record {
  ready = ready_still stage.model.now adapters (d.state stage.device.now) ready;
  sink = sink_still k stage.out.now x;
  same = record { model = refl; device = refl; adapters = refl; out = refl; counts = refl };
}

-- ---- it went as its work did

pub sink_as : {K T : Type 0} (k : Sink K) (old new : K) (work : Result T Failed) (r : Result (Option LineRefusal) Failed)
    → GoesAs work r → SinkStays k old new work → SinkStays k old new r
sink_as k old new (Ok x) r so h = subst (SinkStays k old new) (sym so) (record {
  cause = record { later = h.cause.later; failed = tt };
  ends = h.ends;
  target = h.target;
})
sink_as k old new (Err e) r so h = subst (SinkStays k old new) (sym so) (record {
  cause = record { later = h.cause.later; failed = h.cause.failed };
  ends = h.ends;
  target = h.target;
})

pub stage_as : {D K X T : Type 0} {V : X → Type 0} (d : Device D) (k : Sink K) (adapters : List Standing) (stage new : Stage D K X V)
    (work : Result T Failed) (r : Result (Option LineRefusal) Failed) → GoesAs work r → StaysOn d k adapters stage new work
    → StaysOn d k adapters stage new r
stage_as d k adapters stage new work r so h =
    record { ready = h.ready; sink = sink_as k stage.out.now new.out.now work r so h.sink; same = h.same }

-- ---- one call after another

on_err : {T E : Type 0} (r : Result T E) (P : Type 0) → P → OnErr r P
on_err (Ok x) P h = tt
on_err (Err e) P h = h

rose_later : {T E : Type 0} (r : Result T E) (a b c : ℕ) → a ≤ b → OnErr r (Rose b c) → OnErr r (Rose a c)
rose_later (Ok x) a b c later h = tt
rose_later (Err e) a b c later h = omega (arith, later, h)

pub sink_then : {K S T E F : Type 0} (k : Sink K) (old mid new : K) (first : Result S E) (r : Result T F)
    → SinkStays k old mid first → SinkStays k mid new r → SinkStays k old new r
sink_then k old mid new first r h then = record {
  cause = record {
    later = omega (arith, h.cause.later, then.cause.later);
    failed = rose_later r (k.faults old) (k.faults mid) (k.faults new) h.cause.later then.cause.failed;
  };
  ends = then.ends ∙ h.ends;
  target = then.target ∙ h.target;
}

-- what failed is answered
pub sink_failed : {K S T E F : Type 0} (k : Sink K) (old new : K) (failed : E) (r : Result T F)
    → SinkStays {T = S} k old new (Err failed) → SinkStays k old new r
sink_failed k old new failed r h = record {
  cause = record { later = h.cause.later; failed = on_err r (Rose (k.faults old) (k.faults new)) h.cause.failed };
  ends = h.ends;
  target = h.target;
}

-- ---- names that aren't there

pub none_of : {A : Type 0} (o : Option A) → ((x : A) → o ≡ Some x → ⊥) → o ≡ None
none_of None h = refl
none_of (Some x) h = absurd (h x refl)

pub name_missing : {A : Type 0} (named : Option A) (make : A → Work) (p : Point) → named ≡ None
    → RunsOn (ok_or (option_map make named) NoSuchName) p p (Ok (Some NoSuchName))
name_missing named make p none = (ap (λ o. ok_or (option_map make o) NoSuchName) none, refl)

pub number_missing : (number : Option ℕ) (map : Option (Option ℕ)) (make : ℕ → Option ℕ → Work) (p : Point) → number ≡ None
    → RunsOn (ok_or (with_both number map make) NoSuchName) p p (Ok (Some NoSuchName))
number_missing number map make p none = (ap (λ o. ok_or (with_both o map make) NoSuchName) none, refl)

pub map_missing : (number : Option ℕ) (map : Option (Option ℕ)) (make : ℕ → Option ℕ → Work) (p : Point) (i : ℕ) → number ≡ Some i
    → map ≡ None → RunsOn (ok_or (with_both number map make) NoSuchName) p p (Ok (Some NoSuchName))
map_missing number map make p i is none =
    (ap (λ o. ok_or (with_both o map make) NoSuchName) is ∙ ap (λ o. ok_or (option_map (make i) o) NoSuchName) none, refl)
