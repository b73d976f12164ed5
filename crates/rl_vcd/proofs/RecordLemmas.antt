-- The events of operations, bursts and sequences, as they were drawn, written and counted.
use Rattle.std.proofs.Common.{◌≡◌, ℕ, List, [], ◌∷◌, Option, Result, Ok, Err, refl, sym, subst, ap, ◌∙◌}
use Rattle.std.specs.Io.KnownBytes.{Appends}
use Rattle.std.proofs.KnownBytes.{Appends-nil, Appends-trans}
use Rattle.rl_access.specs.declared.event.Event.{Event}
use Rattle.rl_access.specs.declared.event.Op.{Op}
use Rattle.rl_access.specs.declared.event.Tally.{Tally}
use Rattle.rl_access.specs.Call.{Scene}
use Rattle.rl_access.specs.HandsOver.{Told, TakesAll, BreaksAtLast}
use Rattle.rl_access.specs.Model.{ModelData}
use Rattle.rl_access.specs.Rules.{Grant}
use Rattle.rl_access.specs.Runs.{IsBurst, no_tally, counted_all}
use Rattle.rl_bus.specs.Causes.{HasCause}
use Rattle.rl_log.specs.Recording.{with_events, told_text, events_text}
use Rattle.rl_play.specs.AnyDevice.{Point}
use Rattle.rl_play.specs.Work.{Work, Does, BreaksOff, planned, burst}
use Rattle.rl_play.specs.Recording.{IsWritten, IsBegun}
use Rattle.rl_report.specs.declared.sink.Sink.{Ghosts as Sink}
use Rattle.rl_report.specs.Pieces.{AppendsFront, SinkStays}
use Rattle.rl_report.proofs.PieceLemmas.{front_after, front_before}
use Rattle.rl_seq.specs.Plan.{Plan, IsSequence}
use Rattle.rl_vcd.specs.declared.dump.Dump.{Dump}
use Rattle.rl_vcd.specs.declared.recorder.Drawing.{Drawing}
use Rattle.rl_vcd.specs.Lines.{DrawsTallied}
use Rattle.rl_vcd.specs.Noted.{Notes}

module _ {L K : Type 0} (log : Sink L) (sink : Sink K) where
  abbrev pub told : Drawing L K → Option (List ℕ)
  told r = log.written r.log.now

  abbrev pub Takes : Drawing L K → ModelData → Event → Drawing L K → Type 0
  Takes old m e new = IsWritten (told old) (told new) old.counts new.counts m e × Notes sink old.dump.now m e new.dump.now

  abbrev pub Breaks : Drawing L K → ModelData → Event → Drawing L K → Type 0
  Breaks old m e new = IsBegun (told old) (told new) old.counts new.counts m e × Notes sink old.dump.now m e new.dump.now

  -- ---- what was written, counted and drawn

  abbrev Draws : List Told → (old new : Drawing L K) → Type 0
  Draws events old new = (new.counts ≡ with_events old.counts events) × TakesAll (Notes sink) old.dump.now events new.dump.now

  all_taken : (events : List Told) (old new : Drawing L K) → TakesAll Takes old events new
      → Appends (told old) (told new) (events_text events) × Draws events old new
  all_taken [] old new h = (
    subst (λ (r : Drawing L K). Appends (told old) (told r) []) (sym h) (Appends-nil (told old)),
    (ap (λ (r : Drawing L K). r.counts) h, ap (λ (r : Drawing L K). r.dump.now) h),
  )
  all_taken (t ∷ events) old new (mid, first, rest) =
      let others = all_taken events mid new rest in (
        Appends-trans (told old) (told mid) (told new) (told_text t) (events_text events) first.0.text others.0,
        (others.1.0 ∙ ap (λ c. with_events c events) first.0.counted, (mid.dump.now, first.1, others.1.1)),
      )

  -- also the last one, at which the log failed
  last_broken : (events : List Told) (old new : Drawing L K) → BreaksAtLast Takes Breaks old events new
      → AppendsFront (told old) (told new) (events_text events) × Draws events old new
  last_broken [] old new h = absurd h
  last_broken (t ∷ []) old new h =
      (front_before (told old) (told new) (told_text t) [] h.0.text, (h.0.counted, (new.dump.now, h.1, refl)))
  last_broken (t ∷ u ∷ events) old new (mid, first, rest) =
      let others = last_broken (u ∷ events) mid new rest in (
        front_after (told old) (told mid) (told new) (told_text t) (events_text (u ∷ events)) first.0.text others.0,
        (others.1.0 ∙ ap (λ c. with_events c (u ∷ events)) first.0.counted, (mid.dump.now, first.1, others.1.1)),
      )

  -- ---- all of its events were recorded, or it broke off at the last of them

  abbrev at : Scene → Drawing L K → Point
  at s r = record { scene = s; text = told r; counts = r.counts }

  all_recorded : {E : Type 0} (work : Work) (s new : Scene) (old rec : Drawing L K) (events : List Told) (tally : Tally)
      → Does work s events new → TakesAll Takes old events rec → tally ≡ counted_all no_tally events
      → DrawsTallied {E = E} sink work (at s old) (at new rec) old.dump.now rec.dump.now (Ok tally)
  all_recorded work s new old rec events tally run taken counted =
      let r = all_taken events old rec taken in
      record {
        logs = record {
          logs = record { told = events; run = run; whole = r.0; part = tt; counted = r.1.0 };
          tally = counted;
        };
        drawn = r.1.1;
      }

  cut_recorded : {E : Type 0} (work : Work) (s new : Scene) (old rec : Drawing L K) (events : List Told) (e : E)
      → BreaksOff work s events new → BreaksAtLast Takes Breaks old events rec
      → DrawsTallied sink work (at s old) (at new rec) old.dump.now rec.dump.now (Err e)
  cut_recorded work s new old rec events e run taken =
      let r = last_broken events old rec taken in
      record {
        logs = record {
          logs = record { told = events; run = run; whole = tt; part = r.0; counted = r.1.0 };
          tally = tt;
        };
        drawn = r.1.1;
      }

  pub sequence_drawn : {E : Type 0} (p : Plan) (s new : Scene) (old rec : Drawing L K) (r : Result Tally E)
      → IsSequence Takes Breaks old rec s new p r
      → DrawsTallied sink (planned p) (at s old) (at new rec) old.dump.now rec.dump.now r
  sequence_drawn p s new old rec (Ok tally) q =
      all_recorded (planned p) s new old rec q.told tally q.run q.handed.all q.counts
  sequence_drawn p s new old rec (Err e) q = cut_recorded (planned p) s new old rec q.told e q.run q.handed.part

  -- the one event of a burst that is refused as a whole
  abbrev alone : Scene → Event → List Told
  alone s event = record { model = s.model; event = event } ∷ []

  pub burst_drawn : {E : Type 0} (granted : Grant) (op : Op) (ops : List Op) (s new : Scene) (old rec : Drawing L K)
      (r : Result Tally E) → IsBurst Takes Breaks old rec s new granted op ops r
      → DrawsTallied sink (burst granted op ops) (at s old) (at new rec) old.dump.now rec.dump.now r
  burst_drawn (Ok place) op ops s new old rec (Ok tally) q =
      all_recorded (burst (Ok place) op ops) s new old rec q.told tally q.run.0 q.handed.all q.run.1
  burst_drawn (Ok place) op ops s new old rec (Err e) q =
      cut_recorded (burst (Ok place) op ops) s new old rec q.told e q.run q.handed.part
  burst_drawn (Err why) op ops s new old rec (Ok tally) q =
      all_recorded (burst (Err why) op ops) s new old rec (alone s q.event) tally
      (record { event = q.event; refused = q.refused; told_is = refl }) q.handed.all q.tally
  burst_drawn (Err why) op ops s new old rec (Err e) q =
      cut_recorded (burst (Err why) op ops) s new old rec (alone s q.event) e
      (record { event = q.event; refused = q.refused; told_is = refl }) q.handed.part

  abbrev pub steady : Drawing L K → List ℕ
  steady r = r.log.ghost_name ∷ log.ends r.log.now ∷ log.target r.log.now ∷ r.dump.ghost_name ∷ []

-- ---- what no step changes

pub steady_log : (a b c d e f g h : ℕ) → a ∷ b ∷ c ∷ d ∷ [] ≡ e ∷ f ∷ g ∷ h ∷ [] → a ≡ e
steady_log a b c d e f g h is = cc

pub steady_dump : (a b c d e f g h : ℕ) → a ∷ b ∷ c ∷ d ∷ [] ≡ e ∷ f ∷ g ∷ h ∷ [] → d ≡ h
steady_dump a b c d e f g h is = cc

steady_both : (a b c d e f g h : ℕ) → a ∷ b ∷ c ∷ d ∷ [] ≡ e ∷ f ∷ g ∷ h ∷ [] → (b ≡ f) × (c ≡ g)
steady_both a b c d e f g h is = (cc, cc)

-- the log, where a call was handed a recorder
pub log_stays : {L T E : Type 0} (log : Sink L) (old new : L) (m n x y : ℕ) (r : Result T E) → HasCause (log.faults old) (log.faults new) r
    → m ∷ log.ends new ∷ log.target new ∷ x ∷ [] ≡ n ∷ log.ends old ∷ log.target old ∷ y ∷ [] → SinkStays log old new r
log_stays log old new m n x y r cause same =
    let both = steady_both _ _ _ _ _ _ _ _ same in
    record { cause = cause; ends = both.0; target = both.1 }
