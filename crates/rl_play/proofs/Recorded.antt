-- The events of operations, bursts and sequences, as they were written and counted.
use Rattle.std.proofs.Common.{◌≡◌, ℕ, List, [], ◌∷◌, ◌++◌, Option, Result, Ok, Err, OnOk, OnErr, refl, sym, subst, append_assoc, append-nil, ap, ◌∙◌}
use Rattle.std.specs.Io.KnownBytes.{Appends}
use Rattle.std.proofs.KnownBytes.{Appends-nil, Appends-trans}
use Rattle.rl_access.specs.declared.event.Event.{Event}
use Rattle.rl_access.specs.declared.event.Op.{Op}
use Rattle.rl_access.specs.declared.event.Tally.{Tally}
use Rattle.rl_access.specs.Call.{Scene, Performs}
use Rattle.rl_access.specs.HandsOver.{Told, TakesAll, BreaksAtLast}
use Rattle.rl_access.specs.Model.{ModelData, IsReady, IsSameChip}
use Rattle.rl_access.specs.Rules.{Grant}
use Rattle.rl_access.specs.Runs.{IsBurst, no_tally, counted_all}
use Rattle.rl_seq.specs.Plan.{Plan, IsSequence}
use Rattle.rl_report.specs.declared.sink.Sink.{Ghosts as Sink}
use Rattle.rl_report.specs.Event.{event_text}
use Rattle.rl_report.specs.Pieces.{AppendsFront}
use Rattle.rl_report.proofs.PieceLemmas.{front_after, front_before}
use Rattle.rl_log.specs.declared.counts.Counts.{Counts}
use Rattle.rl_log.specs.Recording.{with_events, told_text, events_text}
use Rattle.rl_bus.specs.Causes.{HasCause}
use Rattle.rl_play.specs.AnyDevice.{AppendsToLast, Logs, LogsInTurn, Point}
use Rattle.rl_play.specs.Work.{Work, Does, BreaksOff, planned, burst, single}
use Rattle.rl_play.specs.Recording.{IsWritten, IsBegun}
use Rattle.rl_play.specs.Stage.{IsRecorded}
use Rattle.rl_play.specs.declared.recorder.Writing.{Writing}

pub events_append : (told more : List Told) → events_text (told ++ more) ≡ events_text told ++ events_text more
events_append [] more = refl
events_append (t ∷ told) more =
    ap (λ l. told_text t ++ l) (events_append told more) ∙ sym
    (append_assoc (told_text t) (events_text told) (events_text more))

abbrev point : Scene → Option (List ℕ) → Counts → Point
point s text counts = record { scene = s; text = text; counts = counts }

-- ---- one operation

one_text : (m : ModelData) (e : Event) → event_text m e ≡ events_text (record { model = m; event = e } ∷ [])
one_text m e = sym (append-nil (event_text m e))

pub op_logged : {T E : Type 0} (s new : Scene) (op : Op) (e : Event) (old text : Option (List ℕ)) (counts after : Counts)
    (r : Result T E) → Performs s new op e → OnOk r (IsWritten old text counts after new.model e)
    → OnErr r (IsBegun old text counts after new.model e) → Logs (single op) (point s old counts) (point new text after) r
op_logged s new op e old text counts after (Ok x) p whole part = record {
  told = record { model = new.model; event = e } ∷ [];
  run = (new, record { performs = p; model = refl }, refl);
  whole = subst (Appends old text) (one_text new.model e) whole.text;
  part = tt;
  counted = whole.counted;
}
op_logged s new op e old text counts after (Err x) p whole part = record {
  told = record { model = new.model; event = e } ∷ [];
  run = record { performs = p; model = refl };
  whole = tt;
  part = subst (AppendsFront old text) (one_text new.model e) part.text;
  counted = part.counted;
}

-- ---- by the recorder

module _ {R : Type 0} (written : R → Option (List ℕ)) (counts : R → Counts) where
  abbrev Takes : R → ModelData → Event → R → Type 0
  Takes old m e new = IsWritten (written old) (written new) (counts old) (counts new) m e

  abbrev Breaks : R → ModelData → Event → R → Type 0
  Breaks old m e new = IsBegun (written old) (written new) (counts old) (counts new) m e

  all_written : (told : List Told) (old new : R) → TakesAll Takes old told new → Appends (written old) (written new)
      (events_text told)
  all_written [] old new h = subst (λ r. Appends (written old) (written r) []) (sym h) (Appends-nil (written old))
  all_written (t ∷ told) old new (mid, first, rest) =
      Appends-trans (written old) (written mid) (written new) (told_text t) (events_text told) first.text
      (all_written told mid new rest)

  all_counted : (told : List Told) (old new : R) → TakesAll Takes old told new → counts new ≡ with_events (counts old) told
  all_counted [] old new h = ap counts h
  all_counted (t ∷ told) old new (mid, first, rest) = all_counted told mid new rest ∙ ap
      (λ c. with_events c told) first.counted

  last_begun : (told : List Told) (old new : R) → BreaksAtLast Takes Breaks old told new → AppendsFront (written old)
      (written new) (events_text told)
  last_begun [] old new h = absurd h
  last_begun (t ∷ []) old new h = front_before (written old) (written new) (told_text t) [] h.text
  last_begun (t ∷ u ∷ told) old new (mid, first, rest) =
      front_after (written old) (written mid) (written new) (told_text t) (events_text (u ∷ told)) first.text
      (last_begun (u ∷ told) mid new rest)

  -- each was written before the next one
  last_in_turn : (told : List Told) (old new : R) → BreaksAtLast Takes Breaks old told new
      → AppendsToLast (written old) (written new) told
  last_in_turn [] old new h = absurd h
  last_in_turn (t ∷ []) old new h =
      record { whole = []; last = t; split = refl; mid = written old; written = Appends-nil (written old); cut = h.text }
  last_in_turn (t ∷ u ∷ told) old new (mid, first, rest) =
      let others = last_in_turn (u ∷ told) mid new rest in
      record {
        whole = t ∷ others.whole;
        last = others.last;
        split = ap (λ l. t ∷ l) others.split;
        mid = others.mid;
        written = Appends-trans (written old) (written mid) others.mid (told_text t) (events_text others.whole) first.text
            others.written;
        cut = others.cut;
      }

  last_counted : (told : List Told) (old new : R) → BreaksAtLast Takes Breaks old told new → counts new ≡ with_events
      (counts old) told
  last_counted [] old new h = absurd h
  last_counted (t ∷ []) old new h = h.counted
  last_counted (t ∷ u ∷ told) old new (mid, first, rest) = last_counted (u ∷ told) mid new rest ∙ ap
      (λ c. with_events c (u ∷ told)) first.counted

  abbrev at : Scene → R → Point
  at s r = point s (written r) (counts r)

  -- ---- all of its events were recorded, or it broke off at the last of them

  all_logged : {E : Type 0} (work : Work) (s new : Scene) (old rec : R) (told : List Told) (tally : Tally) → Does work s told new
      → TakesAll Takes old told rec → tally ≡ counted_all no_tally told
      → LogsInTurn {E = E} work (at s old) (at new rec) (Ok tally)
  all_logged work s new old rec told tally run taken counted = record {
    tallied = record {
      logs = record {
        told = told;
        run = run;
        whole = all_written told old rec taken;
        part = tt;
        counted = all_counted told old rec taken;
      };
      tally = counted;
    };
    in_turn = tt;
  }

  cut_logged : {E : Type 0} (work : Work) (s new : Scene) (old rec : R) (told : List Told) (e : E) → BreaksOff work s told new
      → BreaksAtLast Takes Breaks old told rec → LogsInTurn work (at s old) (at new rec) (Err e)
  cut_logged work s new old rec told e run taken = record {
    tallied = record {
      logs = record {
        told = told;
        run = run;
        whole = tt;
        part = last_begun told old rec taken;
        counted = last_counted told old rec taken;
      };
      tally = tt;
    };
    in_turn = last_in_turn told old rec taken;
  }

  -- ---- a sequence

  sequence_logged : {E : Type 0} (p : Plan) (s new : Scene) (old rec : R) (r : Result Tally E)
      → IsSequence Takes Breaks old rec s new p r → LogsInTurn (planned p) (at s old) (at new rec) r
  sequence_logged p s new old rec (Ok tally) q =
      all_logged (planned p) s new old rec q.told tally q.run q.handed.all q.counts
  sequence_logged p s new old rec (Err e) q = cut_logged (planned p) s new old rec q.told e q.run q.handed.part

  -- ---- a burst

  -- the one event of a burst that is refused as a whole
  abbrev alone : Scene → Event → List Told
  alone s event = record { model = s.model; event = event } ∷ []

  burst_logged : {E : Type 0} (granted : Grant) (op : Op) (ops : List Op) (s new : Scene) (old rec : R)
      (r : Result Tally E) → IsBurst Takes Breaks old rec s new granted op ops r
      → LogsInTurn (burst granted op ops) (at s old) (at new rec) r
  burst_logged (Ok place) op ops s new old rec (Ok tally) q =
      all_logged (burst (Ok place) op ops) s new old rec q.told tally q.run.0 q.handed.all q.run.1
  burst_logged (Ok place) op ops s new old rec (Err e) q =
      cut_logged (burst (Ok place) op ops) s new old rec q.told e q.run q.handed.part
  burst_logged (Err why) op ops s new old rec (Ok tally) q =
      all_logged (burst (Err why) op ops) s new old rec (alone s q.event) tally
      (record { event = q.event; refused = q.refused; told_is = refl }) q.handed.all q.tally
  burst_logged (Err why) op ops s new old rec (Err e) q =
      cut_logged (burst (Err why) op ops) s new old rec (alone s q.event) e
      (record { event = q.event; refused = q.refused; told_is = refl }) q.handed.part

-- ---- by one that counts the events, and writes them to a sink

module _ {K : Type 0} (k : Sink K) where
  abbrev told_by : Writing K → Option (List ℕ)
  told_by rec = k.written rec.sink.now

  abbrev counted_by : Writing K → Counts
  counted_by rec = rec.counts

  abbrev steady : Writing K → List ℕ
  steady rec = rec.sink.ghost_name ∷ k.ends rec.sink.now ∷ k.target rec.sink.now ∷ []

  pub sequence_recorded : {E : Type 0} (p : Plan) (s new : Scene) (old rec : Writing K) (r : Result Tally E)
      → IsSequence (Takes told_by counted_by) (Breaks told_by counted_by) old rec s new p r
      → IsReady new.model new.adapters new.device → IsSameChip s.model new.model
      → HasCause (k.faults old.sink.now) (k.faults rec.sink.now) r → steady rec ≡ steady old
      → IsRecorded k (planned p) (at told_by counted_by s old) (at told_by counted_by new rec) old rec r
  sequence_recorded p s new old rec r q ready parts cause same = record {
    logs = sequence_logged told_by counted_by p s new old rec r q;
    ready = ready;
    parts = parts;
    cause = cause;
    steady = same;
  }

  pub burst_recorded : {E : Type 0} (granted : Grant) (op : Op) (ops : List Op) (s new : Scene) (old rec : Writing K)
      (r : Result Tally E) → IsBurst (Takes told_by counted_by) (Breaks told_by counted_by) old rec s new granted op ops r
      → IsReady new.model new.adapters new.device → new.model ≡ s.model
      → HasCause (k.faults old.sink.now) (k.faults rec.sink.now) r → steady rec ≡ steady old
      → IsRecorded k (burst granted op ops) (at told_by counted_by s old) (at told_by counted_by new rec) old rec r
  burst_recorded granted op ops s new old rec r q ready model cause same = record {
    logs = burst_logged told_by counted_by granted op ops s new old rec r q;
    ready = ready;
    parts = record { chip = ap (λ m. m.chip) model; layout = ap (λ m. m.layout) model };
    cause = cause;
    steady = same;
  }
