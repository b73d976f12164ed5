-- A dump, event by event and as a whole.
use Rattle.std.proofs.Common.{◌≡◌, ℕ, Bool, true, false, List, [], ◌∷◌, ◌++◌, Some, None, is_some, IsNone, IsSome, refl, sym, ap, subst, ◌∙◌, append_assoc, append-nil, arith}
use Rattle.std.specs.declared.option.Option.{Option}
use Rattle.std.specs.Io.KnownBytes.{Appends, append_known}
use Rattle.std.proofs.KnownBytes.{Appends-kept, Appends-trans, Keeps-refl}
use Rattle.std.proofs.lemmas.Bool.{true≢false}
use Rattle.std.proofs.lemmas.List.{append_cancel_left}
use Rattle.rl_map.specs.Layout.{LayoutData}
use Rattle.rl_access.specs.declared.event.Event.{Event}
use Rattle.rl_access.specs.HandsOver.{Told, TakesAll}
use Rattle.rl_access.specs.Model.{ModelData}
use Rattle.rl_report.specs.Pieces.{AppendsFront}
use Rattle.rl_report.specs.declared.sink.Sink.{Ghosts as Sink}
use Rattle.rl_report.proofs.PieceLemmas.{front_before}
use Rattle.rl_log.proofs.KnownLemmas.{front_none}
use Rattle.rl_vcd.specs.declared.dump.Dump.{Dump}
use Rattle.rl_vcd.specs.declared.dump.Fault.{Fault}
use Rattle.rl_vcd.specs.declared.dump.Fault.TheVariants.{Sink as SinkFailed}
use Rattle.rl_vcd.specs.Drawn.{EventsRunOut, RunsOut, cycle_behind_event, cycle_behind_events, dump_text, event_drawn, events_drawn}
use Rattle.rl_vcd.specs.Dump.{header_text}
use Rattle.rl_vcd.specs.Items.{buses_of}
use Rattle.rl_vcd.specs.Noted.{Closes, HasEvents, IsDumpOf, Notes, told_of}
use Rattle.rl_vcd.specs.Told.{told}

-- ---- the text of events

drawn_both : (events more : List Told) (n : ℕ)
    → events_drawn (events ++ more) n ≡ events_drawn events n ++ events_drawn more (cycle_behind_events events n)
drawn_both [] more n = refl
drawn_both (t ∷ events) more n =
    ap (λ l. event_drawn t n ++ l) (drawn_both events more (cycle_behind_event t n))
    ∙ sym (append_assoc (event_drawn t n) (events_drawn events (cycle_behind_event t n))
    (events_drawn more (cycle_behind_events events (cycle_behind_event t n))))

cycles_of_both : (events more : List Told) (n : ℕ)
    → cycle_behind_events (events ++ more) n ≡ cycle_behind_events more (cycle_behind_events events n)
cycles_of_both [] more n = refl
cycles_of_both (t ∷ events) more n = cycles_of_both events more (cycle_behind_event t n)

-- the text of one event more
more_text : (l : LayoutData) (events : List Told) (t : Told) (n : ℕ) → n ≡ cycle_behind_events events 1
    → dump_text l events ++ event_drawn t n ≡ dump_text l (events ++ t ∷ [])
more_text l events t n is =
    append_assoc (header_text (buses_of l)) (events_drawn events 1) (event_drawn t n)
    ∙ ap (λ m. header_text (buses_of l) ++ (events_drawn events 1 ++ event_drawn t m)) is
    ∙ ap (λ x. header_text (buses_of l) ++ (events_drawn events 1 ++ x)) (sym (append-nil (event_drawn t (cycle_behind_events events 1))))
    ∙ ap (λ x. header_text (buses_of l) ++ x) (sym (drawn_both events (t ∷ []) 1))

text_of_more : (l : LayoutData) (events more : List Told)
    → dump_text l (events ++ more) ≡ dump_text l events ++ events_drawn more (cycle_behind_events events 1)
text_of_more l events more =
    ap (λ x. header_text (buses_of l) ++ x) (drawn_both events more 1)
    ∙ sym (append_assoc (header_text (buses_of l)) (events_drawn events 1) (events_drawn more (cycle_behind_events events 1)))

-- ---- what was written of it

-- a front was written of what is kept back and of more, where the whole was told until then
front_on : (start w v : Option (List ℕ)) (kept text more : List ℕ) → Appends start (append_known w kept) text → AppendsFront start w text
    → AppendsFront w v (kept ++ more) → AppendsFront start v (text ++ more)
front_on None w v kept text more told f g = record { front = []; rest = text ++ more; split = refl; appended = tt }
front_on (Some xs) None v kept text more told f g = absurd f.appended
front_on (Some xs) (Some ys) None kept text more told f g = absurd g.appended
front_on (Some xs) (Some ys) (Some zs) kept text more told f g =
    let held : f.front ++ kept ≡ text =
    append_cancel_left xs (f.front ++ kept) text (sym (append_assoc xs f.front kept) ∙ ap (λ l. l ++ kept) (sym f.appended) ∙ told) in
    record {
      front = f.front ++ g.front;
      rest = g.rest;
      split = append_assoc f.front g.front g.rest ∙ ap (λ l. f.front ++ l) g.split ∙ sym (append_assoc f.front kept more)
          ∙ ap (λ l. l ++ more) held;
      appended = g.appended ∙ ap (λ l. l ++ g.front) f.appended ∙ append_assoc xs f.front g.front;
    }

out_later : (events more : List Told) → EventsRunOut events 1 → EventsRunOut (events ++ more) 1
out_later events more h = record {
  done = h.done;
  last = h.last;
  others = h.others ++ more;
  split = sym (append_assoc h.done (h.last ∷ h.others) more) ∙ ap (λ l. l ++ more) h.split;
  out = h.out;
}

grown : (a : Option (List ℕ)) (bs : List ℕ) → Appends a (append_known a bs) bs
grown None bs = tt
grown (Some xs) bs = refl

-- ---- event by event

module _ {K : Type 0} (sink : Sink K) (l : LayoutData) where
  -- with no event yet
  pub begun : (d : Dump K) → d.wave.text.items ≡ header_text (buses_of l) → d.wave.cycle ≡ 1 → d.fault ≡ None
      → HasEvents sink d.sink l [] d
  begun d text first sound =
      let all : d.wave.text.items ≡ dump_text l [] = text ∙ sym (append-nil (header_text (buses_of l))) in
      record {
        whole = λ none. subst (λ x. Appends (sink.written d.sink) (told sink.written d) x) all (grown (sink.written d.sink) d.wave.text.items);
        cycle = λ none. first;
        front = front_none (sink.written d.sink) (sink.written d.sink) (dump_text l []) (Keeps-refl (sink.written d.sink));
        cause = λ is. absurd (cc);
        full = λ is. absurd (cc);
        later = omega arith;
        ends_kept = refl;
      }

  module _ (before : K) where
    -- an event more, as long as nothing went wrong
    noted_sound : (events : List Told) (m : ModelData) (e : Event) (old new : Dump K) → IsNone old.fault → Notes sink old m e new
        → HasEvents sink before l events old → HasEvents sink before l (events ++ told_of m e ∷ []) new
    noted_sound events m e old new sound n h =
        let t = told_of m e in
        let more = more_text l events t old.wave.cycle (h.cycle sound) in
        record {
          whole = λ none. subst (Appends (sink.written before) (told sink.written new)) more
              (Appends-trans (sink.written before) (told sink.written old) (told sink.written new) (dump_text l events)
              (event_drawn t old.wave.cycle) (h.whole sound) (n.drawn none));
          cycle = λ none. n.cycle none ∙ ap (cycle_behind_event t) (h.cycle sound) ∙ sym (cycles_of_both events (t ∷ []) 1);
          front = subst (AppendsFront (sink.written before) (sink.written new.sink)) more
              (front_on (sink.written before) (sink.written old.sink) (sink.written new.sink) old.wave.text.items (dump_text l events)
              (event_drawn t old.wave.cycle) (h.whole sound) h.front n.front);
          cause = λ is. omega (arith, h.later, n.cause sound is);
          full = λ is. record {
            done = events;
            last = t;
            others = [];
            split = refl;
            out = subst (RunsOut m.layout e.trace) (h.cycle sound) (n.full sound is);
          };
          later = omega (arith, h.later, n.later);
          ends_kept = n.ends_kept ∙ h.ends_kept;
        }

    -- and once something did
    noted_broken : (events : List Told) (t : Told) (d : Dump K) → IsSome d.fault → HasEvents sink before l events d
        → HasEvents sink before l (events ++ t ∷ []) d
    noted_broken events t d broken h = record {
      whole = λ none. absurd (true≢false (sym broken ∙ none));
      cycle = λ none. absurd (true≢false (sym broken ∙ none));
      front = subst (AppendsFront (sink.written before) (sink.written d.sink)) (sym (text_of_more l events (t ∷ [])))
          (front_before (sink.written before) (sink.written d.sink) (dump_text l events)
          (events_drawn (t ∷ []) (cycle_behind_events events 1)) h.front);
      cause = h.cause;
      full = λ is. out_later events (t ∷ []) (h.full is);
      later = h.later;
      ends_kept = h.ends_kept;
    }

    noted_by : (b : Bool) (events : List Told) (m : ModelData) (e : Event) (old new : Dump K) → is_some old.fault ≡ b → Notes sink old m e new
        → HasEvents sink before l events old → HasEvents sink before l (events ++ told_of m e ∷ []) new
    noted_by true events m e old new is n h =
        subst (HasEvents sink before l (events ++ told_of m e ∷ [])) (sym (n.silent is)) (noted_broken events (told_of m e) old is h)
    noted_by false events m e old new is n h = noted_sound events m e old new is n h

    -- events more
    pub noted_all : (more events : List Told) (old new : Dump K) → TakesAll (Notes sink) old more new → HasEvents sink before l events old
        → HasEvents sink before l (events ++ more) new
    noted_all [] events old new same h =
        subst (λ ts. HasEvents sink before l ts new) (sym (append-nil events)) (subst (HasEvents sink before l events) (sym same) h)
    noted_all (t ∷ more) events old new (mid, first, rest) h =
        subst (λ ts. HasEvents sink before l ts new) (append_assoc events (t ∷ []) more)
        (noted_all more (events ++ t ∷ []) mid new rest (noted_by (is_some old.fault) events t.model t.event old mid refl first h))

    -- ---- as a whole

    -- nothing went wrong until it was ended
    ended_sound : (events : List Told) (d : Dump K) (fault : Option Fault) (now : K) → IsNone d.fault → Closes sink d fault now
        → HasEvents sink before l events d → IsDumpOf sink before l events fault now
    ended_sound events d fault now sound c h = record {
      whole = λ none. Appends-kept (sink.written before) (told sink.written d) (sink.written now) (dump_text l events) (h.whole sound) (c.whole none);
      ended = λ none. omega (arith, h.ends_kept, c.ended none);
      front = subst (AppendsFront (sink.written before) (sink.written now)) (append-nil (dump_text l events))
          (front_on (sink.written before) (sink.written d.sink) (sink.written now) d.wave.text.items (dump_text l events) []
          (h.whole sound) h.front (subst (AppendsFront (sink.written d.sink) (sink.written now)) (sym (append-nil d.wave.text.items)) c.front));
      cause = λ is. omega (arith, h.later, c.cause sound is);
      full = λ is. let other : fault ≡ Some SinkFailed = c.only sound (ap is_some is) in absurd (cc);
    }

    ended_broken : (events : List Told) (d : Dump K) → IsSome d.fault → HasEvents sink before l events d
        → IsDumpOf sink before l events d.fault d.sink
    ended_broken events d broken h = record {
      whole = λ none. absurd (true≢false (sym broken ∙ none));
      ended = λ none. absurd (true≢false (sym broken ∙ none));
      front = h.front;
      cause = h.cause;
      full = h.full;
    }

    ended_by : (b : Bool) (events : List Told) (d : Dump K) (fault : Option Fault) (now : K) → is_some d.fault ≡ b
        → Closes sink d fault now → HasEvents sink before l events d → IsDumpOf sink before l events fault now
    ended_by true events d fault now is c h =
        let same = c.silent is in
        subst (λ f. IsDumpOf sink before l events f now) (sym same.0)
        (subst (IsDumpOf sink before l events d.fault) (sym same.1) (ended_broken events d is h))
    ended_by false events d fault now is c h = ended_sound events d fault now is c h

    -- a dump that has these events, once it was ended
    pub ended_all : (events : List Told) (d : Dump K) (fault : Option Fault) (now : K) → Closes sink d fault now
        → HasEvents sink before l events d → IsDumpOf sink before l events fault now
    ended_all events d fault now c h = ended_by (is_some d.fault) events d fault now refl c h
