-- A line, as its events were drawn, written and counted.
use Rattle.std.proofs.Common.{◌≡◌, ℕ, false, List, [], ◌∷◌, ◌++◌, Option, Some, None, Result, Ok, Err, IsErr, OnOk, OnErr, refl, sym, ap, subst, ◌∙◌, append-nil, inl, inr}
use Rattle.std.specs.Io.KnownBytes.{Appends}
use Rattle.std.proofs.KnownBytes.{Appends-nil, Appends-trans, Keeps-refl}
use Rattle.std.proofs.lemmas.Bool.{true≢false}
use Rattle.rl_access.specs.declared.event.Event.{Event}
use Rattle.rl_access.specs.declared.event.Op.{Op}
use Rattle.rl_access.specs.declared.event.Tally.{Tally}
use Rattle.rl_access.specs.Call.{Scene, Performs}
use Rattle.rl_access.specs.Model.{ModelData}
use Rattle.rl_access.specs.Rules.{Grant}
use Rattle.rl_access.specs.Runs.{no_tally, counted_all}
use Rattle.rl_bus.specs.declared.device.Failed.{Failed}
use Rattle.rl_log.specs.declared.counts.Counts.{Counts}
use Rattle.rl_log.specs.declared.refusal.LineRefusal.{LineRefusal}
use Rattle.rl_log.specs.declared.status.Status.{Status}
use Rattle.rl_log.specs.declared.status.Status.TheVariants.{SinkFault, Refused}
use Rattle.rl_log.specs.Entry.{begin_text, closing_text, closed_text}
use Rattle.rl_log.specs.Recording.{events_text}
use Rattle.rl_log.specs.Statuses.{is_complete}
use Rattle.rl_log.specs.Telling.{Tells}
use Rattle.rl_log.specs.Texts.{refused_text}
use Rattle.rl_log.proofs.KnownLemmas.{front_none}
use Rattle.rl_play.specs.AnyDevice.{Point, refused, broken, unwritten, cut}
use Rattle.rl_play.specs.Recording.{IsWritten, IsBegun}
use Rattle.rl_play.specs.Work.{Work, burst, planned, sequence, single, asked}
use Rattle.rl_play.proofs.LineLemmas.{GoesAs}
use Rattle.rl_report.specs.Pieces.{AppendsFront, Puts, joined}
use Rattle.rl_report.specs.declared.sink.Sink.{Ghosts as Sink}
use Rattle.rl_report.proofs.PieceLemmas.{front_after, front_before}
use Rattle.rl_script.specs.declared.line.Line.{Line}
use Rattle.rl_script.specs.declared.line.Line.TheVariants as say
use Rattle.rl_script.specs.declared.line.Sequence.{Sequence}
use Rattle.rl_seq.specs.Plan.{Plan, stop}
use Rattle.rl_vcd.specs.declared.dump.Dump.{Dump}
use Rattle.rl_vcd.specs.Lines.{DrawsOn, DrawsStop, DrawsTallied, DrawsWhole}
use Rattle.rl_vcd.specs.Noted.{Notes}

one_text : (text : List ℕ) → text ≡ text ++ []
one_text text = sym (append-nil text)

-- the counts of the line behind the events
closing_is : (which : Sequence) (over : Option (List ℕ)) (told tally : Tally) (counts : Counts)
    → counts ≡ record { events = tally.steps; differences = tally.differences; errors = tally.errors } → tally ≡ told
    → closing_text which over counts.events counts.differences counts.errors ≡ closed_text which over told
closing_is which over told tally counts is same =
    ap (λ (c : Counts). closing_text which over c.events c.differences c.errors) is ∙ ap (closed_text which over) same

in_order : (old mid later new : Option (List ℕ)) (x y z : List ℕ) → Appends old mid x → Appends mid later y
    → Appends later new z → Appends old new (joined (x ∷ y ∷ z ∷ []))
unfolding joined
in_order old mid later new x y z first second third =
    Appends-trans old mid new x (y ++ (z ++ [])) first
    (Appends-trans mid later new y (z ++ []) second (subst (Appends later new) (sym (append-nil z)) third))

in_closing : (old mid later new : Option (List ℕ)) (x y z : List ℕ) → Appends old mid x → Appends mid later y
    → AppendsFront later new z → AppendsFront old new (joined (x ∷ y ∷ z ∷ []))
unfolding joined
in_closing old mid later new x y z first second h =
    front_after old mid new x (y ++ (z ++ [])) first
    (front_after mid later new y (z ++ []) second (front_before later new z [] h))

module _ {K : Type 0} (sink : Sink K) where
  failed_line : (given : Result Work LineRefusal) (before after : Point) (old new : Dump K)
      (r : Result (Option LineRefusal) Failed) → IsErr r
      → ((number : ℕ) → DrawsStop sink number given before after SinkFault old new)
      → DrawsOn sink given before after old new r
  failed_line given before after old new (Ok None) e b = absurd (true≢false (sym e))
  failed_line given before after old new (Ok (Some why)) e b = absurd (true≢false (sym e))
  failed_line given before after old new (Err failed) e b = b

  -- ---- a line that is a burst, of which the text of its events alone is written

  pub burst_ran : (given : Result Work LineRefusal) (granted : Grant) (op : Op) (ops : List Op) (before after : Point) (old new : Dump K)
      (went : Result Tally Failed) (r : Result (Option LineRefusal) Failed) → given ≡ Ok (burst granted op ops) → GoesAs went r
      → DrawsTallied sink (burst granted op ops) before after old new went → DrawsOn sink given before after old new r
  burst_ran given granted op ops before after old new (Ok x) r is so d =
      let l = d.logs.logs in
      subst (DrawsOn sink given before after old new) (sym so) (record {
        ran = record { work = burst granted op ops; told = l.told; is = is; does = l.run; text = l.whole; counted = l.counted };
        drawn = d.drawn;
      })
  burst_ran given granted op ops before after old new (Err failed) r is so d =
      let l = d.logs.logs in
      subst (DrawsOn sink given before after old new) (sym so) (λ number. record {
        stops = record {
          close = broken (burst granted op ops) l.told;
          closes = (is, inr l.run);
          counted = l.counted;
          status_is = refl;
          whole = λ c. absurd (true≢false (sym c));
          part = l.part;
        };
        drawn = d.drawn;
      })

  -- ---- a line that is one operation

  pub op_drawn : {T : Type 0} (given : Result Work LineRefusal) (s t : Scene) (op : Op) (e : Event) (text now : Option (List ℕ))
      (counts after : Counts) (old new : Dump K) (went : Result T Failed) (r : Result (Option LineRefusal) Failed)
      → given ≡ Ok (single op) → Performs s t op e → OnOk went (IsWritten text now counts after t.model e × Notes sink old t.model e new)
      → OnErr went (IsBegun text now counts after t.model e × Notes sink old t.model e new) → GoesAs went r
      → DrawsOn sink given (record { scene = s; text = text; counts = counts }) (record { scene = t; text = now; counts = after })
      old new r
  op_drawn given s t op e text now counts after old new (Ok x) r is performs whole part so =
      subst (DrawsOn sink given (record { scene = s; text = text; counts = counts })
      (record { scene = t; text = now; counts = after }) old new) (sym so) (record {
        ran = record {
          work = single op;
          told = record { model = t.model; event = e } ∷ [];
          is = is;
          does = (t, record { performs = performs; model = refl }, refl);
          text = subst (Appends text now) (one_text _) whole.0.text;
          counted = whole.0.counted;
        };
        drawn = (new, whole.1, refl);
      })
  op_drawn given s t op e text now counts after old new (Err x) r is performs whole part so =
      subst (DrawsOn sink given (record { scene = s; text = text; counts = counts })
      (record { scene = t; text = now; counts = after }) old new) (sym so) (λ number. record {
        stops = record {
          close = broken (single op) (record { model = t.model; event = e } ∷ []);
          closes = (is, inr (record { performs = performs; model = refl }));
          counted = part.0.counted;
          status_is = refl;
          whole = λ c. absurd (true≢false (sym c));
          part = subst (AppendsFront text now) (one_text _) part.0.text;
        };
        drawn = (new, part.1, refl);
      })

  -- ---- a sequence

  pub begin_failed : (given : Result Work LineRefusal) (which : Sequence) (over : Option (List ℕ)) (p : Plan) (before : Point)
      (text : Option (List ℕ)) (d : Dump K) (r : Result (Option LineRefusal) Failed) → IsErr r
      → given ≡ Ok (sequence which over p) → AppendsFront before.text text (begin_text which over)
      → DrawsOn sink given before (record before { text = text }) d d r
  begin_failed given which over p before text d r e is h =
      failed_line given before (record before { text = text }) d d r e (λ number. record {
        stops = record {
          close = broken (sequence which over p) [];
          closes = (is, inl (refl, refl));
          counted = refl;
          status_is = refl;
          whole = λ c. absurd (true≢false (sym c));
          part = front_before before.text text (begin_text which over) [] h;
        };
        drawn = refl;
      })

  pub events_failed : {F : Type 0} (given : Result Work LineRefusal) (which : Sequence) (over : Option (List ℕ)) (p : Plan)
      (before : Point) (mid : Option (List ℕ)) (after : Point) (old new : Dump K) (failed : F)
      (r : Result (Option LineRefusal) Failed) → IsErr r → given ≡ Ok (sequence which over p)
      → Appends before.text mid (begin_text which over)
      → DrawsTallied sink (planned p) (record before { text = mid }) after old new (Err failed)
      → DrawsOn sink given before after old new r
  events_failed given which over p before mid after old new failed r e is first d =
      let l = d.logs.logs in
      failed_line given before after old new r e (λ number. record {
        stops = record {
          close = broken (sequence which over p) l.told;
          closes = (is, inr l.run);
          counted = l.counted;
          status_is = refl;
          whole = λ c. absurd (true≢false (sym c));
          part = front_after before.text mid after.text (begin_text which over) (events_text l.told) first l.part;
        };
        drawn = d.drawn;
      })

  closing_failed : (F : Type 0) (given : Result Work LineRefusal) (which : Sequence) (over : Option (List ℕ)) (p : Plan)
      (before : Point) (mid : Option (List ℕ)) (later : Point) (text : Option (List ℕ)) (old new : Dump K) (line : Counts)
      (tally : Tally) (r : Result (Option LineRefusal) Failed) → IsErr r → given ≡ Ok (sequence which over p)
      → Appends before.text mid (begin_text which over)
      → DrawsTallied {E = F} sink (planned p) (record before { text = mid }) later old new (Ok tally)
      → line ≡ record { events = tally.steps; differences = tally.differences; errors = tally.errors }
      → AppendsFront later.text text (closing_text which over line.events line.differences line.errors)
      → DrawsOn sink given before (record later { text = text }) old new r
  closing_failed F given which over p before mid later text old new line tally r e is first d of last =
      let l = d.logs.logs in
      failed_line given before (record later { text = text }) old new r e (λ number. record {
        stops = record {
          close = unwritten (sequence which over p) l.told;
          closes = (is, l.run);
          counted = l.counted;
          status_is = refl;
          whole = λ c. absurd (true≢false (sym c));
          part = in_closing before.text mid later.text text (begin_text which over) (events_text l.told)
              (closed_text which over (counted_all no_tally l.told)) first l.whole
              (subst (AppendsFront later.text text) (closing_is which over (counted_all no_tally l.told) tally line of d.logs.tally) last);
        };
        drawn = d.drawn;
      })

  sequence_done : (F : Type 0) (given : Result Work LineRefusal) (which : Sequence) (over : Option (List ℕ)) (p : Plan)
      (before : Point) (mid : Option (List ℕ)) (later : Point) (text : Option (List ℕ)) (old new : Dump K) (line : Counts)
      (tally : Tally) → given ≡ Ok (sequence which over p) → Appends before.text mid (begin_text which over)
      → DrawsTallied {E = F} sink (planned p) (record before { text = mid }) later old new (Ok tally)
      → line ≡ record { events = tally.steps; differences = tally.differences; errors = tally.errors }
      → Appends later.text text (closing_text which over line.events line.differences line.errors)
      → DrawsWhole sink given before (record later { text = text }) old new
  sequence_done F given which over p before mid later text old new line tally is first d of last =
      let l = d.logs.logs in
      record {
        ran = record {
          work = sequence which over p;
          told = l.told;
          is = is;
          does = l.run;
          text = in_order before.text mid later.text text (begin_text which over) (events_text l.told)
              (closed_text which over (counted_all no_tally l.told)) first l.whole
              (subst (Appends later.text text) (closing_is which over (counted_all no_tally l.told) tally line of d.logs.tally) last);
          counted = l.counted;
        };
        drawn = d.drawn;
      }

  -- its last line was put, or a front of it
  pub closing_drawn : {T : Type 0} (F : Type 0) (given : Result Work LineRefusal) (which : Sequence) (over : Option (List ℕ))
      (p : Plan) (before : Point) (mid : Option (List ℕ)) (later : Point) (text : Option (List ℕ)) (old new : Dump K)
      (line : Counts) (tally : Tally) (went : Result T Failed) (r : Result (Option LineRefusal) Failed)
      → given ≡ Ok (sequence which over p) → Appends before.text mid (begin_text which over)
      → DrawsTallied {E = F} sink (planned p) (record before { text = mid }) later old new (Ok tally)
      → line ≡ record { events = tally.steps; differences = tally.differences; errors = tally.errors } → GoesAs went r
      → Puts later.text text (closing_text which over line.events line.differences line.errors) went
      → DrawsOn sink given before (record later { text = text }) old new r
  closing_drawn F given which over p before mid later text old new line tally (Ok x) r is first d of so put =
      subst (DrawsOn sink given before (record later { text = text }) old new) (sym so)
      (sequence_done F given which over p before mid later text old new line tally is first d of put.whole)
  closing_drawn F given which over p before mid later text old new line tally (Err e) r is first d of so put =
      subst (DrawsOn sink given before (record later { text = text }) old new) (sym so)
      (closing_failed F given which over p before mid later text old new line tally (Err e) refl is first d of put.part)

  -- ---- a line that is refused, or on which nothing was done

  stops_refused : (number : ℕ) (given : Result Work LineRefusal) (why : LineRefusal) (status : Status) (before mid : Point)
      (text : Option (List ℕ)) (old new : Dump K) → given ≡ Err why → mid ≡ before → new ≡ old
      → Tells status Refused mid.text text (refused_text number why)
      → DrawsStop sink number given before (record mid { text = text }) status old new
  stops_refused number given why status before mid text old new is same still t =
      subst (λ p. DrawsStop sink number given p (record mid { text = text }) status old new) same (record {
        stops = record {
          close = refused number why;
          closes = (refl, is, refl);
          counted = refl;
          status_is = λ c. (t.whole c).0;
          whole = λ c. (t.whole c).1;
          part = t.part;
        };
        drawn = still;
      })

  pub unknown_stops : (number : ℕ) (given says : Result Work LineRefusal) (o : Option LineRefusal) (why : LineRefusal)
      (status : Status) (before mid : Point) (text : Option (List ℕ)) (old new : Dump K) → says ≡ given → o ≡ Some why
      → DrawsOn sink given before mid old new (Ok o) → Tells status Refused mid.text text (refused_text number why)
      → DrawsStop sink number says before (record mid { text = text }) status old new
  unknown_stops number given says o why status before mid text old new same some h t =
      let r : DrawsOn sink given before mid old new (Ok (Some why)) =
      subst (λ o. DrawsOn sink given before mid old new (Ok o)) some h in
      stops_refused number says why status before mid text old new (same ∙ r.0) r.1 r.2 t

  -- a line that was read is refused
  pub read_refused : (number : ℕ) (given : Result Work LineRefusal) (why : LineRefusal) (status : Status) (p : Point)
      (text : Option (List ℕ)) (d : Dump K) → given ≡ Err why → Tells status Refused p.text text (refused_text number why)
      → DrawsStop sink number given p (record p { text = text }) status d d
  read_refused number given why status p text d is t = stops_refused number given why status p p text d d is refl refl t

  pub stops_early : (number : ℕ) (given : Result Work LineRefusal) (status : Status) (p : Point) (d : Dump K)
      → is_complete status ≡ false → DrawsStop sink number given p p status d d
  stops_early number given status p d early = record {
    stops = record {
      close = cut;
      closes = refl;
      counted = refl;
      status_is = early;
      whole = λ c. absurd (true≢false (sym c ∙ early));
      part = front_none p.text p.text [] (Keeps-refl p.text);
    };
    drawn = refl;
  }

  pub ran_blank : (m : ModelData) (says : Result Line LineRefusal) (p : Point) (d : Dump K) → says ≡ Ok say.Blank
      → DrawsWhole sink (asked m says) p p d d
  ran_blank m says p d is = record {
    ran = record {
      work = planned stop;
      told = [];
      is = ap (asked m) is;
      does = refl;
      text = Appends-nil p.text;
      counted = refl;
    };
    drawn = refl;
  }
