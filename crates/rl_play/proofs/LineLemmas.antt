-- A line, as its events were written and counted.
use Rattle.std.proofs.Common.{◌≡◌, ℕ, false, List, [], ◌∷◌, ◌++◌, Option, Some, None, Result, Ok, Err, IsErr, option_map, refl, sym, ap, subst, ◌∙◌, append-nil, inl, inr}
use Rattle.std.specs.Io.KnownBytes.{Appends}
use Rattle.std.specs.Option.{ok_or}
use Rattle.std.specs.Prelude.{MatchResult}
use Rattle.std.proofs.KnownBytes.{Appends-nil, Appends-trans}
use Rattle.std.proofs.lemmas.Bool.{true≢false}
use Rattle.rl_access.specs.declared.event.Tally.{Tally}
use Rattle.rl_access.specs.HandsOver.{Told}
use Rattle.rl_access.specs.Model.{ModelData}
use Rattle.rl_access.specs.Runs.{no_tally, counted_all}
use Rattle.rl_bus.specs.declared.device.Failed.{Failed}
use Rattle.rl_report.specs.Pieces.{AppendsFront, Puts, joined}
use Rattle.rl_report.proofs.PieceLemmas.{front_after, front_before}
use Rattle.rl_script.specs.Commands.{line_of}
use Rattle.rl_script.specs.declared.command.Item.{Item}
use Rattle.rl_script.specs.declared.command.Item.TheVariants as item
use Rattle.rl_script.specs.declared.line.Line.{Line}
use Rattle.rl_script.specs.declared.line.Line.TheVariants as say
use Rattle.rl_script.specs.declared.line.Sequence.{Sequence}
use Rattle.rl_seq.specs.Plan.{Plan, stop}
use Rattle.rl_log.specs.declared.counts.Counts.{Counts}
use Rattle.rl_log.specs.declared.refusal.LineRefusal.{LineRefusal}
use Rattle.rl_log.specs.declared.refusal.LineRefusal.TheVariants.{NoSuchName}
use Rattle.rl_log.specs.declared.status.Status.{Status}
use Rattle.rl_log.specs.declared.status.Status.TheVariants.{SinkFault, Refused}
use Rattle.rl_log.specs.Entry.{with_both, begin_text, closing_text, closed_text}
use Rattle.rl_log.specs.Named.{op_named}
use Rattle.rl_log.specs.Recording.{events_text}
use Rattle.rl_log.specs.Statuses.{is_complete}
use Rattle.rl_log.specs.Telling.{Tells}
use Rattle.rl_log.specs.Texts.{refused_text}
use Rattle.rl_play.specs.AnyDevice.{Point, Logs, LogsTallied, RanWhole, StopsAt, RunsOn, Turns, refused, broken, unwritten, cut}
use Rattle.rl_play.specs.Work.{Work, planned, sequence, single, asked, text_of, begun_text}
use Rattle.rl_play.specs.declared.playing.Turn.{Turn}
use Rattle.std.proofs.KnownBytes.{Keeps-refl}
use Rattle.rl_log.proofs.KnownLemmas.{front_none}

-- ---- a line whose call failed

failed_line : (given : Result Work LineRefusal) (before after : Point) (r : Result (Option LineRefusal) Failed) → IsErr r
    → ((number : ℕ) → StopsAt number given before after SinkFault) → RunsOn given before after r
failed_line given before after (Ok None) e b = absurd (true≢false (sym e))
failed_line given before after (Ok (Some why)) e b = absurd (true≢false (sym e))
failed_line given before after (Err failed) e b = b

-- after the first of its events
broken_at : (number : ℕ) (given : Result Work LineRefusal) (work : Work) (before after : Point) (T F : Type 0) (failed : F)
    → given ≡ Ok work → (l : Logs {T = T} work before after (Err failed))
    → AppendsFront before.text after.text (begun_text work l.told) → StopsAt number given before after SinkFault
broken_at number given work before after T F failed is l part = record {
  close = broken work l.told;
  closes = (is, inr l.run);
  counted = l.counted;
  status_is = refl;
  whole = λ c. absurd (true≢false (sym c));
  part = part;
}

-- a line goes as its work went
abbrev pub GoesAs : {T : Type 0} → Result T Failed → Result (Option LineRefusal) Failed → Type 0
GoesAs work r = MatchResult work (λ done. r ≡ Ok None) (λ failed. r ≡ Err failed)

-- it writes the text of its events alone
pub plain_ran : {T : Type 0} (given : Result Work LineRefusal) (work : Work) (before after : Point) (went : Result T Failed)
    (r : Result (Option LineRefusal) Failed) → given ≡ Ok work → ((told : List Told) → text_of work told ≡ events_text told)
    → ((told : List Told) → begun_text work told ≡ events_text told) → GoesAs went r → Logs work before after went
    → RunsOn given before after r
plain_ran given work before after (Ok x) r is text begun so l = subst (RunsOn given before after) (sym so) (record {
  work = work;
  told = l.told;
  is = is;
  does = l.run;
  text = subst (Appends before.text after.text) (sym (text l.told)) l.whole;
  counted = l.counted;
})
plain_ran {T} given work before after (Err failed) r is text begun so l = subst (RunsOn given before after) (sym so)
    (λ number. broken_at number given work before after T Failed failed is l
    (subst (AppendsFront before.text after.text) (sym (begun l.told)) l.part))

-- ---- names

-- where both names are there
pub both_are : (number : Option ℕ) (map : Option (Option ℕ)) (i : ℕ) (t : Option ℕ) (make : ℕ → Option ℕ → Work)
    → number ≡ Some i → map ≡ Some t → ok_or (with_both number map make) NoSuchName ≡ Ok (make i t)
both_are number map i t make first second =
    ap (λ o. ok_or (with_both o map make) NoSuchName) first ∙ ap (λ o. ok_or (option_map (make i) o) NoSuchName) second

pub one_is : {A : Type 0} (o : Option A) (x : A) (make : A → Work) → o ≡ Some x
    → ok_or (option_map make o) NoSuchName ≡ Ok (make x)
one_is o x make is = ap (λ o. ok_or (option_map make o) NoSuchName) is

-- ---- a sequence

in_order : (old mid later new : Option (List ℕ)) (x y z : List ℕ) → Appends old mid x → Appends mid later y
    → Appends later new z → Appends old new (joined (x ∷ y ∷ z ∷ []))
unfolding joined
in_order old mid later new x y z first second third =
    Appends-trans old mid new x (y ++ (z ++ [])) first
    (Appends-trans mid later new y (z ++ []) second (subst (Appends later new) (sym (append-nil z)) third))

in_closing : (old mid later new : Option (List ℕ)) (x y z : List ℕ) → Appends old mid x → Appends mid later y
    → AppendsFront later new z → AppendsFront old new (joined (x ∷ y ∷ z ∷ []))
unfolding joined
in_closing old mid later new x y z first second h =
    front_after old mid new x (y ++ (z ++ [])) first
    (front_after mid later new y (z ++ []) second (front_before later new z [] h))

-- the counts of the line behind the events
closing_is : (which : Sequence) (over : Option (List ℕ)) (told tally : Tally) (counts : Counts)
    → counts ≡ record { events = tally.steps; differences = tally.differences; errors = tally.errors } → tally ≡ told
    → closing_text which over counts.events counts.differences counts.errors ≡ closed_text which over told
closing_is which over told tally counts is same =
    ap (λ (c : Counts). closing_text which over c.events c.differences c.errors) is ∙ ap (closed_text which over) same

pub begin_failed : (given : Result Work LineRefusal) (which : Sequence) (over : Option (List ℕ)) (p : Plan) (before : Point)
    (new : Option (List ℕ)) (r : Result (Option LineRefusal) Failed) → IsErr r → given ≡ Ok (sequence which over p)
    → AppendsFront before.text new (begin_text which over) → RunsOn given before (record before { text = new }) r
begin_failed given which over p before new r e is h =
    failed_line given before (record before { text = new }) r e (λ number. record {
      close = broken (sequence which over p) [];
      closes = (is, inl (refl, refl));
      counted = refl;
      status_is = refl;
      whole = λ c. absurd (true≢false (sym c));
      part = front_before before.text new (begin_text which over) [] h;
    })

pub events_failed : {F : Type 0} (given : Result Work LineRefusal) (which : Sequence) (over : Option (List ℕ)) (p : Plan)
    (before : Point) (mid : Option (List ℕ)) (after : Point) (failed : F) (r : Result (Option LineRefusal) Failed)
    → IsErr r → given ≡ Ok (sequence which over p) → Appends before.text mid (begin_text which over)
    → LogsTallied (planned p) (record before { text = mid }) after (Err failed) → RunsOn given before after r
events_failed given which over p before mid after failed r e is first l =
    failed_line given before after r e (λ number. record {
      close = broken (sequence which over p) l.logs.told;
      closes = (is, inr l.logs.run);
      counted = l.logs.counted;
      status_is = refl;
      whole = λ c. absurd (true≢false (sym c));
      part = front_after before.text mid after.text (begin_text which over) (events_text l.logs.told) first l.logs.part;
    })

closing_failed : (F : Type 0) (given : Result Work LineRefusal) (which : Sequence) (over : Option (List ℕ)) (p : Plan)
    (before : Point) (mid : Option (List ℕ)) (later : Point) (new : Option (List ℕ)) (line : Counts) (tally : Tally)
    (r : Result (Option LineRefusal) Failed) → IsErr r → given ≡ Ok (sequence which over p)
    → Appends before.text mid (begin_text which over)
    → LogsTallied {E = F} (planned p) (record before { text = mid }) later (Ok tally)
    → line ≡ record { events = tally.steps; differences = tally.differences; errors = tally.errors }
    → AppendsFront later.text new (closing_text which over line.events line.differences line.errors)
    → RunsOn given before (record later { text = new }) r
closing_failed F given which over p before mid later new line tally r e is first l of last =
    let told = l.logs.told in
    failed_line given before (record later { text = new }) r e (λ number. record {
      close = unwritten (sequence which over p) told;
      closes = (is, l.logs.run);
      counted = l.logs.counted;
      status_is = refl;
      whole = λ c. absurd (true≢false (sym c));
      part = in_closing before.text mid later.text new (begin_text which over) (events_text told)
          (closed_text which over (counted_all no_tally told)) first l.logs.whole
          (subst (AppendsFront later.text new) (closing_is which over (counted_all no_tally told) tally line of l.tally) last);
    })

sequence_done : (F : Type 0) (given : Result Work LineRefusal) (which : Sequence) (over : Option (List ℕ)) (p : Plan)
    (before : Point) (mid : Option (List ℕ)) (later : Point) (new : Option (List ℕ)) (line : Counts) (tally : Tally)
    → given ≡ Ok (sequence which over p) → Appends before.text mid (begin_text which over)
    → LogsTallied {E = F} (planned p) (record before { text = mid }) later (Ok tally)
    → line ≡ record { events = tally.steps; differences = tally.differences; errors = tally.errors }
    → Appends later.text new (closing_text which over line.events line.differences line.errors)
    → RanWhole given before (record later { text = new })
sequence_done F given which over p before mid later new line tally is first l of last =
    let told = l.logs.told in
    record {
      work = sequence which over p;
      told = told;
      is = is;
      does = l.logs.run;
      text = in_order before.text mid later.text new (begin_text which over) (events_text told)
          (closed_text which over (counted_all no_tally told)) first l.logs.whole
          (subst (Appends later.text new) (closing_is which over (counted_all no_tally told) tally line of l.tally) last);
      counted = l.logs.counted;
    }

-- its last line was put, or a front of it
pub closing_ran : {T : Type 0} (F : Type 0) (given : Result Work LineRefusal) (which : Sequence) (over : Option (List ℕ)) (p : Plan)
    (before : Point) (mid : Option (List ℕ)) (later : Point) (new : Option (List ℕ)) (line : Counts) (tally : Tally)
    (went : Result T Failed) (r : Result (Option LineRefusal) Failed) → given ≡ Ok (sequence which over p)
    → Appends before.text mid (begin_text which over)
    → LogsTallied {E = F} (planned p) (record before { text = mid }) later (Ok tally)
    → line ≡ record { events = tally.steps; differences = tally.differences; errors = tally.errors } → GoesAs went r
    → Puts later.text new (closing_text which over line.events line.differences line.errors) went
    → RunsOn given before (record later { text = new }) r
closing_ran F given which over p before mid later new line tally (Ok x) r is first l of so put =
    subst (RunsOn given before (record later { text = new })) (sym so)
    (sequence_done F given which over p before mid later new line tally is first l of put.whole)
closing_ran F given which over p before mid later new line tally (Err e) r is first l of so put =
    subst (RunsOn given before (record later { text = new })) (sym so)
    (closing_failed F given which over p before mid later new line tally (Err e) refl is first l of put.part)

-- ---- lines on an item

pub item_asks : (m : ModelData) (i : Item) (path : List ℕ) (first second : ℕ) (map : Option (List ℕ)) → (i ≡ item.BurstRead → ⊥)
    → asked m (Ok (line_of i path first second map))
    ≡ ok_or (option_map single (op_named m (line_of i path first second map))) NoSuchName
item_asks m item.BurstRead path first second map other = absurd (other refl)
item_asks m _ path first second map other = refl

pub runs_as : (given other : Result Work LineRefusal) (before after : Point) (r : Result (Option LineRefusal) Failed)
    → given ≡ other → RunsOn other before after r → RunsOn given before after r
runs_as given other before after r same h = subst (λ given. RunsOn given before after r) (sym same) h

pub turns_as : (number : ℕ) (given other : Result Work LineRefusal) (before after : Point) (turn : Turn)
    → given ≡ other → Turns number given before after turn → Turns number other before after turn
turns_as number given other before after turn same h = subst (λ given. Turns number given before after turn) same h

-- ---- a line that is refused, or on which nothing was done

pub stops_refused : (number : ℕ) (given : Result Work LineRefusal) (why : LineRefusal) (status : Status) (before mid : Point)
    (new : Option (List ℕ)) → given ≡ Err why → mid ≡ before → Tells status Refused mid.text new (refused_text number why)
    → StopsAt number given before (record mid { text = new }) status
stops_refused number given why status before mid new is same t =
    subst (λ p. StopsAt number given p (record mid { text = new }) status) same (record {
      close = refused number why;
      closes = (refl, is, refl);
      counted = refl;
      status_is = λ c. (t.whole c).0;
      whole = λ c. (t.whole c).1;
      part = t.part;
    })

pub unknown_stops : (number : ℕ) (given says : Result Work LineRefusal) (o : Option LineRefusal) (why : LineRefusal)
    (status : Status) (before mid : Point) (new : Option (List ℕ)) → says ≡ given → o ≡ Some why
    → RunsOn given before mid (Ok o) → Tells status Refused mid.text new (refused_text number why)
    → StopsAt number says before (record mid { text = new }) status
unknown_stops number given says o why status before mid new same some h t =
    let r : RunsOn given before mid (Ok (Some why)) = subst (λ o. RunsOn given before mid (Ok o)) some h in
    stops_refused number says why status before mid new (same ∙ r.0) r.1 t

-- a line that was read is refused
pub read_refused : (number : ℕ) (given : Result Work LineRefusal) (why : LineRefusal) (status : Status) (p : Point)
    (new : Option (List ℕ)) → given ≡ Err why → Tells status Refused p.text new (refused_text number why)
    → StopsAt number given p (record p { text = new }) status
read_refused number given why status p new is t = stops_refused number given why status p p new is refl t

pub stops_early : (number : ℕ) (given : Result Work LineRefusal) (status : Status) (p : Point) → is_complete status ≡ false
    → StopsAt number given p p status
stops_early number given status p early = record {
  close = cut;
  closes = refl;
  counted = refl;
  status_is = early;
  whole = λ c. absurd (true≢false (sym c ∙ early));
  part = front_none p.text p.text [] (Keeps-refl p.text);
}

pub ran_blank : (m : ModelData) (says : Result Line LineRefusal) (p : Point) → says ≡ Ok say.Blank → RanWhole (asked m says) p p
ran_blank m says p is = record {
  work = planned stop;
  told = [];
  is = ap (asked m) is;
  does = refl;
  text = Appends-nil p.text;
  counted = refl;
}
