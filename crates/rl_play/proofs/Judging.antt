-- What a line does over a device that tells its state is what is judged of it.
use Rattle.std.proofs.Common.{
  ◌≡◌,
  ◌⊎◌,
  ℕ,
  List,
  [],
  ◌∷◌,
  ◌++◌,
  length,
  true,
  false,
  Option,
  Some,
  None,
  option_map,
  IfSome,
  Result,
  Ok,
  Err,
  refl,
  sym,
  ap,
  subst,
  ◌∙◌,
  append_assoc,
  append-nil,
  inl,
  inr,
}
use Rattle.std.specs.Io.KnownBytes.{Appends}
use Rattle.std.specs.Option.{ok_or}
use Rattle.std.proofs.lemmas.Bool.{true≢false}
use Rattle.rl_access.specs.declared.event.Event.{Event}
use Rattle.rl_access.specs.declared.event.Op.{Op}
use Rattle.rl_access.specs.declared.event.Op.TheVariants as op
use Rattle.rl_access.specs.declared.event.Refused.{Refused}
use Rattle.rl_access.specs.Call.{Scene, IsRefused, scene}
use Rattle.rl_access.specs.HandsOver.{Told}
use Rattle.rl_access.specs.Model.{ModelData}
use Rattle.rl_access.specs.Runs.{no_tally, counted_all}
use Rattle.rl_access.specs.World.{World, world, IsAt, unchanged}
use Rattle.rl_access.proofs.Worlds.{IsWorld, refused_alone}
use Rattle.rl_bus.specs.Account.{Account}
use Rattle.rl_bus.specs.Standing.{Standing}
use Rattle.rl_bus.specs.State.{State}
use Rattle.rl_report.specs.Pieces.{AppendsFront, joined}
use Rattle.rl_report.proofs.PieceLemmas.{front_before}
use Rattle.rl_script.specs.declared.line.Line.{Line}
use Rattle.rl_script.specs.declared.line.Line.TheVariants as line
use Rattle.rl_log.specs.declared.counts.Counts.{Counts}
use Rattle.rl_log.specs.declared.refusal.LineRefusal.{LineRefusal}
use Rattle.rl_log.specs.declared.refusal.LineRefusal.TheVariants.{NoSuchName}
use Rattle.rl_log.specs.declared.status.Status.{Status}
use Rattle.rl_log.specs.Course.{Course, alone, along, burst as burst_course}
use Rattle.rl_log.specs.Entry.{Entry, entry_of, plan_of, with_both, begin_text, closed_text}
use Rattle.rl_log.specs.Log.{comes_of, there, stops}
use Rattle.rl_log.specs.Named.{block_asked, map_asked, mem_named, op_named}
use Rattle.rl_log.specs.Recording.{with_event, with_events, events_text}
use Rattle.rl_log.specs.Statuses.{is_complete}
use Rattle.rl_log.specs.Texts.{refused_text}
use Rattle.rl_play.specs.AnyDevice.{Point, RanWhole, Close, at_end, refused, broken, unwritten, cut, ClosesAt, StopsAt, HasStatus, text_at, told_at, Turns}
use Rattle.rl_play.specs.Work.{Work, planned, sequence, burst, single, burst_write_work, burst_read_work, work_of, asked, Does, BreaksOff, IsRefusedAlone, text_of, begun_text}
use Rattle.rl_play.specs.declared.playing.Turn.{Turn}
use Rattle.rl_play.specs.declared.playing.Turn.TheVariants.{Next, Stop}
use Rattle.rl_play.specs.Played.{IsTurn, RanOn, Stopped, EndsAs}
use Rattle.rl_play.specs.Recording.{IsDone}
use Rattle.rl_play.proofs.Courses.{IsCourse, IsFrontOf, runs_along, breaks_along, runs_through, runs_into}
use Rattle.rl_play.proofs.Recorded.{events_append}
use Rattle.rl_play.proofs.Traces.{IsTrace, trace_along, trace_burst, done_all, done_none}

-- ---- what a line comes to, by what it asks for

abbrev pub course_of : World → Work → Course
course_of w (planned p) = along w p
course_of w (sequence which over p) = along w p
course_of w (burst granted op ops) = burst_course w granted op ops

abbrev pub entry_with : World → Work → Entry
entry_with w work = record { text = text_of work (course_of w work).told; course = course_of w work }

abbrev IsSame : World → Line → Type 0
IsSame w l = entry_of w l ≡ option_map (entry_with w) (work_of w.model l)

by_both : (w : World) (make : ℕ → Option ℕ → Work) (mem : Option ℕ) (map : Option (Option ℕ))
    → with_both mem map (λ i t. entry_with w (make i t)) ≡ option_map (entry_with w) (with_both mem map make)
by_both w make None map = refl
by_both w make (Some i) None = refl
by_both w make (Some i) (Some t) = refl

by_one : {A : Type 0} (w : World) (make : A → Work) (o : Option A)
    → option_map (λ x. entry_with w (make x)) o ≡ option_map (entry_with w) (option_map make o)
by_one w make None = refl
by_one w make (Some x) = refl

entry_is : (w : World) (l : Line) → IsSame w l
unfolding along
entry_is w line.Blank = refl
entry_is w (line.BurstWrite mem first values map) =
    by_both w (λ i t. burst_write_work w.model i t first values) (mem_named w.model.chip mem) (map_asked w.model.layout map)
entry_is w (line.BurstRead mem first count map) =
    by_both w (λ i t. burst_read_work w.model i t first count) (mem_named w.model.chip mem) (map_asked w.model.layout map)
entry_is w (line.Seq which over) = by_one w (λ block. sequence which over (plan_of which w.model block)) (block_asked w.model.chip over)
entry_is w l = by_one w single (op_named w.model l)

there_is : (w : World) (o : Option Work) (work : Work) → ok_or o NoSuchName ≡ Ok work
    → there (option_map (entry_with w) o) ≡ Ok (entry_with w work)
there_is w None work is = absurd cc
there_is w (Some x) work is = let same : x ≡ work = cc in ap (λ x. Ok (entry_with w x)) same

not_there : (w : World) (o : Option Work) (why : LineRefusal) → ok_or o NoSuchName ≡ Err why
    → there (option_map (entry_with w) o) ≡ Err why
not_there w None why is = let same : NoSuchName ≡ why = cc in ap Err same
not_there w (Some x) why is = absurd cc

pub comes : (w : World) (s : Result Line LineRefusal) (work : Work) → asked w.model s ≡ Ok work
    → comes_of w s ≡ Ok (entry_with w work)
comes w (Ok l) work is = ap there (entry_is w l) ∙ there_is w (work_of w.model l) work is
comes w (Err why) work is = absurd cc

pub comes_not : (w : World) (s : Result Line LineRefusal) (why : LineRefusal) → asked w.model s ≡ Err why
    → comes_of w s ≡ Err why
comes_not w (Ok l) why is = ap there (entry_is w l) ∙ not_there w (work_of w.model l) why is
comes_not w (Err other) why is = let same : other ≡ why = cc in ap Err same

-- ---- its events

refused_told : (s new : Scene) (w : World) (o : Op) (why : Refused) (told : List Told) → IsWorld s w
    → IsRefusedAlone s new o why told → IsCourse told new (alone (unchanged w o why))
refused_told s new w o why told h r =
    let one = refused_alone s new w o why r.event h r.refused in
    record {
      told_is = r.told_is ∙ ap (λ m. record { model = m; event = r.event } ∷ []) h.model_is ∙ ap
          (λ e. record { model = w.model; event = e } ∷ []) one.0;
      world = one.1;
    }

refused_front : (s new : Scene) (w : World) (o : Op) (why : Refused) (told : List Told) → IsWorld s w
    → IsRefusedAlone s new o why told → IsFrontOf told new (alone (unchanged w o why))
refused_front s new w o why told h r =
    let course = refused_told s new w o why told h r in
    record {
      rest = [];
      all = append-nil told ∙ course.told_is;
      front = unchanged w o why ∷ [];
      others = [];
      split = refl;
      counted = λ counts. ap (with_events counts) course.told_is;
      leads = λ v. course.world;
    }

course_by : (work : Work) (told : List Told) (s new : Scene) (w : World) → IsWorld s w
    → (Does work s told new → IsCourse told new (course_of w work)) × (BreaksOff work s told new → IsFrontOf told new (course_of w work))
course_by (planned p) told s new w h = (runs_along p told s new w h, breaks_along p told s new w h)
course_by (sequence which over p) told s new w h = (runs_along p told s new w h, breaks_along p told s new w h)
course_by (burst (Ok place) o ops) told s new w h = (runs_through ops told s new w h, runs_into ops told s new w h)
course_by (burst (Err why) o ops) told s new w h = (refused_told s new w o why told h, refused_front s new w o why told h)

pub does_course : (work : Work) (told : List Told) (s new : Scene) (w : World) → IsWorld s w → Does work s told new
    → IsCourse told new (course_of w work)
does_course work told s new w h = (course_by work told s new w h).0

pub breaks_course : (work : Work) (told : List Told) (s new : Scene) (w : World) → IsWorld s w → BreaksOff work s told new
    → IsFrontOf told new (course_of w work)
breaks_course work told s new w h = (course_by work told s new w h).1

trace_course : (work : Work) (w : World) → IsTrace w (course_of w work)
trace_course (planned p) w = trace_along p w
trace_course (sequence which over p) w = trace_along p w
trace_course (burst granted o ops) w = trace_burst granted o ops w

-- ---- its text

in_frame : (x a b z : List ℕ) → joined (x ∷ (a ++ b) ∷ z ∷ []) ≡ (x ++ a) ++ (b ++ (z ++ []))
unfolding joined
in_frame x a b z = ap (λ l. x ++ l) (append_assoc a b (z ++ [])) ∙ sym (append_assoc x a (b ++ (z ++ [])))

-- what comes behind the text of the first of its events
abbrev behind : Work → (told rest : List Told) → List ℕ
behind (planned p) told rest = events_text rest
behind (sequence which over p) told rest =
    events_text rest ++ (closed_text which over (counted_all no_tally (told ++ rest)) ++ [])
behind (burst granted o ops) told rest = events_text rest

begun_front : (work : Work) (told rest : List Told) → text_of work (told ++ rest) ≡ begun_text work told ++ behind work told rest
begun_front (planned p) told rest = events_append told rest
begun_front (sequence which over p) told rest =
    let closing = closed_text which over (counted_all no_tally (told ++ rest)) in
    ap (λ l. joined (begin_text which over ∷ l ∷ closing ∷ [])) (events_append told rest)
    ∙ in_frame (begin_text which over) (events_text told) (events_text rest) closing
begun_front (burst granted o ops) told rest = events_append told rest

part_of_text : (work : Work) (told rest all : List Told) (old new : Option (List ℕ)) → told ++ rest ≡ all
    → AppendsFront old new (begun_text work told) → AppendsFront old new (text_of work all)
part_of_text work told rest all old new is h =
    subst (AppendsFront old new) (sym (begun_front work told rest) ∙ ap (text_of work) is)
    (front_before old new (begun_text work told) (behind work told rest) h)

-- ---- a turn

abbrev pub here : (m : ModelData) (a : List Standing) (account : Account) (d : State) → IsWorld (scene m a account (Some d))
    (world m a d)
here m a account d = record { model_is = refl; adapters_are = refl; device_is = refl }

ran_on : (s : Result Line LineRefusal) (w : World) (before after : Point) → IsWorld before.scene w
    → RanWhole (asked w.model s) before after
    → RanOn (comes_of w s) before.text after.text before.counts after.counts after.scene.model after.scene.adapters after.scene.device
ran_on s w before after h r =
    let c = does_course r.work r.told before.scene after.scene w h r.does in
    record {
      entry = entry_with w r.work;
      is = comes w s r.work r.is;
      text = subst (λ told. Appends before.text after.text (text_of r.work told)) c.told_is r.text;
      counted = r.counted ∙ ap (with_events before.counts) c.told_is;
      after = c.world;
    }

err_is : {x y : LineRefusal} (r : Result Entry LineRefusal) → r ≡ Err x → r ≡ Err y → x ≡ y
err_is r e f = cc

ok_is : {x y : Entry} (r : Result Entry LineRefusal) → r ≡ Ok x → r ≡ Ok y → x ≡ y
ok_is r e f = cc

err_ok : {x : LineRefusal} {y : Entry} (r : Result Entry LineRefusal) → r ≡ Err x → r ≡ Ok y → ⊥
err_ok r e f = cc

-- it broke off at a line that asks for this work
broke : (number : ℕ) (status : Status) (w : World) (work : Work) (r : Result Entry LineRefusal)
    (old new : Option (List ℕ)) (counts now : Counts) (m : ModelData) (a : List Standing) (st : Option State)
    → is_complete status ≡ false → r ≡ Ok (entry_with w work)
    → AppendsFront old new (entry_with w work).text → IsDone (course_of w work).steps w counts now m a st
    → Stopped number r status old new counts now w m a st
broke number status w work r old new counts now m a st early is front did = record {
  refused = λ why e. absurd (err_ok r e is);
  broken = λ entry e. (early, subst (λ (x : Entry). AppendsFront old new x.text) (ok_is r is e) front);
  stays = λ why e. absurd (err_ok r e is);
  done = λ entry e. subst (λ (x : Entry). IsDone x.course.steps w counts now m a st) (ok_is r is e) did;
}

broke_at : (number : ℕ) (status : Status) (w : World) (work : Work) (told : List Told) (r : Result Entry LineRefusal)
    (before after : Point) → IsWorld before.scene w → is_complete status ≡ false → r ≡ Ok (entry_with w work)
    → after.counts ≡ with_events before.counts told
    → ((told ≡ []) × (after.scene ≡ before.scene)) ⊎ BreaksOff work before.scene told after.scene
    → AppendsFront before.text after.text (begun_text work told)
    → Stopped number r status before.text after.text before.counts after.counts w after.scene.model after.scene.adapters after.scene.device
broke_at number status w work told r before after h early is counted (inl (none, same)) front =
    broke number status w work r before.text after.text before.counts after.counts after.scene.model after.scene.adapters
    after.scene.device early is
    (part_of_text work told (course_of w work).told (course_of w work).told before.text after.text
    (ap (λ l. l ++ (course_of w work).told) none) front)
    (done_none (course_of w work).steps w before.counts after.counts after.scene.model after.scene.adapters
    after.scene.device (counted ∙ ap (with_events before.counts) none) (subst (λ s. IsWorld s w) (sym same) h))
broke_at number status w work told r before after h early is counted (inr b) front =
    let f = breaks_course work told before.scene after.scene w h b in
    broke number status w work r before.text after.text before.counts after.counts after.scene.model after.scene.adapters
    after.scene.device early is
    (part_of_text work told f.rest (course_of w work).told before.text after.text f.all front)
    (record {
      done = f.front;
      others = f.others;
      split = f.split;
      counted = counted ∙ f.counted before.counts;
      after = f.leads w;
    })

unwritten_at : (number : ℕ) (status : Status) (w : World) (work : Work) (told : List Told) (r : Result Entry LineRefusal)
    (before after : Point) → IsWorld before.scene w → is_complete status ≡ false → r ≡ Ok (entry_with w work)
    → after.counts ≡ with_events before.counts told → Does work before.scene told after.scene
    → AppendsFront before.text after.text (text_of work told)
    → Stopped number r status before.text after.text before.counts after.counts w after.scene.model after.scene.adapters after.scene.device
unwritten_at number status w work told r before after h early is counted d front =
    let c = does_course work told before.scene after.scene w h d in
    broke number status w work r before.text after.text before.counts after.counts after.scene.model after.scene.adapters
    after.scene.device early is
    (subst (λ told. AppendsFront before.text after.text (text_of work told)) c.told_is front)
    (done_all (course_of w work) w before.counts after.counts after.scene.model after.scene.adapters
    after.scene.device (trace_course work w) (counted ∙ ap (with_events before.counts) c.told_is) c.world)

front_of_none : (old new : Option (List ℕ)) (text : List ℕ) → AppendsFront old new [] → AppendsFront old new text
front_of_none old new text h = front_before old new [] text h

stops_at : (number : ℕ) (s : Result Line LineRefusal) (status : Status) (w : World) (before after : Point) (close : Close)
    → IsWorld before.scene w → ClosesAt number (asked w.model s) before.scene close after.scene
    → after.counts ≡ with_events before.counts (told_at close) → HasStatus after.counts close status
    → (is_complete status ≡ true → Appends before.text after.text (text_at after.counts close))
    → AppendsFront before.text after.text (text_at after.counts close)
    → Stopped number (comes_of w s) status before.text after.text before.counts after.counts w after.scene.model after.scene.adapters after.scene.device
stops_at number s status w before after at_end h c counted of whole part = absurd c
stops_at number s status w before after (refused n why) h (same, is, stays) counted of whole part =
    let err = comes_not w s why is in
    let at : IsWorld after.scene w = subst (λ x. IsWorld x w) (sym stays) h in
    let ending : EndsAs (stops number why before.counts w) status before.text after.text after.counts after.scene.model after.scene.adapters after.scene.device = record {
      whole = λ c. record {
        status_is = of c;
        text = subst (λ n. Appends before.text after.text (refused_text n why)) same (whole c);
        counts_are = counted;
        after = at;
      };
      part = subst (λ n. AppendsFront before.text after.text (refused_text n why)) same part;
    } in
    record {
      refused = λ other e. subst (λ y. EndsAs (stops number y before.counts w) status before.text after.text after.counts
          after.scene.model after.scene.adapters after.scene.device) (err_is (comes_of w s) err e) ending;
      broken = λ entry e. absurd (err_ok (comes_of w s) err e);
      stays = λ other e. (counted, at);
      done = λ entry e. absurd (err_ok (comes_of w s) err e);
    }
stops_at number s status w before after (broken work told) h (is, b) counted of whole part =
    broke_at number status w work told (comes_of w s) before after h of (comes w s work is) counted b part
stops_at number s status w before after (unwritten work told) h (is, d) counted of whole part =
    unwritten_at number status w work told (comes_of w s) before after h of (comes w s work is) counted d part
stops_at number s status w before after cut h same counted of whole part =
    let at : IsWorld after.scene w = subst (λ x. IsWorld x w) (sym same) h in
    record {
      refused = λ why e. record {
        whole = λ c. absurd (true≢false (sym c ∙ of));
        part = front_of_none before.text after.text (refused_text number why) part;
      };
      broken = λ entry e. (of, front_of_none before.text after.text entry.text part);
      stays = λ why e. (counted, at);
      done = λ entry e. done_none entry.course.steps w before.counts after.counts after.scene.model after.scene.adapters
          after.scene.device counted at;
    }

turn_at : (number : ℕ) (s : Result Line LineRefusal) (w : World) (before after : Point) (turn : Turn) → IsWorld before.scene w
    → Turns number (asked w.model s) before after turn
    → IsTurn number (comes_of w s) before.text after.text before.counts after.counts w after.scene.model after.scene.adapters after.scene.device turn
turn_at number s w before after Next h t = ran_on s w before after h t
turn_at number s w before after (Stop status) h t =
    stops_at number s status w before after t.close h t.closes t.counted t.status_is t.whole t.part

-- what was run over a device that tells its state is what the line comes to there
pub judged_turn : (number : ℕ) (s : Result Line LineRefusal) (m n : ModelData) (a b : List Standing) (account later : Account)
    (before after : Option State) (old new : Option (List ℕ)) (counts now : Counts) (turn : Turn)
    → Turns number (asked m s) (record { scene = scene m a account before; text = old; counts = counts })
    (record { scene = scene n b later after; text = new; counts = now }) turn
    → IfSome before (λ d. IsTurn number (comes_of (world m a d) s) old new counts now (world m a d) n b after turn)
judged_turn number s m n a b account later None after old new counts now turn t = tt
judged_turn number s m n a b account later (Some d) after old new counts now turn t =
    turn_at number s (world m a d) (record { scene = scene m a account (Some d); text = old; counts = counts })
    (record { scene = scene n b later after; text = new; counts = now }) turn (here m a account d) t
