-- The events of a sequence's line are a run of it, and a shown event makes the status.
use Rattle.std.proofs.Common.{◌≡◌, ◌≢◌, ◌⊎◌, ℕ, ◌+◌, ◌<◌, ◌≤◌, ◌==◌, Bool, true, false, if◌then◌else◌, List, [], ◌∷◌, ◌++◌, length, map, Option, Some, Ok}
use Rattle.std.proofs.Common.{option_map, refl, sym, ap, subst, ◌∙◌, inl, inr, append_assoc, eqb-true, arith}
use Rattle.std.specs.Prelude.{count_ones}
use Rattle.std.proofs.lemmas.Bool.{and_parts, cases_lt, false_from_ne_true}
use Rattle.std.proofs.lemmas.Nat.{zero_from_ones}
use Rattle.rl_bus.specs.Account.{without_peer}
use Rattle.rl_access.specs.declared.event.Event.{Event}
use Rattle.rl_access.specs.Model.{ModelData}
use Rattle.rl_access.specs.Tally.{is_bus_error, more}
use Rattle.rl_access.specs.World.{World, Step, scene_at, step_of}
use Rattle.rl_access.proofs.Worlds.{step_is_call}
use Rattle.rl_seq.specs.declared.sequence.Sequence.{Sequence}
use Rattle.rl_seq.specs.Plan.{Plan, stop, step, look, Runs}
use Rattle.rl_script.specs.declared.line.Line.TheVariants as say
use Rattle.rl_script.specs.declared.line.Sequence.{Sequence as Word}
use Rattle.rl_log.specs.declared.counts.Counts.{Counts}
use Rattle.rl_log.specs.declared.status.Status.TheVariants.{Passed, Found}
use Rattle.rl_log.specs.Course.{told_of, along}
use Rattle.rl_log.specs.Endings.{is_clean, end_status}
use Rattle.rl_log.specs.Entry.{Entry, framed, plan_of, sequence_course}
use Rattle.rl_log.specs.Events.{Happened, happened, happened_in, happened_on, events_from, counted_on}
use Rattle.rl_log.specs.Laws.{EndsCounted, EndsRefused}
use Rattle.rl_log.specs.Lines.{told_at}
use Rattle.rl_log.specs.Log.{Ending, comes_of, goes_on, said, script_from, there, lines_text}
use Rattle.rl_log.specs.Named.{block_asked}
use Rattle.rl_log.specs.Recording.{with_event}
use Rattle.rl_log.proofs.EventLemmas.{every_event_counted}
use Rattle.rl_log.proofs.ScriptLemmas.{every_log_ends}
use Rattle.rl_detect_laws.specs.Logged.{Leads, HasLogged, SequenceIsLogged, Shows, ShownNeverPasses, ShownIsFound}
use Rattle.rl_detect_laws.specs.Visited.{RunsAll}

-- ---- the operations of a world are a run

record IsRun (p : Plan) (w : World) (errors : ℕ) : Type 0 where
  later : ℕ
  runs : Runs p (scene_at w (without_peer errors)) (along w p).told (scene_at (along w p).world (without_peer later))

run_along : (p : Plan) (w : World) (errors : ℕ) → IsRun p w errors
unfolding along
run_along stop w errors = record { later = errors; runs = refl }
run_along (step o p) w errors =
    let one = step_is_call w o errors in
    let rest = run_along p (step_of w o).world one.later in
    record {
      later = rest.later;
      runs = (scene_at (step_of w o).world (without_peer one.later), record { performs = one.performs; model = refl }, rest.runs);
    }
run_along (look f) w errors = let rest = run_along (f w.model) w errors in record { later = rest.later; runs = rest.runs }

-- each step is told with the model right after it
told_in : (m : ModelData) (steps : List Step) → map told_at (happened m steps) ≡ map told_of steps
told_in m [] = refl
told_in m (s ∷ steps) = ap (λ told. told_of s ∷ told) (told_in s.world.model steps)

along_tells : (w : World) (p : Plan) → (along w p).told ≡ map told_of (along w p).steps
unfolding along
along_tells w stop = refl
along_tells w (step o p) = ap (λ told. told_of (step_of w o) ∷ told) (along_tells (step_of w o).world p)
along_tells w (look f) = along_tells w (f w.model)

-- ---- the events of a line among those of the lines

record Splits (own events : List Happened) : Type 0 where
  earlier : List Happened
  later : List Happened
  all : events ≡ earlier ++ (own ++ later)

split_at : (before after : List (List ℕ)) (number : ℕ) (w v : World) (line : List ℕ) (e : Entry) → Leads number w before v
    → comes_of v (said (number + length before) line) ≡ Ok e
    → Splits (happened_in v e.course) (events_from number w (before ++ line ∷ after))
unfolding events_from
split_at [] after number w v line e same is =
    let rest = λ (x : World). events_from (number + 1) x after in
    let none : number ≡ number + 0 = omega arith in
    let here : comes_of w (said number line) ≡ Ok e =
    ap (λ x. comes_of x (said number line)) (sym same) ∙ ap (λ n. comes_of v (said n line)) none ∙ is in
    record {
      earlier = [];
      later = rest e.course.world;
      all = ap (λ r. happened_on w r rest) here
          ∙ ap (λ (x : World). happened_in x e.course ++ events_from (number + 1) e.course.world after) (sym same);
    }
split_at (text ∷ before) after number w v line e (f, first, leads) is =
    let rest = λ (x : World). events_from (number + 1) x (before ++ line ∷ after) in
    let next : number + 1 + length before ≡ number + length (text ∷ before) = omega arith in
    let more = split_at before after (number + 1) f.course.world v line e leads
    (ap (λ n. comes_of v (said n line)) next ∙ is) in
    let own = happened_in w f.course in
    record {
      earlier = own ++ more.earlier;
      later = more.later;
      all = ap (λ r. happened_on w r rest) first ∙ ap (λ es. own ++ es) more.all
          ∙ sym (append_assoc own more.earlier (happened_in v e.course ++ more.later));
    }

pub line_comes : (v : World) (word : Word) (over : Option (List ℕ)) (block : Option ℕ) → block_asked v.model.chip over ≡ Some block
    → comes_of v (Ok (say.Seq word over)) ≡ Ok (framed word over (sequence_course word block v))
line_comes v word over block is = ap (λ o. there (option_map (λ b. framed word over (sequence_course word b v)) o)) is

pub sequence_is_logged : SequenceIsLogged
sequence_is_logged number w v before after line which block s =
    let p = plan_of s.word v.model block in
    let course = sequence_course s.word block v in
    let parts = split_at before after number w v line (framed s.word s.over course) s.leads
    (ap (comes_of v) s.says ∙ line_comes v s.word s.over block s.block_is) in
    let run = run_along p v 0 in
    let new = scene_at (along v p).world (without_peer run.later) in
    let told : (along v p).told ≡ map told_at (happened_in v course) =
    along_tells v p ∙ sym (told_in v.model (along v p).steps) in
    record {
      earlier = parts.earlier;
      own = happened_in v course;
      later = parts.later;
      all = parts.all;
      new = new;
      runs = subst (λ (q : Sequence). RunsAll q block (scene_at v (without_peer 0)) (map told_at (happened_in v course)) new) s.sequence_is
          (subst (λ ts. Runs p (scene_at v (without_peer 0)) ts new) told run.runs);
    }

-- ---- what is counted

abbrev IsDirty : Counts → Type 0
IsDirty c = (0 < c.differences) ⊎ (0 < c.errors)

more_there : (count n : ℕ) → 0 < count → 0 < more count n
more_there count n h = omega (arith, h)

more_new : (count n : ℕ) → 0 < n → 0 < more count n
more_new count n h = omega (arith, h)

errors_there : (b : Bool) (count : ℕ) → 0 < count → 0 < (if b then more count 1 else count)
errors_there true count h = more_there count 1 h
errors_there false count h = h

still_dirty : (c : Counts) (e : Event) → IsDirty c → IsDirty (with_event c e)
still_dirty c e (inl h) = inl (more_there c.differences (count_ones e.differ) h)
still_dirty c e (inr h) = inr (errors_there (is_bus_error e.end) c.errors h)

some_ones : (n : ℕ) → n ≢ 0 → 0 < count_ones n
some_ones n other = by (cases_lt 0 (count_ones n))
  where
    by : (0 < count_ones n) ⊎ (count_ones n ≤ 0) → 0 < count_ones n
    by (inl some) = some
    by (inr none) = absurd (other (zero_from_ones n (omega (arith, none))))

shown_dirty : (c : Counts) (e : Event) → Shows e → IsDirty (with_event c e)
shown_dirty c e (inl named) = inl (more_new c.differences (count_ones e.differ) (some_ones e.differ named))
shown_dirty c e (inr failed) =
    inr (subst (λ b. 0 < (if b then more c.errors 1 else c.errors)) (sym failed) (more_new c.errors 1 (omega arith)))

dirty_on : (events : List Happened) (c : Counts) → IsDirty c → IsDirty (counted_on c events)
dirty_on [] c h = h
dirty_on (e ∷ events) c h = dirty_on events (with_event c e.event) (still_dirty c e.event h)

dirty_by : (events : List Happened) (c : Counts) → HasLogged Shows events → IsDirty (counted_on c events)
dirty_by [] c h = absurd h
dirty_by (e ∷ events) c (inl h) = dirty_on events (with_event c e.event) (shown_dirty c e.event h)
dirty_by (e ∷ events) c (inr h) = dirty_by events (with_event c e.event) h

not_clean : (c : Counts) → IsDirty c → is_clean c ≡ false
not_clean c h =
    false_from_ne_true (is_clean c)
    (λ yes. by h (and_parts (c.differences == 0) (c.errors == 0) yes))
  where
    by : IsDirty c → ((c.differences == 0) ≡ true) × ((c.errors == 0) ≡ true) → ⊥
    by (inl some) both = let none = eqb-true c.differences 0 both.0 in omega (arith, none, some)
    by (inr some) both = let none = eqb-true c.errors 0 both.1 in omega (arith, none, some)

ends_found : (number : ℕ) (counts : Counts) (w : World) (lines : List (List ℕ)) → HasLogged Shows (events_from number w lines)
    → end_status (script_from number counts w lines).counts ≡ Found
ends_found number counts w lines h =
    let dirty = subst IsDirty (sym (every_event_counted number counts w lines)) (dirty_by (events_from number w lines) counts h) in
    ap (λ b. if b then Passed else Found) (not_clean (script_from number counts w lines).counts dirty)

-- ---- the status

never_by : (number count : ℕ) (text : List ℕ) (e : Ending) → end_status e.counts ≡ Found
    → EndsCounted e text ⊎ EndsRefused e number count text → e.status ≢ Passed
never_by number count text e found (inl h) passed = let both : Found ≡ Passed = sym (h.status_is ∙ found) ∙ passed in absurd (cc)
never_by number count text e found (inr h) passed = let both = sym h.status_is ∙ passed in absurd (cc)

pub shown_never_passes : ShownNeverPasses
shown_never_passes number counts w lines h =
    never_by number (length lines) (lines_text number w lines) (script_from number counts w lines)
    (ends_found number counts w lines h) (every_log_ends number counts w lines)

-- a script none of whose lines is refused ends by its counts
ends_counted : (lines : List (List ℕ)) (number : ℕ) (counts : Counts) (w last : World) → Leads number w lines last
    → (script_from number counts w lines).status ≡ end_status (script_from number counts w lines).counts
unfolding script_from
ends_counted [] number counts w last same = refl
ends_counted (line ∷ lines) number counts w last (e, first, leads) =
    let rest = λ (c : Counts) (x : World). script_from (number + 1) c x lines in
    ap (λ r. (goes_on number counts w r rest).status) first
    ∙ ends_counted lines (number + 1) _ e.course.world last leads
    ∙ ap (λ r. end_status (goes_on number counts w r rest).counts) (sym first)

pub shown_is_found : ShownIsFound
shown_is_found number counts w last lines leads h =
    ends_counted lines number counts w last leads ∙ ends_found number counts w lines h
