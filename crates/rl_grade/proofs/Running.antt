-- A run of a script does its tasks, or stops at the line that is refused.
use Rattle.std.proofs.Common.{◌≡◌, ℕ, ◌+◌, List, [], ◌∷◌, ◌++◌, map, Option, Some, None, Result, Ok, Err, IfOk, refl, sym, ap, subst, ◌∙◌, append_assoc}
use Rattle.rl_access.specs.HandsOver.{Told}
use Rattle.rl_access.specs.Model.{ModelData, IsSameChip}
use Rattle.rl_access.specs.World.{Step, World}
use Rattle.rl_log.specs.declared.counts.Counts.{Counts}
use Rattle.rl_log.specs.declared.refusal.LineRefusal.{LineRefusal}
use Rattle.rl_log.specs.Course.{Course, nothing_done, told_of}
use Rattle.rl_log.specs.Entry.{Entry}
use Rattle.rl_log.specs.Events.{Happened, events_from, happened, happened_on}
use Rattle.rl_log.specs.Log.{Ending, after_text, comes_of, ends, goes_on, said, script_from, stops, there}
use Rattle.rl_log.specs.Recording.{with_events}
use Rattle.rl_log.proofs.EventLemmas.{IsFineEntry, comes_fine}
use Rattle.rl_grade.specs.declared.job.Job.{Job}
use Rattle.rl_grade.specs.declared.job.Task.{Task}
use Rattle.rl_grade.specs.Heard.{Heard, heard_at, heard_in}
use Rattle.rl_grade.specs.Job.{course_of, heard_by}
use Rattle.rl_grade.specs.Run.{ComesToItsEnd, HeardAreEvents, RunDoesTasks, RunStopsThere, StopsAt, heard_from, heard_on, told_after}
use Rattle.rl_grade.specs.Script.{RefusedLine, job_asked, tasks_at, tasks_from, tasks_on}
use Rattle.rl_grade.proofs.Asking.{Comes, comes}
use Rattle.rl_grade.proofs.Keeping.{course_keeps, same_on}

-- ---- the events

-- what the rest gives, from a world on
abbrev Rest : (m : ModelData) → Result (List Task) RefusedLine → (World → List Heard) → Type 0
Rest m rest heard = (v : World) (tasks : List Task) → IsSameChip m v.model → rest ≡ Ok tasks → heard_by v tasks ≡ heard v

heard_behind : (m : ModelData) (number : ℕ) (w : World) (job : Option Job) (e : Entry) (tasks : List Task) (heard : World → List Heard)
    → IsSameChip m w.model → Comes w (Ok job) (Ok e) → ((v : World) → IsSameChip m v.model → heard_by v tasks ≡ heard v)
    → heard_by w (tasks_at number job ++ tasks) ≡ heard_in number e.course ++ heard e.course.world
unfolding heard_by
heard_behind m number w None e tasks heard h (f, is, course) rest =
    let same : e.course ≡ nothing_done w = let entry : e ≡ f = cc in ap (λ (x : Entry). x.course) entry ∙ course in
    rest w h ∙ ap (λ (c : Course). heard_in number c ++ heard c.world) (sym same)
heard_behind m number w (Some job) e tasks heard h (f, is, course) rest =
    let same : e.course ≡ course_of job w = let entry : e ≡ f = cc in ap (λ (x : Entry). x.course) entry ∙ course in
    ap (λ hs. heard_in number (course_of job w) ++ hs)
    (rest (course_of job w).world (same_on m w.model (course_of job w).world.model h (course_keeps job w)))
    ∙ ap (λ (c : Course). heard_in number c ++ heard c.world) (sym same)

line_heard : (m : ModelData) (number : ℕ) (w : World) (asked : Result (Option Job) LineRefusal) (r : Result Entry LineRefusal)
    (rest : Result (List Task) RefusedLine) (tasks : List Task) (heard : World → List Heard)
    → IsSameChip m w.model → Comes w asked r → Rest m rest heard → tasks_on number asked rest ≡ Ok tasks
    → heard_by w tasks ≡ heard_on number r heard
line_heard m number w (Err why) r rest tasks heard h come more is = absurd (cc)
line_heard m number w (Ok job) r (Err at) tasks heard h come more is = absurd (cc)
line_heard m number w (Ok job) (Err why) (Ok others) tasks heard h come more is = absurd (no job come)
  where
    no : (job : Option Job) → Comes w (Ok job) (Err why) → ⊥
    no None (f, is, course) = cc
    no (Some j) (f, is, course) = cc
line_heard m number w (Ok job) (Ok e) (Ok others) tasks heard h come more is =
    let whole : tasks ≡ tasks_at number job ++ others = cc in
    ap (heard_by w) whole ∙ heard_behind m number w job e others heard h come (λ v k. more v others k refl)

script_heard : (lines : List (List ℕ)) (m : ModelData) (number : ℕ) (w : World) (tasks : List Task)
    → IsSameChip m w.model → tasks_from m number lines ≡ Ok tasks → heard_by w tasks ≡ heard_from number w lines
unfolding tasks_from heard_from heard_by
script_heard [] m number w [] h is = refl
script_heard [] m number w (t ∷ tasks) h is = absurd (cc)
script_heard (line ∷ lines) m number w tasks h is =
    line_heard m number w (job_asked m (said number line)) (comes_of w (said number line)) (tasks_from m (number + 1) lines) tasks
    (λ v. heard_from (number + 1) v lines) h (comes m w (said number line) h)
    (λ v others k rest. script_heard lines m (number + 1) v others k rest) is

-- ---- the ends

after_both : (first text : List ℕ) (e : Ending) → after_text first (after_text text e) ≡ after_text (first ++ text) e
after_both first text e = ap (λ t. let x : Ending = record e { text = t } in x) (sym (append_assoc first text e.text))

ends_behind : (first : List ℕ) (e : Ending) → ComesToItsEnd e → ComesToItsEnd (after_text first e)
ends_behind first e h = record {
  text = first ++ h.text;
  counts = h.counts;
  world = h.world;
  ends_so = ap (after_text first) h.ends_so ∙ after_both first h.text (ends h.counts h.world);
}

stops_behind : (first : List ℕ) (e : Ending) (at : RefusedLine) → StopsAt e at → StopsAt (after_text first e) at
stops_behind first e at h = record {
  text = first ++ h.text;
  counts = h.counts;
  world = h.world;
  stops_so = ap (after_text first) h.stops_so ∙ after_both first h.text (stops at.number at.why h.counts h.world);
}

-- where an asked line leads
after_job : (m : ModelData) (w : World) (job : Option Job) (e : Entry) → IsSameChip m w.model → Comes w (Ok job) (Ok e)
    → IsSameChip m e.course.world.model
after_job m w None e h (f, is, course) =
    let same : e.course ≡ nothing_done w = let entry : e ≡ f = cc in ap (λ (x : Entry). x.course) entry ∙ course in
    subst (λ (c : Course). IsSameChip m c.world.model) (sym same) h
after_job m w (Some job) e h (f, is, course) =
    let same : e.course ≡ course_of job w = let entry : e ≡ f = cc in ap (λ (x : Entry). x.course) entry ∙ course in
    subst (λ (c : Course). IsSameChip m c.world.model) (sym same)
    (same_on m w.model (course_of job w).world.model h (course_keeps job w))

none_comes : (w : World) (job : Option Job) (why : LineRefusal) → Comes w (Ok job) (Err why) → ⊥
none_comes w None why (f, is, course) = cc
none_comes w (Some j) why (f, is, course) = cc

line_ends : (m : ModelData) (number : ℕ) (counts : Counts) (w : World) (asked : Result (Option Job) LineRefusal)
    (r : Result Entry LineRefusal) (others : Result (List Task) RefusedLine) (rest : Counts → World → Ending) (tasks : List Task)
    → IsSameChip m w.model → Comes w asked r → tasks_on number asked others ≡ Ok tasks
    → ((c : Counts) (v : World) (tasks : List Task) → IsSameChip m v.model → others ≡ Ok tasks → ComesToItsEnd (rest c v))
    → ComesToItsEnd (goes_on number counts w r rest)
line_ends m number counts w (Err why) r others rest tasks h come is more = absurd (cc)
line_ends m number counts w (Ok job) r (Err at) rest tasks h come is more = absurd (cc)
line_ends m number counts w (Ok job) (Err why) (Ok others) rest tasks h come is more = absurd (none_comes w job why come)
line_ends m number counts w (Ok job) (Ok e) (Ok others) rest tasks h come is more =
    ends_behind e.text (rest (with_events counts e.course.told) e.course.world)
    (more (with_events counts e.course.told) e.course.world others (after_job m w job e h come) refl)

script_ends : (lines : List (List ℕ)) (m : ModelData) (number : ℕ) (counts : Counts) (w : World) (tasks : List Task)
    → IsSameChip m w.model → tasks_from m number lines ≡ Ok tasks → ComesToItsEnd (script_from number counts w lines)
unfolding tasks_from script_from
script_ends [] m number counts w tasks h is = record { text = []; counts = counts; world = w; ends_so = refl }
script_ends (line ∷ lines) m number counts w tasks h is =
    line_ends m number counts w (job_asked m (said number line)) (comes_of w (said number line)) (tasks_from m (number + 1) lines)
    (λ c v. script_from (number + 1) c v lines) tasks h (comes m w (said number line) h) is
    (λ c v others k rest. script_ends lines m (number + 1) c v others k rest)

line_stops : (m : ModelData) (number : ℕ) (counts : Counts) (w : World) (asked : Result (Option Job) LineRefusal)
    (r : Result Entry LineRefusal) (others : Result (List Task) RefusedLine) (rest : Counts → World → Ending) (at : RefusedLine)
    → IsSameChip m w.model → Comes w asked r → tasks_on number asked others ≡ Err at
    → ((c : Counts) (v : World) → IsSameChip m v.model → others ≡ Err at → StopsAt (rest c v) at)
    → StopsAt (goes_on number counts w r rest) at
line_stops m number counts w (Err why) (Ok e) others rest at h come is more = absurd (cc)
line_stops m number counts w (Err why) (Err reason) others rest at h come is more =
    let same : reason ≡ why = cc in
    let there : at ≡ record { number = number; why = why } = cc in
    record {
      text = [];
      counts = counts;
      world = w;
      stops_so = ap (λ y. stops number y counts w) same ∙ ap (λ (a : RefusedLine). stops a.number a.why counts w) (sym there);
    }
line_stops m number counts w (Ok job) r (Ok tasks) rest at h come is more = absurd (cc)
line_stops m number counts w (Ok job) (Err why) (Err before) rest at h come is more = absurd (none_comes w job why come)
line_stops m number counts w (Ok job) (Ok e) (Err before) rest at h come is more =
    stops_behind e.text (rest (with_events counts e.course.told) e.course.world) at
    (more (with_events counts e.course.told) e.course.world (after_job m w job e h come) is)

script_stops : (lines : List (List ℕ)) (m : ModelData) (number : ℕ) (counts : Counts) (w : World) (at : RefusedLine)
    → IsSameChip m w.model → tasks_from m number lines ≡ Err at → StopsAt (script_from number counts w lines) at
unfolding tasks_from script_from
script_stops [] m number counts w at h is = absurd (cc)
script_stops (line ∷ lines) m number counts w at h is =
    line_stops m number counts w (job_asked m (said number line)) (comes_of w (said number line)) (tasks_from m (number + 1) lines)
    (λ c v. script_from (number + 1) c v lines) at h (comes m w (said number line) h) is
    (λ c v k rest. script_stops lines m (number + 1) c v at k rest)

pub run_does_tasks : RunDoesTasks
run_does_tasks m number counts w lines tasks h is =
    record { heard = script_heard lines m number w tasks h is; ending = script_ends lines m number counts w tasks h is }

pub run_stops_there : RunStopsThere
run_stops_there m number counts w lines at h is = script_stops lines m number counts w at h is

-- ---- the events of the log

told_in : (number : ℕ) (told : List Told) (more : List Heard) → map (λ h. h.told) (map (heard_at number) told ++ more) ≡ told ++ map (λ h. h.told) more
told_in number [] more = refl
told_in number (t ∷ told) more = ap (λ ts. t ∷ ts) (told_in number told more)

told_steps : (m : ModelData) (steps : List Step) (more : List Happened)
    → map told_after (happened m steps ++ more) ≡ map told_of steps ++ map told_after more
told_steps m [] more = refl
told_steps m (s ∷ steps) more = ap (λ ts. told_of s ∷ ts) (told_steps s.world.model steps more)

line_events : (number : ℕ) (w : World) (r : Result Entry LineRefusal) (heard : World → List Heard) (events : World → List Happened)
    → IfOk r (IsFineEntry w) → ((v : World) → map (λ h. h.told) (heard v) ≡ map told_after (events v))
    → map (λ h. h.told) (heard_on number r heard) ≡ map told_after (happened_on w r events)
line_events number w (Err why) heard events fine more = refl
line_events number w (Ok e) heard events fine more =
    told_in number e.course.told (heard e.course.world)
    ∙ ap (λ ts. ts ++ map (λ h. h.told) (heard e.course.world)) fine.tells
    ∙ ap (λ ts. map told_of e.course.steps ++ ts) (more e.course.world)
    ∙ sym (told_steps w.model e.course.steps (events e.course.world))

pub heard_are_events : HeardAreEvents
unfolding heard_from events_from
heard_are_events number w [] = refl
heard_are_events number w (line ∷ lines) =
    line_events number w (comes_of w (said number line)) (λ v. heard_from (number + 1) v lines) (λ v. events_from (number + 1) v lines)
    (comes_fine w (said number line)) (λ v. heard_are_events (number + 1) v lines)
