-- The events of a job, and of tasks one after another, go to a recorder.
use Rattle.std.proofs.Common.{◌≡◌, ℕ, true, false, List, [], ◌∷◌, ◌++◌, map, Some, Result, Ok, Err, OnOk, OnErr, MatchResult, refl, sym, ap, subst, ◌∙◌, append_assoc}
use Rattle.std.specs.Result.{is_err, IsErr}
use Rattle.rl_bus.specs.Standing.{Standing}
use Rattle.rl_bus.specs.State.{State}
use Rattle.rl_access.specs.declared.event.Event.{Event}
use Rattle.rl_access.specs.declared.event.Op.{Op}
use Rattle.rl_access.specs.declared.event.Tally.{Tally}
use Rattle.rl_access.specs.Call.{Scene, Performs}
use Rattle.rl_access.specs.HandsOver.{Told, TakesAll, BreaksAtLast, HandsOver}
use Rattle.rl_access.specs.Model.{ModelData}
use Rattle.rl_access.specs.Rules.{Grant}
use Rattle.rl_access.specs.Runs.{IsBurst}
use Rattle.rl_access.specs.World.{World, world, IsAt, step_of}
use Rattle.rl_access.proofs.Worlds.{IsWorld, performed}
use Rattle.rl_seq.specs.Plan.{Plan, IsSequence}
use Rattle.rl_log.specs.Course.{Course, along, burst}
use Rattle.rl_log.specs.Entry.{op_course}
use Rattle.rl_play.specs.Work.{Work, planned, burst as burst_work, Does, BreaksOff}
use Rattle.rl_play.proofs.Courses.{IsCourse, IsFrontOf}
use Rattle.rl_play.proofs.Judging.{course_of as work_course, does_course, breaks_course}
use Rattle.rl_grade.specs.declared.job.Task.{Task}
use Rattle.rl_grade.specs.Drive.{Broke, Drives, DrivesAll, LeadsTo, told_of}
use Rattle.rl_grade.specs.Heard.{Heard, heard_at}
use Rattle.rl_grade.specs.Job.{course_of, heard_by}

told_again : (line : ℕ) (told : List Told) (others : List Heard)
    → told_of (map (heard_at line) told ++ others) ≡ told ++ told_of others
told_again line [] others = refl
told_again line (t ∷ told) others = ap (◌∷◌ t) (told_again line told others)

map_split : (line : ℕ) (done : List Told) (last : Told) (others : List Told) (rest : List Heard)
    → map (heard_at line) done ++ heard_at line last ∷ (map (heard_at line) others ++ rest)
    ≡ map (heard_at line) (done ++ last ∷ others) ++ rest
map_split line [] last others rest = refl
map_split line (t ∷ done) last others rest = ap (◌∷◌ (heard_at line t)) (map_split line done last others rest)

some_same : {x y : State} → Some x ≡ Some y → x ≡ y
some_same e = cc

pub on_ok : {T E P : Type 0} (r : Result T E) → is_err r ≡ false → OnOk r P → P
on_ok (Ok x) e p = p
on_ok (Err x) e p = absurd (cc)

pub on_err : {T E P : Type 0} (r : Result T E) → is_err r ≡ true → OnErr r P → P
on_err (Ok x) e p = absurd (cc)
on_err (Err x) e p = p

pub world_is : (m : ModelData) (a : List Standing) (d : State) (w : World) → IsAt m a (Some d) w → world m a d ≡ w
world_is m a d w h =
    ap (λ m. world m a d) h.model_is ∙ ap (λ a. world w.model a d) h.adapters_are
    ∙ ap (world w.model w.adapters) (some_same h.device_is)

module _ {R : Type 0} (takes breaks : R → ModelData → Event → R → Type 0) where
  broke : (old new : R) (told rest all : List Told) → told ++ rest ≡ all → BreaksAtLast takes breaks old told new
      → Broke takes breaks old new all
  broke old new [] rest all split b = absurd b
  broke old new (t ∷ []) rest all split b =
      record { done = []; last = t; others = rest; split = split; mid = old; taken = refl; broken = b }
  broke old new (t ∷ u ∷ told) rest all split (mid, took, b) =
      let more = broke mid new (u ∷ told) rest ((u ∷ told) ++ rest) refl b in
      record {
        done = t ∷ more.done;
        last = more.last;
        others = more.others;
        split = ap (◌∷◌ t) more.split ∙ split;
        mid = more.mid;
        taken = (mid, took, more.taken);
        broken = more.broken;
      }

  drives : {T E : Type 0} (old new : R) (told : List Told) (s : Scene) (c : Course) (r : Result T E)
      → HandsOver takes breaks old told new r → MatchResult r (λ x. IsCourse told s c) (λ e. IsFrontOf told s c)
      → Drives takes breaks old new c s.model s.adapters s.device r
  drives old new told s c (Ok x) handed is = record {
    whole = subst (λ ts. TakesAll takes old ts new) is.told_is handed.all;
    after = is.world;
    part = tt;
  }
  drives old new told s c (Err e) handed is =
      record { whole = tt; after = tt; part = broke old new told is.rest c.told is.all handed.part }

  courses : {T E : Type 0} (work : Work) (told : List Told) (s new : Scene) (w : World) (r : Result T E) → IsWorld s w
      → MatchResult r (λ x. Does work s told new) (λ e. BreaksOff work s told new)
      → MatchResult r (λ x. IsCourse told new (work_course w work)) (λ e. IsFrontOf told new (work_course w work))
  courses work told s new w (Ok x) h d = does_course work told s new w h d
  courses work told s new w (Err e) h d = breaks_course work told s new w h d

  pub drives_plan : {E : Type 0} (old new : R) (s after : Scene) (w : World) (p : Plan) (r : Result Tally E) → IsWorld s w
      → IsSequence takes breaks old new s after p r
      → Drives takes breaks old new (along w p) after.model after.adapters after.device r
  drives_plan old new s after w p r h q =
      drives old new q.told after (along w p) r q.handed (courses (planned p) q.told s after w r h q.run)

  pub drives_burst : {E : Type 0} (old new : R) (s after : Scene) (w : World) (g : Grant) (op : Op) (ops : List Op)
      (r : Result Tally E) → IsWorld s w → IsBurst takes breaks old new s after g op ops r
      → Drives takes breaks old new (burst w g op ops) after.model after.adapters after.device r
  drives_burst old new s after w (Ok place) op ops (Ok x) h b =
      drives old new b.told after (burst w (Ok place) op ops) (Ok x) b.handed
      (does_course (burst_work (Ok place) op ops) b.told s after w h b.run.0)
  drives_burst old new s after w (Ok place) op ops (Err e) h b =
      drives old new b.told after (burst w (Ok place) op ops) (Err e) b.handed
      (breaks_course (burst_work (Ok place) op ops) b.told s after w h b.run)
  drives_burst old new s after w (Err why) op ops (Ok x) h b =
      let told = record { model = s.model; event = b.event } ∷ [] in
      drives old new told after (burst w (Err why) op ops) (Ok x) b.handed
      (does_course (burst_work (Err why) op ops) told s after w h
      (record { event = b.event; refused = b.refused; told_is = refl }))
  drives_burst old new s after w (Err why) op ops (Err e) h b =
      let told = record { model = s.model; event = b.event } ∷ [] in
      drives old new told after (burst w (Err why) op ops) (Err e) b.handed
      (breaks_course (burst_work (Err why) op ops) told s after w h
      (record { event = b.event; refused = b.refused; told_is = refl }))

  -- one operation
  pub drives_one : {T E : Type 0} (old new : R) (s after : Scene) (w : World) (op : Op) (e : Event) (r : Result T E)
      → IsWorld s w → Performs s after op e → OnOk r (takes old after.model e new) → OnErr r (breaks old after.model e new)
      → Drives takes breaks old new (op_course op w) after.model after.adapters after.device r
  drives_one old new s after w op e (Ok x) h p took broke_it =
      let st = performed s after w op e h p in
      record {
        whole = (
          new,
          subst (λ ev. takes old (step_of w op).world.model ev new) st.event_is
              (subst (λ m. takes old m e new) st.after.model_is took),
          refl,
        );
        after = st.after;
        part = tt;
      }
  drives_one old new s after w op e (Err x) h p took broke_it =
      let st = performed s after w op e h p in
      record {
        whole = tt;
        after = tt;
        part = record {
          done = [];
          last = record { model = (step_of w op).world.model; event = (step_of w op).event };
          others = [];
          split = refl;
          mid = old;
          taken = refl;
          broken = subst (λ ev. breaks old (step_of w op).world.model ev new) st.event_is
              (subst (λ m. breaks old m e new) st.after.model_is broke_it);
        };
      }

  pub drives_broken : {T E : Type 0} (old new : R) (s after : Scene) (w : World) (op : Op) (e : Event) (r : Result T E)
      → IsErr r → IsWorld s w → Performs s after op e → breaks old after.model e new
      → Drives takes breaks old new (op_course op w) after.model after.adapters after.device r
  drives_broken old new s after w op e (Ok x) failed h p broke_it = absurd (let no : false ≡ true = failed in cc)
  drives_broken old new s after w op e (Err x) failed h p broke_it = drives_one old new s after w op e (Err x) h p tt broke_it

  -- ---- tasks one after another

  takes_both : (old mid new : R) (told more : List Told) → TakesAll takes old told mid → TakesAll takes mid more new
      → TakesAll takes old (told ++ more) new
  takes_both old mid new [] more same rest = subst (λ x. TakesAll takes x more new) same rest
  takes_both old mid new (t ∷ told) more (next, took, others) rest =
      (next, took, takes_both next mid new told more others rest)

  takes_heard : (line : ℕ) (old mid new : R) (told : List Told) (more : List Heard) → TakesAll takes old told mid
      → TakesAll takes mid (told_of more) new → TakesAll takes old (told_of (map (heard_at line) told ++ more)) new
  takes_heard line old mid new told more first rest =
      subst (λ ts. TakesAll takes old ts new) (sym (told_again line told more))
      (takes_both old mid new told (told_of more) first rest)

  -- behind a line that was done whole
  drives_next : {T : Type 0} (line : ℕ) (old mid new : R) (told : List Told) (more : List Heard) (r : Result T ℕ)
      → TakesAll takes old told mid → DrivesAll takes breaks mid new more r
      → DrivesAll takes breaks old new (map (heard_at line) told ++ more) r
  drives_next line old mid new told more (Ok x) first d =
      record { whole = takes_heard line old mid new told more first d.whole; part = tt }
  drives_next line old mid new told more (Err n) first d =
      let b = d.part in
      record {
        whole = tt;
        part = record {
          done = map (heard_at line) told ++ b.done;
          last = b.last;
          others = b.others;
          split = append_assoc (map (heard_at line) told) b.done (b.last ∷ b.others)
              ∙ ap (λ hs. map (heard_at line) told ++ hs) b.split;
          line_is = b.line_is;
          mid = b.mid;
          taken = takes_heard line old mid b.mid told b.done first b.taken;
          broken = b.broken;
        };
      }

  -- a line at which the recorder failed
  pub drives_stop : {T : Type 0} (w : World) (t : Task) (tasks : List Task) (old new : R)
      → Broke takes breaks old new (course_of t.job w).told
      → DrivesAll {T = T} takes breaks old new (heard_by w (t ∷ tasks)) (Err t.line)
  unfolding heard_by
  drives_stop w t tasks old new b = record {
    whole = tt;
    part = record {
      done = map (heard_at t.line) b.done;
      last = heard_at t.line b.last;
      others = map (heard_at t.line) b.others ++ heard_by (course_of t.job w).world tasks;
      split = map_split t.line b.done b.last b.others (heard_by (course_of t.job w).world tasks)
          ∙ ap (λ ts. map (heard_at t.line) ts ++ heard_by (course_of t.job w).world tasks) b.split;
      line_is = refl;
      mid = b.mid;
      taken = subst (λ ts. TakesAll takes old ts b.mid) (sym (told_map t.line b.done)) b.taken;
      broken = b.broken;
    };
  }
    where
      told_map : (line : ℕ) (told : List Told) → told_of (map (heard_at line) told) ≡ told
      told_map line [] = refl
      told_map line (t ∷ told) = ap (◌∷◌ t) (told_map line told)

  pub drives_on : {T : Type 0} (w : World) (t : Task) (tasks : List Task) (old mid new : R)
      (m : ModelData) (a : List Standing) (d : State) (r : Result T ℕ)
      → TakesAll takes old (course_of t.job w).told mid → IsAt m a (Some d) (course_of t.job w).world
      → DrivesAll takes breaks mid new (heard_by (world m a d) tasks) r
      → DrivesAll takes breaks old new (heard_by w (t ∷ tasks)) r
  unfolding heard_by
  drives_on w t tasks old mid new m a d r first at rest =
      drives_next t.line old mid new (course_of t.job w).told (heard_by (course_of t.job w).world tasks) r first
      (subst (λ v. DrivesAll takes breaks mid new (heard_by v tasks) r) (world_is m a d (course_of t.job w).world at) rest)

  pub drives_none : {T : Type 0} (w : World) (rec : R) (x : T) → DrivesAll takes breaks rec rec (heard_by w []) (Ok x)
  unfolding heard_by
  drives_none w rec x = record { whole = refl; part = tt }

  -- what hands over the tasks behind one that was done whole hands over those from it on
  pub leads_on : (w : World) (t : Task) (from left : List Task) (first old mid : R) (all : List Heard)
      (m : ModelData) (a : List Standing) (d : State)
      → from ≡ t ∷ left → LeadsTo takes breaks first all old (heard_by w from)
      → TakesAll takes old (course_of t.job w).told mid → IsAt m a (Some d) (course_of t.job w).world
      → LeadsTo takes breaks first all mid (heard_by (world m a d) left)
  leads_on w t from left first old mid all m a d is before took at = λ new r rest.
      before new r (subst (λ ts. DrivesAll takes breaks old new (heard_by w ts) r) (sym is)
      (drives_on w t left old mid new m a d r took at rest))

  pub leads_out : (w : World) (t : Task) (from left : List Task) (first old new : R) (all : List Heard) (line : ℕ)
      → from ≡ t ∷ left → line ≡ t.line → LeadsTo takes breaks first all old (heard_by w from)
      → Broke takes breaks old new (course_of t.job w).told
      → DrivesAll {T = Unit {0}} takes breaks first new all (Err line)
  leads_out w t from left first old new all line is number before broke_it =
      before new (Err line)
      (subst (λ ts. DrivesAll {T = Unit {0}} takes breaks old new (heard_by w ts) (Err line)) (sym is)
      (subst (λ n. DrivesAll {T = Unit {0}} takes breaks old new (heard_by w (t ∷ left)) (Err n)) (sym number) (drives_stop w t left old new broke_it)))

  pub leads_end : (w : World) (from : List Task) (first old : R) (all : List Heard)
      → from ≡ [] → LeadsTo takes breaks first all old (heard_by w from) → DrivesAll {T = Unit {0}} takes breaks first old all (Ok tt)
  leads_end w from first old all is before =
      before old (Ok tt) (subst (λ ts. DrivesAll {T = Unit {0}} takes breaks old old (heard_by w ts) (Ok tt)) (sym is) (drives_none w old tt))
