-- Each event of a script is lawful, and is counted.
use Rattle.std.proofs.Common.{
  ◌≡◌,
  ◌⊎◌,
  inl,
  inr,
  ℕ,
  ◌+◌,
  Bool,
  true,
  false,
  if◌then◌else◌,
  List,
  [],
  ◌∷◌,
  ◌++◌,
  map,
  Option,
  Some,
  None,
  IfSome,
  Result,
  Ok,
  Err,
  IfOk,
  option_map,
  refl,
  sym,
  ap,
  subst,
  ◌∙◌,
}
use Rattle.std.specs.List.{AllByRecursion}
use Rattle.std.specs.Prelude.{All}
use Rattle.std.proofs.lemmas.List.Elements.{All-from_recursion}
use Rattle.rl_bus.specs.Account.{without_peer}
use Rattle.rl_access.specs.declared.event.End.TheVariants as end
use Rattle.rl_access.specs.declared.event.Op.{Op}
use Rattle.rl_access.specs.declared.event.Op.TheVariants as op
use Rattle.rl_access.specs.declared.event.Refused.{Refused}
use Rattle.rl_access.specs.declared.trace.TraceItem.{TraceItem}
use Rattle.rl_access.specs.Call.{Scene, Performs}
use Rattle.rl_access.specs.HandsOver.{Told}
use Rattle.rl_access.specs.Laws.{ChecksRegister, is_any_check, HasReadNothing}
use Rattle.rl_access.specs.Model.{ModelData}
use Rattle.rl_access.specs.Operation.{register_of}
use Rattle.rl_access.specs.Rules.{Grant, grant, named, Outcome, quiet, event_at}
use Rattle.rl_access.specs.Runs.{write_grant, writes_of, reads_of}
use Rattle.rl_access.specs.Tally.{is_bus_error}
use Rattle.rl_access.specs.World.{World, Step, step_by, step_of, unchanged, done_at, items_at, scene_at}
use Rattle.rl_access.proofs.Beliefs.{event_tells, error_keeps, check_names, location_marks, nothing_differs}
use Rattle.rl_access.proofs.Worlds.{step_is_call}
use Rattle.rl_seq.specs.Plan.{Plan, stop, step, look}
use Rattle.rl_script.specs.declared.line.Line.{Line}
use Rattle.rl_script.specs.declared.line.Line.TheVariants as line
use Rattle.rl_log.specs.declared.counts.Counts.{Counts}
use Rattle.rl_log.specs.declared.refusal.LineRefusal.{LineRefusal}
use Rattle.rl_log.specs.Course.{Course, told_of, alone, first_then, through, along, burst}
use Rattle.rl_log.specs.Entry.{Entry, plain, plan_of, framed, sequence_course, op_course, burst_write_course, burst_read_course, with_both, op_entry, entry_of}
use Rattle.rl_log.specs.Events.{Happened, happened, happened_in, happened_on, events_from, IsLawful, EveryEventLawful, counted_on, EveryEventCounted}
use Rattle.rl_log.specs.Log.{Ending, said, there, comes_of, goes_on, script_from}
use Rattle.rl_log.specs.Named.{mem_named, map_asked, block_asked, op_named}
use Rattle.rl_log.specs.Recording.{with_event, with_events}

-- ---- a step

op_told : (r : Option ℕ) (o : Op) (items : List TraceItem) (out : Outcome) → (event_at r o items out).op ≡ o
op_told None o items out = refl
op_told (Some reg) o items out = refl

-- an event names its operation, with the map that was used
names_by : (w : World) (o : Op) (g : Grant) → (step_by w o g).event.op ≡ named w.model o
names_by w o (Ok place) = op_told (register_of w.model.chip (named w.model o)) (named w.model o) _ _
names_by w o (Err why) = op_told (register_of w.model.chip (named w.model o)) (named w.model o) [] (quiet (end.Refused why) w.model)

event_names : (w : World) (o : Op) → (step_of w o).event.op ≡ named w.model o
unfolding step_of
event_names w o = names_by w o (grant w.model o)

asked : (m : ModelData) (o : Op) (reg : ℕ) → ChecksRegister (named m o) reg → ChecksRegister o reg
asked m (op.Check checked map) reg h = h
asked m (op.BackCheck checked) reg h = h
asked m _ reg h = absurd h

same_kind : (m : ModelData) (o : Op) → is_any_check (named m o) ≡ is_any_check o
same_kind m (op.Write reg map value) = refl
same_kind m _ = refl

-- a check of a location, with a map that was asked for
pub record AskedAt (o : Op) (mem index value : ℕ) : Type 0 where
  pub map : Option ℕ
  pub is : o ≡ op.MemCheck mem map index value

memory_asked : (m : ModelData) (o : Op) (mem index value : ℕ) (map : Option ℕ) → named m o ≡ op.MemCheck mem map index value → AskedAt o mem index value
memory_asked m (op.MemCheck a given b v) mem index value map e = record { map = given; is = cc }
memory_asked m _ mem index value map e = absurd (cc)

-- what happened by a step
abbrev by_step : World → Step → Happened
by_step w s = record { before = w.model; event = s.event; after = s.world.model }

done_lawful : (w : World) (o : Op) → IsLawful (by_step w (step_of w o))
done_lawful w o =
    let p = step_is_call w o 0 in
    let old = scene_at w (without_peer 0) in
    let new = scene_at (step_of w o).world (without_peer p.later) in
    let e = (step_of w o).event in
    let names = event_names w o in
    record {
      error = λ word is. error_keeps old new o e word p.performs is;
      check = λ reg read k c is. check_names old new o e reg read k p.performs (asked w.model o reg (subst (λ x. ChecksRegister x reg) names c)) is;
      memory_check = λ mem index value read map is ends.
          let a = memory_asked w.model o mem index value map (sym names ∙ is) in
          location_marks old new e mem index value read a.map (subst (λ x. Performs old new x e) a.is p.performs) ends;
      nothing_else = λ h. nothing_differs old new o e p.performs (either (HasReadNothing e.end) names h);
    }
  where
    either : (R : Type 0) → (step_of w o).event.op ≡ named w.model o → (is_any_check (step_of w o).event.op ≡ false) ⊎ R → (is_any_check o ≡ false) ⊎ R
    either R names (inl none) = inl (sym (same_kind w.model o) ∙ ap is_any_check (sym names) ∙ none)
    either R names (inr nothing) = inr nothing

refused_lawful : (w : World) (o : Op) (why : Refused) → IsLawful (by_step w (unchanged w o why))
refused_lawful w o why =
    let r = register_of w.model.chip (named w.model o) in
    let tells = event_tells r (named w.model o) [] (quiet (end.Refused why) w.model) in
    record {
      error = λ word is. let no = sym tells.end_is ∙ is in absurd (cc);
      check = λ reg read k c is. let no = sym tells.end_is ∙ is in absurd (cc);
      memory_check = λ mem index value read map asked is. let no = sym tells.end_is ∙ is in absurd (cc);
      nothing_else = λ h. tells.differ_is;
    }

-- ---- one after another

abbrev AreLawful : ModelData → List Step → Type 0
AreLawful m steps = AllByRecursion IsLawful (happened m steps)

through_lawful : (w : World) (ops : List Op) → AreLawful w.model (through w ops).steps
unfolding through
through_lawful w [] = tt
through_lawful w (o ∷ ops) = by (is_bus_error (step_of w o).event.end) (through_lawful (step_of w o).world ops)
  where
    by : (b : Bool) → AreLawful (step_of w o).world.model (through (step_of w o).world ops).steps
        → AreLawful w.model (if b then alone (step_of w o) else first_then (step_of w o) (through (step_of w o).world ops)).steps
    by true rest = (done_lawful w o, tt)
    by false rest = (done_lawful w o, rest)

along_lawful : (w : World) (p : Plan) → AreLawful w.model (along w p).steps
unfolding along
along_lawful w stop = tt
along_lawful w (step o p) = (done_lawful w o, along_lawful (step_of w o).world p)
along_lawful w (look f) = along_lawful w (f w.model)

burst_lawful : (w : World) (g : Grant) (o : Op) (ops : List Op) → AreLawful w.model (burst w g o ops).steps
burst_lawful w (Ok place) o ops = through_lawful w ops
burst_lawful w (Err why) o ops = (refused_lawful w o why, tt)

-- ---- what is told of them

pub through_tells : (w : World) (ops : List Op) → (through w ops).told ≡ map told_of (through w ops).steps
unfolding through
through_tells w [] = refl
through_tells w (o ∷ ops) = by (is_bus_error (step_of w o).event.end) (through_tells (step_of w o).world ops)
  where
    by : (b : Bool) → (through (step_of w o).world ops).told ≡ map told_of (through (step_of w o).world ops).steps
        → (if b then alone (step_of w o) else first_then (step_of w o) (through (step_of w o).world ops)).told
        ≡ map told_of (if b then alone (step_of w o) else first_then (step_of w o) (through (step_of w o).world ops)).steps
    by true rest = refl
    by false rest = ap (λ told. told_of (step_of w o) ∷ told) rest

along_tells : (w : World) (p : Plan) → (along w p).told ≡ map told_of (along w p).steps
unfolding along
along_tells w stop = refl
along_tells w (step o p) = ap (λ told. told_of (step_of w o) ∷ told) (along_tells (step_of w o).world p)
along_tells w (look f) = along_tells w (f w.model)

burst_tells : (w : World) (g : Grant) (o : Op) (ops : List Op) → (burst w g o ops).told ≡ map told_of (burst w g o ops).steps
burst_tells w (Ok place) o ops = through_tells w ops
burst_tells w (Err why) o ops = refl

-- ---- a line

pub record IsFineEntry (w : World) (e : Entry) : Type 0 where
  pub lawful : AreLawful w.model e.course.steps
  pub tells : e.course.told ≡ map told_of e.course.steps

both_fine : (w : World) (n : Option ℕ) (t : Option (Option ℕ)) (make : ℕ → Option ℕ → Entry) → ((i : ℕ) (t : Option ℕ) → IsFineEntry w (make i t)) → IfSome (with_both n t make) (IsFineEntry w)
both_fine w None t make h = tt
both_fine w (Some i) None make h = tt
both_fine w (Some i) (Some t) make h = h i t

made_fine : {A : Type 0} (w : World) (o : Option A) (make : A → Entry) → ((x : A) → IsFineEntry w (make x)) → IfSome (option_map make o) (IsFineEntry w)
made_fine w None make h = tt
made_fine w (Some x) make h = h x

one_fine : (w : World) (l : Line) → IfSome (op_entry w l) (IsFineEntry w)
one_fine w l = made_fine w (op_named w.model l) (λ o. plain (op_course o w)) (λ o. record { lawful = (done_lawful w o, tt); tells = refl })

pub entry_fine : (w : World) (l : Line) → IfSome (entry_of w l) (IsFineEntry w)
entry_fine w line.Blank = record { lawful = tt; tells = refl }
entry_fine w (line.BurstWrite mem first values map) =
    both_fine w (mem_named w.model.chip mem) (map_asked w.model.layout map) (λ i t. plain (burst_write_course i t first values w)) (λ i t.
    record {
      lawful = burst_lawful w (write_grant w.model i t first values) _ (writes_of i t first values);
      tells = burst_tells w (write_grant w.model i t first values) _ (writes_of i t first values);
    })
entry_fine w (line.BurstRead mem first count map) =
    both_fine w (mem_named w.model.chip mem) (map_asked w.model.layout map) (λ i t. plain (burst_read_course i t first count w)) (λ i t.
    record {
      lawful = burst_lawful w (grant w.model (op.BurstRead i t first count)) _ (reads_of i t first count);
      tells = burst_tells w (grant w.model (op.BurstRead i t first count)) _
          (reads_of i t first count);
    })
entry_fine w (line.Seq which over) =
    made_fine w (block_asked w.model.chip over) (λ block. framed which over (sequence_course which block w)) (λ block.
    record { lawful = along_lawful w (plan_of which w.model block); tells = along_tells w (plan_of which w.model block) })
entry_fine w l = one_fine w l

there_fine : (w : World) (o : Option Entry) → IfSome o (IsFineEntry w) → IfOk (there o) (IsFineEntry w)
there_fine w None h = tt
there_fine w (Some e) h = h

pub comes_fine : (w : World) (s : Result Line LineRefusal) → IfOk (comes_of w s) (IsFineEntry w)
comes_fine w (Ok l) = there_fine w (entry_of w l) (entry_fine w l)
comes_fine w (Err why) = tt

-- ---- a script

append_all : (xs ys : List Happened) → AllByRecursion IsLawful xs → AllByRecursion IsLawful ys → AllByRecursion IsLawful (xs ++ ys)
append_all [] ys a b = b
append_all (x ∷ xs) ys a b = (a.0, append_all xs ys a.1 b)

line_lawful : (w : World) (r : Result Entry LineRefusal) (rest : World → List Happened) → IfOk r (IsFineEntry w) → ((v : World) → AllByRecursion IsLawful (rest v)) →
    AllByRecursion IsLawful (happened_on w r rest)
line_lawful w (Err why) rest h more = tt
line_lawful w (Ok e) rest h more = append_all (happened_in w e.course) (rest e.course.world) h.lawful (more e.course.world)

events_lawful : (lines : List (List ℕ)) (number : ℕ) (w : World) → AllByRecursion IsLawful (events_from number w lines)
unfolding events_from
events_lawful [] number w = tt
events_lawful (text ∷ lines) number w =
    line_lawful w (comes_of w (said number text)) (λ v. events_from (number + 1) v lines) (comes_fine w (said number text)) (λ v. events_lawful lines (number + 1) v)

pub every_event_lawful : EveryEventLawful
every_event_lawful number w lines = All-from_recursion IsLawful (events_from number w lines) (events_lawful lines number w)

-- ---- counted

pub counted_steps : (m : ModelData) (steps : List Step) (counts : Counts) → with_events counts (map told_of steps) ≡ counted_on counts (happened m steps)
counted_steps m [] counts = refl
counted_steps m (s ∷ steps) counts = counted_steps s.world.model steps (with_event counts s.event)

pub counted_more : (xs ys : List Happened) (counts : Counts) → counted_on counts (xs ++ ys) ≡ counted_on (counted_on counts xs) ys
counted_more [] ys counts = refl
counted_more (x ∷ xs) ys counts = counted_more xs ys (with_event counts x.event)

line_counted : (number : ℕ) (counts : Counts) (w : World) (r : Result Entry LineRefusal) (rest : Counts → World → Ending) (events : World → List Happened)
    → IfOk r (IsFineEntry w) → ((counts : Counts) (v : World) → (rest counts v).counts ≡ counted_on counts (events v))
    → (goes_on number counts w r rest).counts ≡ counted_on counts (happened_on w r events)
line_counted number counts w (Err why) rest events h more = refl
line_counted number counts w (Ok e) rest events h more =
    more (with_events counts e.course.told) e.course.world
    ∙ ap (λ c. counted_on c (events e.course.world)) (ap (with_events counts) h.tells ∙ counted_steps w.model e.course.steps counts)
    ∙ sym (counted_more (happened_in w e.course) (events e.course.world) counts)

script_counted : (lines : List (List ℕ)) (number : ℕ) (counts : Counts) (w : World) → (script_from number counts w lines).counts ≡ counted_on counts (events_from number w lines)
unfolding script_from events_from
script_counted [] number counts w = refl
script_counted (text ∷ lines) number counts w =
    line_counted number counts w (comes_of w (said number text)) (λ counts v. script_from (number + 1) counts v lines) (λ v. events_from (number + 1) v lines)
    (comes_fine w (said number text)) (λ counts v. script_counted lines (number + 1) counts v)

pub every_event_counted : EveryEventCounted
every_event_counted number counts w lines = script_counted lines number counts w
