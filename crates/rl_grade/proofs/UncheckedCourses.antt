-- Operations one after another where no flaw changes a compared field of a register: no event of the register shows anything.
use Rattle.std.proofs.Common.{◌≡◌, ◌⊎◌, inl, inr, ℕ, ◌+◌, Bool, true, false, if◌then◌else◌, List, [], ◌∷◌, length, map, All, Option, Some, None, Ok, Err, refl, sym, ap, subst, ◌∙◌}
use Rattle.std.proofs.lemmas.Bool.{cases_eq}
use Rattle.std.proofs.lemmas.List.Elements.{All-append, All-cons, All-map, All-nil}
use Rattle.rl_policy.specs.Bits.{bit}
use Rattle.rl_bus.specs.Setup.{Flaws}
use Rattle.rl_bus.specs.Standing.{Standing, standing_at}
use Rattle.rl_bus.specs.State.{State}
use Rattle.rl_model.specs.Fields.{first_of}
use Rattle.rl_model.specs.Rows.{ChipData}
use Rattle.rl_map.specs.Layout.{LayoutData}
use Rattle.rl_mirror.specs.Mirror.{MirrorData}
use Rattle.rl_access.specs.declared.event.Event.{Event}
use Rattle.rl_access.specs.declared.event.Op.{Op}
use Rattle.rl_access.specs.declared.event.Op.TheVariants as op
use Rattle.rl_access.specs.declared.predictor.Gathered.{Gathered}
use Rattle.rl_access.specs.declared.event.Refused.{Refused}
use Rattle.rl_access.specs.declared.trace.TraceItem.{TraceItem}
use Rattle.rl_access.specs.HandsOver.{Told}
use Rattle.rl_access.specs.Items.{adapter_for}
use Rattle.rl_access.specs.Operation.{register_of}
use Rattle.rl_access.specs.Rules.{Grant, Outcome, event_at, grant, named}
use Rattle.rl_access.specs.Runs.{reads_of, write_grant, writes_of}
use Rattle.rl_access.specs.Tally.{is_bus_error}
use Rattle.rl_access.specs.World.{Step, World, step_by, step_of, unchanged, world}
use Rattle.rl_seq.specs.Plan.{Plan, look, step, stop}
use Rattle.rl_log.specs.Course.{Course, along, alone, burst, first_then, through}
use Rattle.rl_log.specs.Entry.{plan_of}
use Rattle.rl_grade.specs.declared.job.Job.{Job}
use Rattle.rl_grade.specs.declared.job.Job.TheVariants.{BurstRead, BurstWrite, One, Sequence}
use Rattle.rl_grade.specs.declared.job.Task.{Task}
use Rattle.rl_grade.specs.Heard.{Heard, heard_at, heard_in}
use Rattle.rl_grade.specs.Job.{course_of, heard_by}
use Rattle.rl_grade.proofs.HiddenFlaws.{bare}
use Rattle.rl_grade.proofs.Related.{flawed}
use Rattle.rl_grade.proofs.TogetherAccess.{AreSound}
use Rattle.rl_grade.proofs.TogetherMakeup.{IsCalm, same_makeup}
use Rattle.rl_grade.proofs.TogetherOutcomes.{is_of_memory, modelled}
use Rattle.rl_grade.proofs.TogetherSteps.{Rests, SameReg, StepsIn, by_parts, named_register, none_is, rests_bare, same_reg, step_in, step_on, step_op, step_reset}
use Rattle.rl_grade.proofs.UncheckedAccess.{Agrees, IsDevice, IsSpared, reset_agrees}
use Rattle.rl_grade.proofs.UncheckedBeliefs.{own_reg}
use Rattle.rl_grade.proofs.UncheckedOutcomes.{quiet_on}

-- an event of the register names no field, and ends by no bus error
pub record ShowsNothing (e : Event) : Type 0 where
  pub differ : e.differ ≡ 0
  pub error : is_bus_error e.end ≡ false

abbrev pub IsQuietIn : ChipData → (r : ℕ) → Event → Type 0
IsQuietIn c r e = register_of c e.op ≡ Some r → ShowsNothing e

-- a world whose device has the compared fields of the register as believed
pub record Agreed (c : ChipData) (l : LayoutData) (g : Flaws) (r : ℕ) (w : World) : Type 0 where
  pub rests : Rests c l g w
  pub agrees : Agrees c r w.device w.model.mirror

pub record IsQuietStep (c : ChipData) (l : LayoutData) (g : Flaws) (r : ℕ) (s : Step) : Type 0 where
  pub event : IsQuietIn c r s.event
  pub world : Agreed c l g r s.world

pub record IsQuietCourse (c : ChipData) (l : LayoutData) (g : Flaws) (r : ℕ) (x : Course) : Type 0 where
  pub told : All (λ (t : Told). IsQuietIn c r t.event) x.told
  pub world : Agreed c l g r x.world

-- a step on the register itself
record IsOwnStep (c : ChipData) (r : ℕ) (s : Step) : Type 0 where
  shows : ShowsNothing s.event
  agrees : Agrees c r s.world.device s.world.model.mirror

event_shows : (k : Option ℕ) (o : Op) (items : List TraceItem) (x : Outcome) → x.differ ≡ 0 → is_bus_error x.end ≡ false → ShowsNothing (event_at k o items x)
event_shows None o items x none fine = record { differ = none; error = fine }
event_shows (Some q) o items x none fine = record { differ = none; error = fine }

pub in_device : (c : ChipData) (l : LayoutData) (g : Flaws) (w : World) → Rests c l g w → IsDevice c l g w.device
in_device c l g w rests = record { setup = rests.setup; beats = rests.beats; bits = rests.bits; marks = rests.marks }

some_is : (p q : ℕ) → Some p ≡ Some q → p ≡ q
some_is p q is = cc

no_value : (p : ℕ) → None ≡ Some p → ⊥
no_value p is = cc

module _ (c : ChipData) (l : LayoutData) (sound : AreSound c l) (g : Flaws) (calm : IsCalm (flawed (bare c l) g)) (r : ℕ) (spared : IsSpared c l g r) where
  abbrev Stays : World → Type 0
  Stays w = Agreed c l g r w

  abbrev QuietStep : Step → Type 0
  QuietStep s = IsQuietStep c l g r s

  abbrev QuietCourse : Course → Type 0
  QuietCourse x = IsQuietCourse c l g r x

  abbrev Quiet : Event → Type 0
  Quiet e = IsQuietIn c r e

  -- what is the same of the register
  kept : (w v : World) → SameReg c r w v → Agrees c r w.device w.model.mirror → Agrees c r v.device v.model.mirror
  kept w v same agrees = record {
    bits = λ b k one.
        ap (λ x. bit x b) same.bits ∙ agrees.bits b k one ∙ sym (ap (λ x. bit x b) same.belief.mirrored);
    marks = λ b k one.
        ap (λ x. bit x b) same.marks ∙ agrees.marks b k one ∙ sym (same.belief.spent (first_of c r + k) (own_reg c r b k sound.chip spared.there one));
  }

  -- ---- of the register

  own_by : (m : MirrorData) (gathered : List Gathered) (a : List Standing) (d : State) (o : Op) (k : Grant) → grant (modelled c l m gathered) o ≡ k → register_of c o ≡ Some r
      → Stays (world (modelled c l m gathered) a d) → IsOwnStep c r (step_by (world (modelled c l m gathered) a d) o k)
  own_by m gathered a d o (Ok place) so is stays =
      let w = world (modelled c l m gathered) a d in
      let s = standing_at a (adapter_for l place) in
      let came = quiet_on c l sound g calm m gathered s d o place r is spared
      (record { device = in_device c l g w stays.rests; size = stays.rests.size; agrees = stays.agrees }) so in
      record {
        shows = event_shows (register_of c (named (modelled c l m gathered) o)) (named (modelled c l m gathered) o) _ _ came.differ came.error;
        agrees = came.agrees;
      }
  own_by m gathered a d o (Err why) so is stays = record {
    shows = event_shows (register_of c (named (modelled c l m gathered) o)) (named (modelled c l m gathered) o) [] _ refl refl;
    agrees = stays.agrees;
  }

  own_step : (w : World) (o : Op) → register_of c o ≡ Some r → Stays w → IsOwnStep c r (step_of w o)
  unfolding step_of
  own_step w o is stays =
      by_parts c l g w stays.rests (λ y. IsOwnStep c r (step_by y o (grant y.model o)))
      (own_by w.model.mirror w.model.gathered w.adapters w.device o (grant (modelled c l w.model.mirror w.model.gathered) o) refl is
      (record { rests = rests_bare c l sound g g calm calm g w stays.rests; agrees = record { bits = stays.agrees.bits; marks = stays.agrees.marks } }))

  -- ---- of others

  -- the register of a step's event
  its_register : (w : World) (o : Op) → Stays w → register_of c (step_of w o).event.op ≡ register_of c o
  its_register w o stays =
      ap (register_of c) (step_op w o)
      ∙ subst (λ (x : ChipData). register_of x (named w.model o) ≡ register_of x o) stays.rests.chip (named_register w.model o)

  quiet_none : (w : World) (o : Op) → Stays w → register_of c o ≡ None → Quiet (step_of w o).event
  quiet_none w o stays is = λ at. absurd (no_value r (sym (its_register w o stays ∙ is) ∙ at))

  on_memory : (w : World) (o : Op) → Stays w → register_of c o ≡ None → is_of_memory o ≡ true → QuietStep (step_of w o)
  on_memory w o stays is memory =
      let both = step_on c l sound g g calm calm w w o stays.rests stays.rests is memory refl in
      record {
        event = quiet_none w o stays is;
        world = record { rests = both.rests; agrees = kept w (step_of w o).world (both.beside r) stays.agrees };
      }

  reset_in : (m : MirrorData) (gathered : List Gathered) (a : List Standing) (d : State) (kind : ℕ) → Stays (world (modelled c l m gathered) a d)
      → Agrees c r (step_of (world (modelled c l m gathered) a d) (op.Reset kind)).world.device (step_of (world (modelled c l m gathered) a d) (op.Reset kind)).world.model.mirror
  unfolding step_of
  reset_in m gathered a d kind stays =
      reset_agrees c l sound g calm r spared kind d m (in_device c l g (world (modelled c l m gathered) a d) stays.rests) stays.rests.size stays.agrees

  on_reset : (w : World) (kind : ℕ) → Stays w → QuietStep (step_of w (op.Reset kind))
  on_reset w kind stays =
      let both = step_reset c l sound g g calm calm w w kind r stays.rests stays.rests (same_reg c r w) (same_makeup (flawed (bare c l) g) r) refl in
      record {
        event = quiet_none w (op.Reset kind) stays refl;
        world = record {
          rests = both.rests;
          agrees = by_parts c l g w stays.rests (λ y. Agrees c r (step_of y (op.Reset kind)).world.device (step_of y (op.Reset kind)).world.model.mirror)
              (reset_in w.model.mirror w.model.gathered w.adapters w.device kind
              (record { rests = rests_bare c l sound g g calm calm g w stays.rests; agrees = record { bits = stays.agrees.bits; marks = stays.agrees.marks } }));
        };
      }

  on_register : (w : World) (o : Op) (q : ℕ) → register_of c o ≡ Some q → Stays w → QuietStep (step_of w o)
  on_register w o q is stays = by (cases_eq q r)
    where
      both : StepsIn c l g q w (step_of w o) (step_of w o)
      both = step_in c l sound g g calm calm w w o q stays.rests stays.rests (same_reg c q w) (same_makeup (flawed (bare c l) g) q) is

      by : (q ≡ r) ⊎ (q ≡ r → ⊥) → QuietStep (step_of w o)
      by (inl same) =
          let own = own_step w o (is ∙ ap Some same) stays in
          record { event = λ at. own.shows; world = record { rests = both.rests; agrees = own.agrees } }
      by (inr apart) = record {
        event = λ at. absurd (apart (some_is q r (sym (its_register w o stays ∙ is) ∙ at)));
        world = record { rests = both.rests; agrees = kept w (step_of w o).world (both.beside r (λ same. apart (sym same))) stays.agrees };
      }

  step_by_register : (w : World) (o : Op) (k : Option ℕ) → register_of c o ≡ k → Stays w → QuietStep (step_of w o)
  step_by_register w o (Some q) is stays = on_register w o q is stays
  step_by_register w o None is stays = by (none_is c o is)
    where
      by : (is_of_memory o ≡ true) ⊎ ((kind : ℕ) × (o ≡ op.Reset kind)) → QuietStep (step_of w o)
      by (inl memory) = on_memory w o stays is memory
      by (inr (kind, reset)) = subst (λ p. QuietStep (step_of w p)) (sym reset) (on_reset w kind stays)

  -- ---- one after another

  pub quiet_step : (w : World) (o : Op) → Stays w → QuietStep (step_of w o)
  quiet_step w o stays = step_by_register w o (register_of c o) refl stays

  alone_quiet : (s : Step) → QuietStep s → QuietCourse (alone s)
  alone_quiet s quiet = record { told = All-cons (λ (t : Told). Quiet t.event) _ [] quiet.event (All-nil (λ (t : Told). Quiet t.event)); world = quiet.world }

  then_quiet : (s : Step) (x : Course) → QuietStep s → QuietCourse x → QuietCourse (first_then s x)
  then_quiet s x quiet rest = record { told = All-cons (λ (t : Told). Quiet t.event) _ x.told quiet.event rest.told; world = rest.world }

  if_quiet : (a : Bool) (x y : Course) → QuietCourse x → QuietCourse y → QuietCourse (if a then x else y)
  if_quiet true x y h k = h
  if_quiet false x y h k = k

  through_quiet : (ops : List Op) (w : World) → Stays w → QuietCourse (through w ops)
  unfolding through
  through_quiet [] w stays = record { told = All-nil (λ (t : Told). Quiet t.event); world = stays }
  through_quiet (o ∷ ops) w stays =
      let s = step_of w o in
      let quiet = quiet_step w o stays in
      if_quiet (is_bus_error s.event.end) (alone s) (first_then s (through s.world ops)) (alone_quiet s quiet)
      (then_quiet s (through s.world ops) quiet (through_quiet ops s.world quiet.world))

  along_quiet : (p : Plan) (w : World) → Stays w → QuietCourse (along w p)
  unfolding along
  along_quiet stop w stays = record { told = All-nil (λ (t : Told). Quiet t.event); world = stays }
  along_quiet (step o p) w stays =
      let s = step_of w o in
      let quiet = quiet_step w o stays in
      then_quiet s (along s.world p) quiet (along_quiet p s.world quiet.world)
  along_quiet (look f) w stays = along_quiet (f w.model) w stays

  refused_quiet : (w : World) (o : Op) (why : Refused) → Stays w → QuietStep (unchanged w o why)
  refused_quiet w o why stays =
      record { event = λ at. event_shows (register_of w.model.chip (named w.model o)) (named w.model o) [] _ refl refl; world = stays }

  burst_quiet : (k : Grant) (o : Op) (ops : List Op) (w : World) → Stays w → QuietCourse (burst w k o ops)
  burst_quiet (Ok place) o ops w stays = through_quiet ops w stays
  burst_quiet (Err why) o ops w stays = alone_quiet (unchanged w o why) (refused_quiet w o why stays)

  job_quiet : (job : Job) (w : World) → Stays w → QuietCourse (course_of job w)
  job_quiet (One o) w stays = alone_quiet (step_of w o) (quiet_step w o stays)
  job_quiet (BurstWrite mem map from values) w stays =
      burst_quiet (write_grant w.model mem map from values) (op.BurstWrite mem map from (length values)) (writes_of mem map from values) w stays
  job_quiet (BurstRead mem map from count) w stays =
      burst_quiet (grant w.model (op.BurstRead mem map from count)) (op.BurstRead mem map from count) (reads_of mem map from count) w stays
  job_quiet (Sequence which block) w stays = along_quiet (plan_of which w.model block) w stays

  abbrev HeardQuiet : Heard → Type 0
  HeardQuiet h = Quiet h.told.event

  pub tasks_quiet : (tasks : List Task) (w : World) → Stays w → All HeardQuiet (heard_by w tasks)
  unfolding heard_by
  tasks_quiet [] w stays = All-nil HeardQuiet
  tasks_quiet (task ∷ tasks) w stays =
      let x = course_of task.job w in
      let quiet = job_quiet task.job w stays in
      All-append HeardQuiet (heard_in task.line x) (heard_by x.world tasks) (All-map HeardQuiet (heard_at task.line) x.told quiet.told) (tasks_quiet tasks x.world quiet.world)
