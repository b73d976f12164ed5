-- Operations one after another in two worlds in which one register and the memories are the same: what is told of these is the same.
use Rattle.std.proofs.Common.{◌≡◌, ◌⊎◌, inl, inr, ℕ, zero, suc, ◌+◌, ◌*◌, Bool, true, false, not, ◌&&◌, ◌==◌, if◌then◌else◌, List, [], ◌∷◌, ◌++◌, length, map, Option, Some, None, option_map, Ok, Err, refl, sym, ap, subst, ◌∙◌}
use Rattle.std.specs.Prelude.{◌^◌, bit_xor, nat_lt}
use Rattle.std.specs.List.{list_all}
use Rattle.std.proofs.lemmas.Bool.{cases_eq}
use Rattle.std.proofs.lemmas.List.{map-append}
use Rattle.rl_bus.specs.Setup.{Flaws}
use Rattle.rl_model.specs.Fields.{size_of}
use Rattle.rl_model.specs.Rows.{ChipData}
use Rattle.rl_model.specs.declared.rows.Item.TheVariants as item
use Rattle.rl_map.specs.Layout.{LayoutData}
use Rattle.rl_mirror.specs.Mirror.{mirrored_of}
use Rattle.rl_access.specs.declared.event.Event.{Event}
use Rattle.rl_access.specs.declared.event.Op.{Op}
use Rattle.rl_access.specs.declared.event.Op.TheVariants as op
use Rattle.rl_access.specs.HandsOver.{Told}
use Rattle.rl_access.specs.Model.{ModelData}
use Rattle.rl_access.specs.declared.event.Refused.TheVariants.{TooWide}
use Rattle.rl_access.specs.Operation.{location_size, register_of}
use Rattle.rl_access.specs.Rules.{Grant, grant, memory_size, only_where}
use Rattle.rl_access.specs.Runs.{reads_of, write_grant, writes_of}
use Rattle.rl_access.specs.Tally.{is_bus_error}
use Rattle.rl_access.specs.World.{Step, World, step_of, unchanged}
use Rattle.rl_seq.specs.declared.sequence.Sequence.{Sequence as Named}
use Rattle.rl_seq.specs.declared.sequence.Sequence.TheVariants as named
use Rattle.rl_seq.specs.Choice.{is_bit_compared, is_of, low_bits, may_read, turned_round}
use Rattle.rl_seq.specs.Plan.{Plan, each_below, followed_by, look, only_if, step, stop}
use Rattle.rl_seq.specs.Sequences.{access_at, at_place, bash_bit, bash_once, beginning_of, check_at, check_filled, check_last, check_other, fill, is_chosen, is_visited, items_of, map_at, plan_of as sequence_plan}
use Rattle.rl_seq.specs.Sequences.{settle_before, share_at, visit, visit_all, walk, walk_location, write_number}
use Rattle.rl_log.specs.Course.{Course, along, alone, burst, first_then, through}
use Rattle.rl_log.specs.Entry.{burst_read_course, burst_write_course, plan_of, sequence_of}
use Rattle.rl_grade.specs.declared.job.Job.{Job}
use Rattle.rl_grade.specs.declared.job.Job.TheVariants.{BurstRead, BurstWrite, One, Sequence}
use Rattle.rl_grade.specs.declared.job.Task.{Task}
use Rattle.rl_grade.specs.Heard.{heard_at, heard_in}
use Rattle.rl_grade.specs.Job.{course_of, heard_by}
use Rattle.rl_grade.specs.Together.{account_of, line_told, told_in}
use Rattle.rl_grade.proofs.HiddenFlaws.{bare}
use Rattle.rl_grade.proofs.Related.{flawed}
use Rattle.rl_grade.proofs.TogetherAccess.{AreSound}
use Rattle.rl_grade.proofs.TogetherMakeup.{IsCalm, SameMakeup}
use Rattle.rl_grade.proofs.TogetherOutcomes.{is_of_memory, modelled}
use Rattle.rl_grade.proofs.TogetherSteps.{Alike, OpsFit, StepPair, grant_same, memory_end, memory_pair, refused_pair, step_pair}

-- ---- plans

-- Step by step they fit, whatever is believed of other registers.
abbrev pub PlansFit : ChipData → (r : ℕ) → Plan → Plan → Type 0
PlansFit c r stop stop = Unit {0}
PlansFit c r (step o p) (step k q) = OpsFit c r o k × PlansFit c r p q
PlansFit c r (look f) (look k) = (m n : ModelData) → mirrored_of n.mirror r ≡ mirrored_of m.mirror r → PlansFit c r (f m) (k n)
PlansFit c r stop (step k q) = ⊥
PlansFit c r stop (look k) = ⊥
PlansFit c r (step o p) stop = ⊥
PlansFit c r (step o p) (look k) = ⊥
PlansFit c r (look f) stop = ⊥
PlansFit c r (look f) (step k q) = ⊥

module _ (c : ChipData) (r : ℕ) where
  abbrev Fit : Plan → Plan → Type 0
  Fit = PlansFit c r

  fit_then : (p q x y : Plan) → Fit p q → Fit x y → Fit (followed_by p x) (followed_by q y)
  fit_then stop stop x y h k = k
  fit_then (step o p) (step i q) x y h k = (h.0, fit_then p q x y h.1 k)
  fit_then (look f) (look i) x y h k = λ m n same. fit_then (f m) (i n) x y (h m n same) k
  fit_then stop (step i q) x y h k = absurd h
  fit_then stop (look i) x y h k = absurd h
  fit_then (step o p) stop x y h k = absurd h
  fit_then (step o p) (look i) x y h k = absurd h
  fit_then (look f) stop x y h k = absurd h
  fit_then (look f) (step i q) x y h k = absurd h

  fit_if : (b : Bool) (p q : Plan) → Fit p q → Fit (only_if b p) (only_if b q)
  fit_if true p q h = h
  fit_if false p q h = tt

  fit_each : (n : ℕ) (f k : ℕ → Plan) → ((i : ℕ) → Fit (f i) (k i)) → Fit (each_below n f) (each_below n k)
  fit_each zero f k h = tt
  fit_each (suc n) f k h = fit_then (each_below n f) (each_below n k) (f n) (k n) (fit_each n f k h) (h n)

  one : (o : Op) → OpsFit c r o o
  one o = inl refl

  -- an operation on a register, made of what is believed of it
  by_value : (reg : ℕ) (make : ℕ → Op) → ((v : ℕ) → register_of c (make v) ≡ Some reg) → (m n : ModelData) → mirrored_of n.mirror r ≡ mirrored_of m.mirror r
      → OpsFit c r (make (mirrored_of m.mirror reg)) (make (mirrored_of n.mirror reg))
  by_value reg make is m n same = by (cases_eq reg r)
    where
      by : (reg ≡ r) ⊎ (reg ≡ r → ⊥) → OpsFit c r (make (mirrored_of m.mirror reg)) (make (mirrored_of n.mirror reg))
      by (inl at) = inl (ap make (ap (mirrored_of n.mirror) at ∙ same ∙ sym (ap (mirrored_of m.mirror) at)))
      by (inr apart) = inr (reg, apart, is (mirrored_of m.mirror reg), is (mirrored_of n.mirror reg))

  fit_check : (l : LayoutData) (reg place : ℕ) → Fit (check_at l reg place) (check_at l reg place)
  fit_check l reg place = (one (op.Check reg (Some (map_at l place))), tt)

  fit_bash : (reg map bit : ℕ) → Fit (bash_once reg map bit) (bash_once reg map bit)
  fit_bash reg map bit = λ m n same. (
    by_value reg (λ v. op.Write reg (Some map) (bit_xor v (2 ^ bit))) (λ v. refl) m n same,
    (one (op.Check reg (Some map)), tt),
  )

  fit_bit : (reg map bit : ℕ) → Fit (bash_bit c reg map bit) (bash_bit c reg map bit)
  fit_bit reg map bit =
      fit_if (is_bit_compared c reg bit) _ _ (fit_then (bash_once reg map bit) (bash_once reg map bit) (bash_once reg map bit) (bash_once reg map bit) (fit_bash reg map bit) (fit_bash reg map bit))

  fit_access : (reg map : ℕ) → Fit (access_at c reg map) (access_at c reg map)
  fit_access reg map = λ m n same. (
    by_value reg (λ v. op.Write reg (Some map) (turned_round c (item.Reg reg) v)) (λ v. refl) m n same,
    (one (op.BackCheck reg), (by_value reg (λ v. op.BackWrite reg v) (λ v. refl) m n same, (one (op.Check reg (Some map)), tt))),
  )

  fit_share : (l : LayoutData) (reg place : ℕ) → Fit (share_at c l reg place) (share_at c l reg place)
  fit_share l reg place = λ m n same. (
    by_value reg (λ v. op.Write reg (Some (map_at l place)) (turned_round c (item.Reg reg) v)) (λ v. refl) m n same,
    fit_each (length l.places) (check_other l reg place) (check_other l reg place) (λ i.
        fit_if (not (i == place) && (is_of l i (item.Reg reg) && may_read l i)) (check_at l reg i) (check_at l reg i) (fit_check l reg i)),
  )

  fit_one : (o : Op) → Fit (step o stop) (step o stop)
  fit_one o = (one o, tt)

  fit_filled : (mem at k : ℕ) → Fit (check_filled c mem at k) (check_filled c mem at k)
  fit_filled mem at k = fit_one (op.MemCheck mem (Some at) k (turned_round c (item.Mem mem) k))

  fit_settled : (mem at k : ℕ) → Fit (settle_before c mem at k) (settle_before c mem at k)
  fit_settled mem at zero = tt
  fit_settled mem at (suc k) =
      fit_then (check_filled c mem at k) (check_filled c mem at k) (write_number c mem at k) (write_number c mem at k) (fit_filled mem at k)
      (fit_one (op.MemWrite mem (Some at) k (low_bits c (item.Mem mem) k)))

  fit_walk : (mem at k : ℕ) → Fit (walk_location c mem at k) (walk_location c mem at k)
  fit_walk mem at k =
      let rest = followed_by (settle_before c mem at k) (check_last c mem at k) in
      fit_then (fill c mem at k) (fill c mem at k) rest rest (fit_one (op.MemWrite mem (Some at) k (turned_round c (item.Mem mem) k)))
      (fit_then (settle_before c mem at k) (settle_before c mem at k) (check_last c mem at k) (check_last c mem at k) (fit_settled mem at k)
      (fit_if (k + 1 == memory_size c mem) (check_filled c mem at k) (check_filled c mem at k) (fit_filled mem at k)))

  fit_place : (which : Named) (l : LayoutData) (number place : ℕ) → Fit (at_place which c l number place) (at_place which c l number place)
  fit_place named.HwReset l reg place = fit_check l reg place
  fit_place named.BitBash l reg place =
      fit_each (8 * size_of c reg) (bash_bit c reg (map_at l place)) (bash_bit c reg (map_at l place)) (λ bit. fit_bit reg (map_at l place) bit)
  fit_place named.Access l reg place = fit_access reg (map_at l place)
  fit_place named.Shared l reg place = fit_share l reg place
  fit_place named.MemWalk l mem place =
      fit_each (memory_size c mem) (walk_location c mem (map_at l place)) (walk_location c mem (map_at l place)) (λ k. fit_walk mem (map_at l place) k)

  fit_beginning : (which : Named) → Fit (beginning_of which) (beginning_of which)
  fit_beginning named.HwReset = (one (op.Reset 0), tt)
  fit_beginning named.BitBash = tt
  fit_beginning named.Access = tt
  fit_beginning named.Shared = tt
  fit_beginning named.MemWalk = tt

  -- each sequence
  fit_plan : (which : Named) (l : LayoutData) (block : Option ℕ) → Fit (sequence_plan which c l block) (sequence_plan which c l block)
  fit_plan which l block =
      fit_then (beginning_of which) (beginning_of which) (walk which c l block) (walk which c l block) (fit_beginning which)
      (fit_each (items_of which c) (visit_all which c l block) (visit_all which c l block)
      (λ number. fit_if (is_chosen which c l block number) _ _
      (fit_each (length l.places) (visit which c l number) (visit which c l number)
      (λ place. fit_if (is_visited which l number place) _ _ (fit_place which l number place)))))

-- ---- courses

abbrev told_as : ChipData → (r : ℕ) → Told → Option Event
told_as c r t = told_in c r t.event

record CoursePair (c : ChipData) (l : LayoutData) (g h : Flaws) (r : ℕ) (x y : Course) : Type 0 where
  told : map (told_as c r) y.told ≡ map (told_as c r) x.told
  worlds : Alike c l g h r x.world y.world

module _ (c : ChipData) (l : LayoutData) (sound : AreSound c l) (g h : Flaws) (first : IsCalm (flawed (bare c l) g)) (second : IsCalm (flawed (bare c l) h))
    (r : ℕ) (made : SameMakeup (flawed (bare c l) g) (flawed (bare c l) h) r) where
  abbrev Same : World → World → Type 0
  Same = Alike c l g h r

  abbrev Courses : Course → Course → Type 0
  Courses = CoursePair c l g h r

  abbrev Pair : Step → Step → Type 0
  Pair = StepPair c l g h r

  alone_pair : (s z : Step) → Pair s z → Courses (alone s) (alone z)
  alone_pair s z pair = record { told = ap (λ x. x ∷ []) pair.told; worlds = pair.worlds }

  then_pair : (s z : Step) (x y : Course) → Pair s z → Courses x y → Courses (first_then s x) (first_then z y)
  then_pair s z x y pair rest = record {
    told = ap (λ a. a ∷ map (told_as c r) y.told) pair.told ∙ ap (λ more. told_in c r s.event ∷ more) rest.told;
    worlds = rest.worlds;
  }

  if_pair : (a b : Bool) (x y p q : Course) → b ≡ a → Courses x p → Courses y q → Courses (if a then x else y) (if b then p else q)
  if_pair true true x y p q is h k = h
  if_pair false false x y p q is h k = k
  if_pair true false x y p q is h k = absurd cc
  if_pair false true x y p q is h k = absurd cc

  along_pair : (p q : Plan) (w v : World) → PlansFit c r p q → Same w v → Courses (along w p) (along v q)
  unfolding along
  along_pair stop stop w v fit alike = record { told = refl; worlds = alike }
  along_pair (step o p) (step k q) w v fit alike =
      let pair = step_pair c l sound g h first second r made o k w v fit.0 alike in
      then_pair (step_of w o) (step_of v k) (along (step_of w o).world p) (along (step_of v k).world q) pair
      (along_pair p q (step_of w o).world (step_of v k).world fit.1 pair.worlds)
  along_pair (look f) (look k) w v fit alike = along_pair (f w.model) (k v.model) w v (fit w.model v.model alike.same.belief.mirrored) alike
  along_pair stop (step k q) w v fit alike = absurd fit
  along_pair stop (look k) w v fit alike = absurd fit
  along_pair (step o p) stop w v fit alike = absurd fit
  along_pair (step o p) (look k) w v fit alike = absurd fit
  along_pair (look f) stop w v fit alike = absurd fit
  along_pair (look f) (step k q) w v fit alike = absurd fit

  -- operations on a memory
  abbrev AreOnMemory : List Op → Type 0
  AreOnMemory [] = Unit {0}
  AreOnMemory (o ∷ ops) = (register_of c o ≡ None) × (is_of_memory o ≡ true) × AreOnMemory ops

  through_pair : (ops : List Op) (w v : World) → AreOnMemory ops → Same w v → Courses (through w ops) (through v ops)
  unfolding through
  through_pair [] w v each alike = record { told = refl; worlds = alike }
  through_pair (o ∷ ops) w v each alike =
      let s = step_of w o in
      let z = step_of v o in
      let pair = memory_pair c l sound g h first second r made o w v each.0 each.1 alike in
      if_pair (is_bus_error s.event.end) (is_bus_error z.event.end) _ _ _ _ (ap is_bus_error (memory_end c l sound g h first second r made o w v each.0 each.1 alike))
      (alone_pair s z pair) (then_pair s z (through s.world ops) (through z.world ops) pair (through_pair ops s.world z.world each.2 pair.worlds))

  burst_pair : (k : Grant) (o : Op) (ops : List Op) (w v : World) → register_of c o ≡ None → AreOnMemory ops → Same w v → Courses (burst w k o ops) (burst v k o ops)
  burst_pair (Ok place) o ops w v is each alike = through_pair ops w v each alike
  burst_pair (Err why) o ops w v is each alike =
      alone_pair (unchanged w o why) (unchanged v o why) (refused_pair c l sound g h first second r made o why w v is alike)

  writes_on : (mem : ℕ) (at : Option ℕ) (from : ℕ) (values : List ℕ) → AreOnMemory (writes_of mem at from values)
  writes_on mem at from [] = tt
  writes_on mem at from (v ∷ values) = (refl, refl, writes_on mem at (from + 1) values)

  reads_on : (mem : ℕ) (at : Option ℕ) (from count : ℕ) → AreOnMemory (reads_of mem at from count)
  reads_on mem at from zero = tt
  reads_on mem at from (suc count) = (refl, refl, reads_on mem at (from + 1) count)

  -- what is granted depends on chip and layout alone
  grant_by : (o : Op) (w v : World) → Same w v → grant v.model o ≡ grant w.model o
  grant_by o w v alike =
      sym (on_model v.model alike.other.chip alike.other.layout) ∙ grant_same c l w.model.mirror v.model.mirror w.model.gathered v.model.gathered o
      ∙ on_model w.model alike.rests.chip alike.rests.layout
    where
      on_model : (m : ModelData) → m.chip ≡ c → m.layout ≡ l → grant (modelled c l m.mirror m.gathered) o ≡ grant m o
      on_model m chip layout =
          ap (λ y. let k : ModelData = record { chip = c; layout = y; mirror = m.mirror; gathered = m.gathered } in grant k o) (sym layout)
          ∙ ap (λ y. let k : ModelData = record { chip = y; layout = m.layout; mirror = m.mirror; gathered = m.gathered } in grant k o) (sym chip)

  write_grant_by : (mem : ℕ) (map : Option ℕ) (from : ℕ) (values : List ℕ) (w v : World) → Same w v
      → write_grant v.model mem map from values ≡ write_grant w.model mem map from values
  write_grant_by mem map from values w v alike =
      ap (λ (x : ChipData). only_where (grant v.model (op.BurstWrite mem map from (length values))) (list_all (λ n. nat_lt n (256 ^ location_size x mem)) values) TooWide)
      (alike.other.chip ∙ sym alike.rests.chip)
      ∙ ap (λ k. only_where k (list_all (λ n. nat_lt n (256 ^ location_size w.model.chip mem)) values) TooWide) (grant_by (op.BurstWrite mem map from (length values)) w v alike)

  job_pair : (job : Job) (w v : World) → Same w v → Courses (course_of job w) (course_of job v)
  job_pair (One o) w v alike = alone_pair (step_of w o) (step_of v o) (step_pair c l sound g h first second r made o o w v (inl refl) alike)
  job_pair (BurstWrite mem map from values) w v alike =
      let asked = op.BurstWrite mem map from (length values) in
      subst (λ k. Courses (burst_write_course mem map from values w) (burst v k asked (writes_of mem map from values))) (sym (write_grant_by mem map from values w v alike))
      (burst_pair (write_grant w.model mem map from values) asked (writes_of mem map from values) w v refl (writes_on mem map from values) alike)
  job_pair (BurstRead mem map from count) w v alike =
      let asked = op.BurstRead mem map from count in
      subst (λ k. Courses (burst_read_course mem map from count w) (burst v k asked (reads_of mem map from count))) (sym (grant_by asked w v alike))
      (burst_pair (grant w.model asked) asked (reads_of mem map from count) w v refl (reads_on mem map from count) alike)
  job_pair (Sequence which block) w v alike =
      subst (λ p. Courses (along w p) (along v (plan_of which v.model block))) (plan_on w.model alike.rests.chip alike.rests.layout)
      (subst (λ p. Courses (along w (sequence_plan (sequence_of which) c l block)) (along v p)) (plan_on v.model alike.other.chip alike.other.layout)
      (along_pair (sequence_plan (sequence_of which) c l block) (sequence_plan (sequence_of which) c l block) w v (fit_plan c r (sequence_of which) l block) alike))
    where
      plan_on : (m : ModelData) → m.chip ≡ c → m.layout ≡ l → sequence_plan (sequence_of which) c l block ≡ plan_of which m block
      plan_on m chip layout =
          ap (λ y. sequence_plan (sequence_of which) c y block) (sym layout) ∙ ap (λ y. sequence_plan (sequence_of which) y m.layout block) (sym chip)

  -- ---- lines

  told_on : (line : ℕ) (told others : List Told) → map (told_as c r) others ≡ map (told_as c r) told
      → map (line_told c r) (map (heard_at line) others) ≡ map (line_told c r) (map (heard_at line) told)
  told_on line told others same = lined others ∙ ap (map (λ o. option_map (λ (e : Event). (line, e)) o)) same ∙ sym (lined told)
    where
      lined : (ts : List Told) → map (line_told c r) (map (heard_at line) ts) ≡ map (λ o. option_map (λ (e : Event). (line, e)) o) (map (told_as c r) ts)
      lined [] = refl
      lined (t ∷ ts) = ap (λ more. option_map (λ (e : Event). (line, e)) (told_in c r t.event) ∷ more) (lined ts)

  pub accounts : (tasks : List Task) (w v : World) → Same w v → account_of c r (heard_by v tasks) ≡ account_of c r (heard_by w tasks)
  unfolding heard_by
  accounts [] w v alike = refl
  accounts (task ∷ tasks) w v alike =
      let pair = job_pair task.job w v alike in
      let x = course_of task.job w in
      let y = course_of task.job v in
      map-append (line_told c r) (heard_in task.line y) (heard_by y.world tasks)
      ∙ ap (λ hs. hs ++ account_of c r (heard_by y.world tasks)) (told_on task.line x.told y.told pair.told)
      ∙ ap (λ hs. map (line_told c r) (heard_in task.line x) ++ hs) (accounts tasks x.world y.world pair.worlds)
      ∙ sym (map-append (line_told c r) (heard_in task.line x) (heard_by x.world tasks))
