-- Two worlds of one model whose devices are related: each operation has the same event, and leads to such worlds again.
use Rattle.std.proofs.Common.{◌≡◌, ℕ, ◌+◌, ◌<◌, Bool, true, false, if◌then◌else◌, List, [], ◌∷◌, ◌++◌, length, map, Option, Some, None, option_map, Result, Ok, Err, refl, sym, ap, subst, ◌∙◌}
use Rattle.std.specs.Prelude.{nat_lt, unwrap_or}
use Rattle.std.specs.Option.{option_map_or}
use Rattle.rl_policy.specs.Bits.{bit}
use Rattle.rl_policy.proofs.BitLemmas.{from_bits-same}
use Rattle.rl_bus.specs.declared.op.Answer.{Answer}
use Rattle.rl_bus.specs.declared.op.BusOp.{BusOp}
use Rattle.rl_bus.specs.declared.table.Cell.TheVariants as cell
use Rattle.rl_bus.specs.Setup.{Setup, Flaws}
use Rattle.rl_bus.specs.Standing.{Standing, standing_at}
use Rattle.rl_bus.specs.State.{State, answer_of, state_after, peeked, poked}
use Rattle.rl_model.specs.Chip.{backdoor_of}
use Rattle.rl_model.specs.Fields.{field_of, fields_of, place_at}
use Rattle.rl_model.specs.Rows.{ChipData, FieldSeen}
use Rattle.rl_model.specs.declared.rows.Item.{Item}
use Rattle.rl_model.specs.declared.rows.Item.TheVariants as item
use Rattle.rl_mirror.specs.Fields.{word_by_field, owned}
use Rattle.rl_mirror.specs.Mirror.{marks_in}
use Rattle.rl_mirror.specs.Prediction.{left_by_read, predict_read, shown, written}
use Rattle.rl_mirror.specs.Compared.{differ}
use Rattle.rl_access.specs.declared.event.End.TheVariants as end
use Rattle.rl_access.specs.declared.event.Event.{Event}
use Rattle.rl_access.specs.declared.event.Op.{Op}
use Rattle.rl_access.specs.declared.event.Op.TheVariants as op
use Rattle.rl_access.specs.declared.event.Refused.{Refused}
use Rattle.rl_access.specs.declared.trace.TraceItem.{TraceItem}
use Rattle.rl_access.specs.HandsOver.{Told}
use Rattle.rl_access.specs.Items.{item_of, items_of, took_item, state_after_all, moved_on_by_all, port_for, adapter_for}
use Rattle.rl_access.specs.Model.{ModelData}
use Rattle.rl_access.specs.Rules.{Grant, Outcome, by_backdoor, only_where, grant, named, sends, outcome, event_of, found_by, device_after, owned_of, taking_raw, quiet, back_written, back_left, back_outcome, every_field}
use Rattle.rl_access.specs.Runs.{reads_of, write_grant, writes_of}
use Rattle.rl_access.specs.Tally.{is_bus_error}
use Rattle.rl_access.specs.World.{World, Step, done_at, items_at, step_by, step_of, unchanged, world}
use Rattle.rl_seq.specs.Plan.{Plan, look, step, stop}
use Rattle.rl_log.specs.Course.{Course, along, alone, burst, first_then, through, told_of}
use Rattle.rl_access.specs.Runs.{counted_all, no_tally}
use Rattle.rl_script.specs.declared.line.Line.{Line}
use Rattle.rl_script.specs.declared.line.Line.TheVariants as line
use Rattle.rl_script.specs.declared.line.Sequence.{Sequence as Named}
use Rattle.rl_report.specs.Pieces.{joined}
use Rattle.rl_log.specs.declared.counts.Counts.{Counts}
use Rattle.rl_log.specs.declared.refusal.LineRefusal.{LineRefusal}
use Rattle.rl_log.specs.Course.{nothing_done}
use Rattle.rl_log.specs.Entry.{Entry, begin_text, burst_read_course, burst_write_course, closed_text, framed, op_course, plain, plan_of, sequence_course, with_both}
use Rattle.rl_log.specs.Log.{Ending, comes_of, goes_on, said, script_from, there}
use Rattle.rl_log.specs.Named.{block_asked, map_asked, mem_named, op_named}
use Rattle.rl_log.specs.Recording.{events_text, with_events}
use Rattle.rl_log.specs.Texts.{refused_text}
use Rattle.rl_grade.specs.Alike.{IsSameLog}
use Rattle.rl_grade.specs.declared.job.Job.{Job}
use Rattle.rl_grade.specs.declared.job.Job.TheVariants.{BurstRead, BurstWrite, One, Sequence}
use Rattle.rl_grade.specs.declared.job.Task.{Task}
use Rattle.rl_grade.specs.Heard.{Heard, heard_at, heard_in}
use Rattle.rl_grade.specs.Job.{course_of, heard_by}
use Rattle.rl_grade.proofs.Related.{AreRelated, Keeps, move_related, poke_related, reset_related, same_answer, same_bits, same_location, state_related}
use Rattle.rl_grade.proofs.Keeping.{step_keeps}

-- the register has a backdoor, and the hardware may change the field
abbrev pub HasBackdoor : ChipData → ℕ → Type 0
HasBackdoor c r = unwrap_or (backdoor_of c (item.Reg r)) false ≡ true

abbrev pub IsVolatile : ChipData → ℕ → Type 0
IsVolatile c f = (field_of c f).shape.volatile ≡ true

-- ---- what a grant tells

granted : (g : Grant) (b : Bool) (why : Refused) (place : ℕ) → only_where g b why ≡ Ok place → g ≡ Ok place
granted (Ok p) true why place h = h
granted (Ok p) false why place h = absurd cc
granted (Err e) b why place h = absurd cc

holds : (p : ℕ) (b : Bool) (why : Refused) (place : ℕ) → only_where (Ok p) b why ≡ Ok place → b ≡ true
holds p true why place h = refl
holds p false why place h = absurd cc

-- ---- the same bits are owned

owned_same : (fields : List FieldSeen) (x y : ℕ) → ((b : ℕ) → b < 64 → bit y b ≡ bit x b) → owned fields y ≡ owned fields x
unfolding word_by_field
owned_same fields x y h =
    from_bits-same 64 (λ b. option_map_or (λ k. bit y b) (place_at fields b) false) (λ b. option_map_or (λ k. bit x b) (place_at fields b) false)
    (λ b low. ap (λ v. option_map_or (λ k. v) (place_at fields b) false) (h b low))

module _ (c : ChipData) (t : Setup) (g : Flaws) (R : ℕ → ℕ → Bool → Bool → Bool → Bool → Type 0) (keeps : Keeps t g R (HasBackdoor c) (IsVolatile c)) where
  abbrev Related : State → State → Type 0
  Related = AreRelated t g R

  -- ---- items

  items_same : (s : Standing) (d e : State) → Related d e → (port : ℕ) (ops : List BusOp) → items_of s e port ops ≡ items_of s d port ops
  items_same s d e h port [] = refl
  items_same s d e h port (o ∷ ops) =
      let a = answer_of d port o in
      let same : answer_of e port o ≡ a = same_answer t g R (HasBackdoor c) (IsVolatile c) keeps d e h port o in
      ap (λ (x : Answer). item_of s port o x
      ∷ (if x.failed then [] else items_of (took_item s (item_of s port o x)) (state_after e port o) port ops)) same
      ∙ ap (λ (rest : List TraceItem). item_of s port o a ∷ (if a.failed then [] else rest))
      (items_same (took_item s (item_of s port o a)) (state_after d port o) (state_after e port o)
      (state_related t g R (HasBackdoor c) (IsVolatile c) keeps d e h port o) port ops)

  items_related : (items : List TraceItem) (d e : State) → Related d e → Related (state_after_all d items) (state_after_all e items)
  items_related [] d e h = h
  items_related (i ∷ items) d e h =
      items_related items (state_after d i.port i.op) (state_after e i.port i.op) (state_related t g R (HasBackdoor c) (IsVolatile c) keeps d e h i.port i.op)

  -- ---- a granted operation

  module _ (m : ModelData) (chip : m.chip ≡ c) (d e : State) (h : Related d e) where
    opened : (r place : ℕ) → by_backdoor m (item.Reg r) ≡ Ok place → HasBackdoor c r
    opened r place so =
        subst (λ (x : ChipData). HasBackdoor x r) chip (holds 0 (unwrap_or (backdoor_of m.chip (item.Reg r)) false) _ place so)

    owned_by : (r : ℕ) → HasBackdoor c r → owned_of m r (peeked e (cell.Reg r)) ≡ owned_of m r (peeked d (cell.Reg r))
    owned_by r back =
        owned_same (fields_of m.chip r) (peeked d (cell.Reg r)) (peeked e (cell.Reg r)) (same_bits t g R (HasBackdoor c) (IsVolatile c) keeps d e h r back)

    abbrev read_as : Bool → (r value : ℕ) → Outcome
    read_as check r value = record {
      end = end.Value value;
      model = record m { mirror = predict_read m.chip r value every_field m.mirror };
      differ = if check then differ m.chip r value m.mirror else 0;
    }

    read_same : (check : Bool) (r : ℕ) → owned_of m r (peeked e (cell.Reg r)) ≡ owned_of m r (peeked d (cell.Reg r))
        → back_outcome m check r (peeked e (cell.Reg r)) ≡ back_outcome m check r (peeked d (cell.Reg r))
    read_same check r same = ap (λ x. read_as check r (shown (fields_of m.chip r) x)) same

    poked_same : (r v w : ℕ) → HasBackdoor c r → w ≡ v → Related (poked d (cell.Reg r) v) (poked e (cell.Reg r) w)
    poked_same r v w back same =
        subst (λ x. Related (poked d (cell.Reg r) v) (poked e (cell.Reg r) x)) (sym same)
        (poke_related t g R (HasBackdoor c) (IsVolatile c) keeps d e h (cell.Reg r) v back)

    sampled_same : (o : Op) (place : ℕ) (items : List TraceItem) → grant m o ≡ Ok place
        → outcome m o place (found_by e o) items ≡ outcome m o place (found_by d o) items
    sampled_same (op.BackWrite r v) place items so =
        ap (λ x. quiet end.Done (taking_raw m r (written (fields_of m.chip r) (marks_in m.chip m.mirror.spent r) x v)))
        (owned_by r (opened r place (granted _ _ _ place so)))
    sampled_same (op.BackRead r) place items so = read_same false r (owned_by r (opened r place so))
    sampled_same (op.BackCheck r) place items so = read_same true r (owned_by r (opened r place so))
    sampled_same (op.Peek r) place items so = ap (λ x. quiet (end.Value x) (taking_raw m r x)) (owned_by r (opened r place so))
    sampled_same (op.MemPeek mem i) place items so =
        ap (λ x. outcome m (op.MemPeek mem i) place x items) (same_location t g R (HasBackdoor c) (IsVolatile c) keeps d e h mem i)
    sampled_same _ place items so = refl

    after_same : (o : Op) (place : ℕ) (items : List TraceItem) → grant m o ≡ Ok place
        → Related (device_after m o (found_by d o) items d) (device_after m o (found_by e o) items e)
    after_same (op.BackWrite r v) place items so =
        let back = opened r place (granted _ _ _ place so) in
        poked_same r (back_written m r v (peeked d (cell.Reg r))) (back_written m r v (peeked e (cell.Reg r))) back
        (ap (λ x. written (fields_of m.chip r) (marks_in m.chip m.mirror.spent r) x v) (owned_by r back))
    after_same (op.BackRead r) place items so =
        let back = opened r place so in
        poked_same r (back_left m r (peeked d (cell.Reg r))) (back_left m r (peeked e (cell.Reg r))) back (ap (left_by_read (fields_of m.chip r)) (owned_by r back))
    after_same (op.BackCheck r) place items so =
        let back = opened r place so in
        poked_same r (back_left m r (peeked d (cell.Reg r))) (back_left m r (peeked e (cell.Reg r))) back (ap (left_by_read (fields_of m.chip r)) (owned_by r back))
    after_same (op.Poke r v) place items so = poked_same r v v (opened r place (granted _ _ _ place so)) refl
    after_same (op.MemPoke mem i v) place items so = poke_related t g R (HasBackdoor c) (IsVolatile c) keeps d e h (cell.Loc mem i) v tt
    after_same (op.Hw f v) place items so =
        move_related t g R (HasBackdoor c) (IsVolatile c) keeps d e h f v
        (subst (λ (x : ChipData). IsVolatile x f) chip (holds 0 (field_of m.chip f).shape.volatile _ place (granted _ _ _ place so)))
    after_same (op.Reset kind) place items so = reset_related t g R (HasBackdoor c) (IsVolatile c) keeps d e h kind
    after_same _ place items so = items_related items d e h

-- ---- worlds

-- of one model and with the same adapters, of this chip
pub record AreAlike (c : ChipData) (t : Setup) (g : Flaws) (R : ℕ → ℕ → Bool → Bool → Bool → Bool → Type 0) (w v : World) : Type 0 where
  pub chip : w.model.chip ≡ c
  pub model : v.model ≡ w.model
  pub adapters : v.adapters ≡ w.adapters
  pub devices : AreRelated t g R w.device v.device

pub record IsSameStep (c : ChipData) (t : Setup) (g : Flaws) (R : ℕ → ℕ → Bool → Bool → Bool → Bool → Type 0) (s z : Step) : Type 0 where
  pub event : z.event ≡ s.event
  pub worlds : AreAlike c t g R s.world z.world

pub record IsSameCourse (c : ChipData) (t : Setup) (g : Flaws) (R : ℕ → ℕ → Bool → Bool → Bool → Bool → Type 0) (x y : Course) : Type 0 where
  pub told : y.told ≡ x.told
  pub worlds : AreAlike c t g R x.world y.world

module _ (c : ChipData) (t : Setup) (g : Flaws) (R : ℕ → ℕ → Bool → Bool → Bool → Bool → Type 0) (keeps : Keeps t g R (HasBackdoor c) (IsVolatile c)) where
  abbrev Alike : World → World → Type 0
  Alike = AreAlike c t g R

  abbrev SameCourse : Course → Course → Type 0
  SameCourse = IsSameCourse c t g R

  done_same : (m : ModelData) (a : List Standing) (d e : State) (o : Op) (place : ℕ) → m.chip ≡ c → AreRelated t g R d e → grant m o ≡ Ok place
      → (done_at (world m a d) o place).world.model.chip ≡ c
      → IsSameStep c t g R (done_at (world m a d) o place) (done_at (world m a e) o place)
  done_same m a d e o place chip h so kept =
      let items = items_at (world m a d) o place in
      let items' = items_at (world m a e) o place in
      let s = standing_at a (adapter_for m.layout place) in
      let same : items' ≡ items = items_same c t g R keeps s d e h (port_for m.layout place) (sends m o place) in
      let out : outcome m o place (found_by e o) items' ≡ outcome m o place (found_by d o) items =
      ap (outcome m o place (found_by e o)) same ∙ sampled_same c t g R keeps m chip d e h o place items so in
      record {
        event = ap (λ x. event_of m (named m o) x (outcome m o place (found_by e o) items')) same ∙ ap (event_of m (named m o) items) out;
        worlds = record {
          chip = kept;
          model = ap (λ (x : Outcome). x.model) out;
          adapters = ap (moved_on_by_all a (adapter_for m.layout place)) same;
          devices = subst (λ x. AreRelated t g R (device_after m o (found_by d o) items d) (device_after m o (found_by e o) x e)) (sym same)
              (after_same c t g R keeps m chip d e h o place items so);
        };
      }

  by_grant : (m : ModelData) (a : List Standing) (d e : State) (o : Op) (x : Grant) → grant m o ≡ x → m.chip ≡ c → AreRelated t g R d e
      → (step_by (world m a d) o x).world.model.chip ≡ c → IsSameStep c t g R (step_by (world m a d) o x) (step_by (world m a e) o x)
  by_grant m a d e o (Ok place) so chip h kept = done_same m a d e o place chip h so kept
  by_grant m a d e o (Err why) so chip h kept =
      record { event = refl; worlds = record { chip = chip; model = refl; adapters = refl; devices = h } }

  step_in : (m : ModelData) (a : List Standing) (d e : State) (o : Op) → m.chip ≡ c → AreRelated t g R d e
      → IsSameStep c t g R (step_of (world m a d) o) (step_of (world m a e) o)
  unfolding step_of
  step_in m a d e o chip h = by_grant m a d e o (grant m o) refl chip h ((step_keeps (world m a d) o).chip ∙ chip)

  -- worlds that are alike, by one of them and the other one's device
  alike_by : (w v : World) → Alike w v → (P : World → World → Type 0) → P w (world w.model w.adapters v.device) → P w v
  alike_by w v h P made =
      subst (P w) (ap (λ m. world m w.adapters v.device) (sym h.model) ∙ ap (λ a. world v.model a v.device) (sym h.adapters)) made

  pub same_step : (w v : World) (o : Op) → Alike w v → IsSameStep c t g R (step_of w o) (step_of v o)
  same_step w v o h = alike_by w v h (λ x y. IsSameStep c t g R (step_of x o) (step_of y o)) (step_in w.model w.adapters w.device v.device o h.chip h.devices)

  -- ---- operations one after another

  told_same : (s z : Step) → IsSameStep c t g R s z → told_of z ≡ told_of s
  told_same s z h =
      ap (λ m. let x : Told = record { model = m; event = z.event } in x) h.worlds.model
      ∙ ap (λ e. let x : Told = record { model = s.world.model; event = e } in x) h.event

  alone_same : (s z : Step) → IsSameStep c t g R s z → SameCourse (alone s) (alone z)
  alone_same s z h = record { told = ap (λ x. x ∷ []) (told_same s z h); worlds = h.worlds }

  then_same : (s z : Step) (x y : Course) → IsSameStep c t g R s z → SameCourse x y → SameCourse (first_then s x) (first_then z y)
  then_same s z x y h k =
      record { told = ap (λ a. a ∷ y.told) (told_same s z h) ∙ ap (λ more. told_of s ∷ more) k.told; worlds = k.worlds }

  if_same : (a b : Bool) (x y p q : Course) → b ≡ a → SameCourse x p → SameCourse y q → SameCourse (if a then x else y) (if b then p else q)
  if_same true true x y p q same h k = h
  if_same false false x y p q same h k = k
  if_same true false x y p q same h k = absurd cc
  if_same false true x y p q same h k = absurd cc

  through_same : (ops : List Op) (w v : World) → Alike w v → SameCourse (through w ops) (through v ops)
  unfolding through
  through_same [] w v h = record { told = refl; worlds = h }
  through_same (o ∷ ops) w v h =
      let s = step_of w o in
      let z = step_of v o in
      let same = same_step w v o h in
      if_same (is_bus_error s.event.end) (is_bus_error z.event.end) _ _ _ _ (ap (λ (e : Event). is_bus_error e.end) same.event) (alone_same s z same)
      (then_same s z (through s.world ops) (through z.world ops) same (through_same ops s.world z.world same.worlds))

  along_same : (p : Plan) (w v : World) → Alike w v → SameCourse (along w p) (along v p)
  unfolding along
  along_same stop w v h = record { told = refl; worlds = h }
  along_same (step o p) w v h =
      let same = same_step w v o h in
      then_same (step_of w o) (step_of v o) (along (step_of w o).world p) (along (step_of v o).world p) same
      (along_same p (step_of w o).world (step_of v o).world same.worlds)
  along_same (look f) w v h =
      subst (λ m. SameCourse (along w (f w.model)) (along v (f m))) (sym h.model) (along_same (f w.model) w v h)

  burst_same : (x : Grant) (o : Op) (ops : List Op) (w v : World) → Alike w v → SameCourse (burst w x o ops) (burst v x o ops)
  burst_same (Ok place) o ops w v h = through_same ops w v h
  burst_same (Err why) o ops w v h =
      alike_by w v h (λ x y. SameCourse (alone (unchanged x o why)) (alone (unchanged y o why)))
      (record { told = refl; worlds = record { chip = h.chip; model = refl; adapters = refl; devices = h.devices } })

  writes_same : (mem : ℕ) (map : Option ℕ) (first : ℕ) (values : List ℕ) (w v : World) → Alike w v
      → SameCourse (burst_write_course mem map first values w) (burst_write_course mem map first values v)
  writes_same mem map first values w v h =
      let asked = op.BurstWrite mem map first (length values) in
      subst (λ m. SameCourse (burst_write_course mem map first values w) (burst v (write_grant m mem map first values) asked (writes_of mem map first values)))
      (sym h.model) (burst_same (write_grant w.model mem map first values) asked (writes_of mem map first values) w v h)

  reads_same : (mem : ℕ) (map : Option ℕ) (first count : ℕ) (w v : World) → Alike w v
      → SameCourse (burst_read_course mem map first count w) (burst_read_course mem map first count v)
  reads_same mem map first count w v h =
      let asked = op.BurstRead mem map first count in
      subst (λ m. SameCourse (burst_read_course mem map first count w) (burst v (grant m asked) asked (reads_of mem map first count)))
      (sym h.model) (burst_same (grant w.model asked) asked (reads_of mem map first count) w v h)

  job_same : (job : Job) (w v : World) → Alike w v → SameCourse (course_of job w) (course_of job v)
  job_same (One o) w v h = alone_same (step_of w o) (step_of v o) (same_step w v o h)
  job_same (BurstWrite mem map first values) w v h = writes_same mem map first values w v h
  job_same (BurstRead mem map first count) w v h = reads_same mem map first count w v h
  job_same (Sequence which block) w v h =
      subst (λ m. SameCourse (along w (plan_of which w.model block)) (along v (plan_of which m block))) (sym h.model)
      (along_same (plan_of which w.model block) w v h)

  pub heard_same : (tasks : List Task) (w v : World) → Alike w v → heard_by v tasks ≡ heard_by w tasks
  unfolding heard_by
  heard_same [] w v h = refl
  heard_same (task ∷ tasks) w v h =
      let same = job_same task.job w v h in
      ap (λ (told : List Told). map (heard_at task.line) told ++ heard_by (course_of task.job v).world tasks) same.told
      ∙ ap (λ more. heard_in task.line (course_of task.job w) ++ more) (heard_same tasks (course_of task.job w).world (course_of task.job v).world same.worlds)

-- ---- a script line by line

pub record IsSameEntry (c : ChipData) (t : Setup) (g : Flaws) (R : ℕ → ℕ → Bool → Bool → Bool → Bool → Type 0) (e f : Entry) : Type 0 where
  pub text : f.text ≡ e.text
  pub course : IsSameCourse c t g R e.course f.course

-- both lines are refused for one reason, or both are done alike
abbrev pub AreSameResults : ChipData → Setup → Flaws → (ℕ → ℕ → Bool → Bool → Bool → Bool → Type 0) → Result Entry LineRefusal → Result Entry LineRefusal → Type 0
AreSameResults c t g R (Ok e) (Ok f) = IsSameEntry c t g R e f
AreSameResults c t g R (Err a) (Err b) = b ≡ a
AreSameResults c t g R (Ok e) (Err b) = ⊥
AreSameResults c t g R (Err a) (Ok f) = ⊥

module _ (c : ChipData) (t : Setup) (g : Flaws) (R : ℕ → ℕ → Bool → Bool → Bool → Bool → Type 0) (keeps : Keeps t g R (HasBackdoor c) (IsVolatile c)) where
  abbrev SameResults : Result Entry LineRefusal → Result Entry LineRefusal → Type 0
  SameResults = AreSameResults c t g R

  plain_same : (x y : Course) → IsSameCourse c t g R x y → IsSameEntry c t g R (plain x) (plain y)
  plain_same x y h = record { text = ap events_text h.told; course = h }

  framed_same : (which : Named) (over : Option (List ℕ)) (x y : Course) → IsSameCourse c t g R x y
      → IsSameEntry c t g R (framed which over x) (framed which over y)
  framed_same which over x y h = record {
    text = ap (λ (told : List Told). joined (begin_text which over ∷ events_text told ∷ closed_text which over (counted_all no_tally told) ∷ [])) h.told;
    course = h;
  }

  both_same : (n : Option ℕ) (map : Option (Option ℕ)) (x y : ℕ → Option ℕ → Course) → ((i : ℕ) (k : Option ℕ) → IsSameCourse c t g R (x i k) (y i k))
      → SameResults (there (with_both n map (λ i k. plain (x i k)))) (there (with_both n map (λ i k. plain (y i k))))
  both_same None map x y h = refl
  both_same (Some i) None x y h = refl
  both_same (Some i) (Some k) x y h = plain_same (x i k) (y i k) (h i k)

  block_same : (which : Named) (over : Option (List ℕ)) (block : Option (Option ℕ)) (x y : Option ℕ → Course) → ((b : Option ℕ) → IsSameCourse c t g R (x b) (y b))
      → SameResults (there (option_map (λ b. framed which over (x b)) block)) (there (option_map (λ b. framed which over (y b)) block))
  block_same which over None x y h = refl
  block_same which over (Some b) x y h = framed_same which over (x b) (y b) (h b)

  one_same : (o : Option Op) (x y : Op → Course) → ((o : Op) → IsSameCourse c t g R (x o) (y o))
      → SameResults (there (option_map (λ o. plain (x o)) o)) (there (option_map (λ o. plain (y o)) o))
  one_same None x y h = refl
  one_same (Some o) x y h = plain_same (x o) (y o) (h o)

  on_model : (w z : World) → AreAlike c t g R w z → AreAlike c t g R w (world w.model z.adapters z.device)
  on_model w z h = record { chip = h.chip; model = refl; adapters = h.adapters; devices = h.devices }

  comes_by : (w z : World) → AreAlike c t g R w z → (s : Result Line LineRefusal)
      → SameResults (comes_of w s) (comes_of (world w.model z.adapters z.device) s)
  comes_by w z h (Err why) = refl
  comes_by w z h (Ok line.Blank) =
      plain_same (nothing_done w) (nothing_done (world w.model z.adapters z.device)) (record { told = refl; worlds = on_model w z h })
  comes_by w z h (Ok (line.BurstWrite mem first values map)) =
      both_same (mem_named w.model.chip mem) (map_asked w.model.layout map) (λ i k. burst_write_course i k first values w)
      (λ i k. burst_write_course i k first values (world w.model z.adapters z.device))
      (λ i k. writes_same c t g R keeps i k first values w (world w.model z.adapters z.device) (on_model w z h))
  comes_by w z h (Ok (line.BurstRead mem first count map)) =
      both_same (mem_named w.model.chip mem) (map_asked w.model.layout map) (λ i k. burst_read_course i k first count w)
      (λ i k. burst_read_course i k first count (world w.model z.adapters z.device))
      (λ i k. reads_same c t g R keeps i k first count w (world w.model z.adapters z.device) (on_model w z h))
  comes_by w z h (Ok (line.Seq which over)) =
      block_same which over (block_asked w.model.chip over) (λ b. sequence_course which b w) (λ b. sequence_course which b (world w.model z.adapters z.device))
      (λ b. along_same c t g R keeps (plan_of which w.model b) w (world w.model z.adapters z.device) (on_model w z h))
  comes_by w z h (Ok l) =
      one_same (op_named w.model l) (λ o. op_course o w) (λ o. op_course o (world w.model z.adapters z.device))
      (λ o. alone_same c t g R keeps (step_of w o) (step_of (world w.model z.adapters z.device) o)
      (same_step c t g R keeps w (world w.model z.adapters z.device) o (on_model w z h)))

  comes_same : (w v : World) (s : Result Line LineRefusal) → AreAlike c t g R w v → SameResults (comes_of w s) (comes_of v s)
  comes_same w v s h =
      subst (λ m. SameResults (comes_of w s) (comes_of (world m v.adapters v.device) s)) (sym h.model) (comes_by w v h s)

  goes_same : (number : ℕ) (counts : Counts) (w v : World) (r q : Result Entry LineRefusal) (rest : Counts → World → Ending) → SameResults r q
      → ((k : Counts) (x y : World) → AreAlike c t g R x y → IsSameLog (rest k x) (rest k y))
      → IsSameLog (goes_on number counts w r rest) (goes_on number counts v q rest)
  goes_same number counts w v (Err a) (Err b) rest same more =
      record { text = ap (refused_text number) same; status = refl; counts = refl }
  goes_same number counts w v (Ok e) (Ok f) rest same more =
      let now = ap (with_events counts) same.course.told in
      let tail = more (with_events counts e.course.told) e.course.world f.course.world same.course.worlds in
      record {
        text = ap (λ (x : List ℕ). x ++ (rest (with_events counts f.course.told) f.course.world).text) same.text
            ∙ ap (λ k. e.text ++ (rest k f.course.world).text) now ∙ ap (λ x. e.text ++ x) tail.text;
        status = ap (λ k. (rest k f.course.world).status) now ∙ tail.status;
        counts = ap (λ k. (rest k f.course.world).counts) now ∙ tail.counts;
      }
  goes_same number counts w v (Ok e) (Err b) rest same more = absurd same
  goes_same number counts w v (Err a) (Ok f) rest same more = absurd same

  pub script_same : (lines : List (List ℕ)) (number : ℕ) (counts : Counts) (w v : World) → AreAlike c t g R w v
      → IsSameLog (script_from number counts w lines) (script_from number counts v lines)
  unfolding script_from
  script_same [] number counts w v h = record { text = refl; status = refl; counts = refl }
  script_same (line ∷ lines) number counts w v h =
      goes_same number counts w v (comes_of w (said number line)) (comes_of v (said number line)) (λ k x. script_from (number + 1) k x lines)
      (comes_same w v (said number line) h) (λ k x y alike. script_same lines (number + 1) k x y alike)
