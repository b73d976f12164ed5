-- The operations of a session and those of the plain machine, side by side.
use Rattle.std.proofs.Common.{◌≡◌, ℕ, zero, suc, ◌+◌, ◌<◌, Bool, true, false, if◌then◌else◌, List, [], ◌∷◌, length, Option, Ok, Err, refl, sym, ap, subst, ◌∙◌}
use Rattle.rl_bus.specs.Account.{without_peer}
use Rattle.rl_model.specs.Rows.{ChipData}
use Rattle.rl_map.specs.Layout.{LayoutData}
use Rattle.rl_mirror.specs.Prediction.{needs_update, update_word_of}
use Rattle.rl_access.specs.declared.event.End.TheVariants as end
use Rattle.rl_access.specs.declared.event.Event.{Event}
use Rattle.rl_access.specs.declared.event.Op.{Op}
use Rattle.rl_access.specs.declared.event.Op.TheVariants as op
use Rattle.rl_access.specs.declared.event.Refused.{Refused}
use Rattle.rl_access.specs.HandsOver.{Told}
use Rattle.rl_access.specs.Model.{ModelData, IsModel}
use Rattle.rl_access.specs.Operation.{IsMapIn, HasNumbers}
use Rattle.rl_access.specs.Rules.{Grant, grant}
use Rattle.rl_access.specs.Runs.{writes_of, reads_of}
use Rattle.rl_access.specs.Tally.{is_bus_error}
use Rattle.rl_bus.specs.Standing.{Standing}
use Rattle.rl_bus.specs.State.{State}
use Rattle.rl_plain.specs.Calls.{without_items, IsMachineOf, CallIsPlain, CallKeepsModel, PlanHasNumbers}
use Rattle.rl_plain.specs.Machine.{Machine, seen, mirror_of, machine_end, Done, done_by, refused_at, machine_step}
use Rattle.rl_plain.specs.Courses as plain
use Rattle.rl_seq.specs.Plan.{Plan, stop, step, look}
use Rattle.rl_log.specs.Course.{Course, told_of, nothing_done, alone, first_then, through, along, burst}
use Rattle.rl_access.specs.World.{World, world, Step, step_of, unchanged}
use Rattle.rl_access.specs.World.{scene_at}
use Rattle.rl_access.proofs.Worlds.{step_is_call}

-- ---- a world, and the machine

-- the model is the machine's, and so is the device
pub record IsPlainWorld (c : ChipData) (l : LayoutData) (w : World) (p : Machine) : Type 0 where
  pub model : w.model ≡ seen c l p
  pub sound : IsModel (seen c l p)
  pub machine : IsMachineOf (scene_at w (without_peer 0)) p

-- an event, and the plain one
pub record IsPlainEvent (c : ChipData) (l : LayoutData) (t : Told) (e : Event) : Type 0 where
  pub machine : Machine
  pub model : t.model ≡ seen c l machine
  pub event : without_items t.event ≡ e

abbrev pub ArePlainEvents : ChipData → LayoutData → List Told → List Event → Type 0
ArePlainEvents c l [] [] = Unit {0}
ArePlainEvents c l (t ∷ told) (e ∷ events) = IsPlainEvent c l t e × ArePlainEvents c l told events
ArePlainEvents c l [] (e ∷ events) = ⊥
ArePlainEvents c l (t ∷ told) [] = ⊥

pub record IsPlainStep (c : ChipData) (l : LayoutData) (st : Step) (done : Done) : Type 0 where
  pub event : without_items st.event ≡ done.event
  pub world : IsPlainWorld c l st.world done.machine

pub record IsPlainCourse (c : ChipData) (l : LayoutData) (done : Course) (other : plain.Course) : Type 0 where
  pub events : ArePlainEvents c l done.told other.events
  pub world : IsPlainWorld c l done.world other.machine

-- ---- one operation

-- whatever the count of errors
at_start : (w : World) (later : ℕ) (q : Machine) → IsMachineOf (scene_at w (without_peer later)) q → IsMachineOf (scene_at w (without_peer 0)) q
at_start w later q h = record {
  agree = record { device = h.agree.device; told = h.agree.told; believed_is = h.agree.believed_is; gathered = h.agree.gathered };
  model = h.model;
  locations = h.locations;
}

module _ (law : CallIsPlain) (keeps : CallKeepsModel) (c : ChipData) (l : LayoutData) where
  abbrev Fine : Op → Type 0
  Fine op = HasNumbers c (length l.maps) op

  -- from a world that is made of the machine
  step_here : (p : Machine) (a : List Standing) (d : State) (op : Op) → IsModel (seen c l p) → IsMachineOf (scene_at (world (seen c l p) a d) (without_peer 0)) p → Fine op
      → IsPlainStep c l (step_of (world (seen c l p) a d) op) (machine_step c l p op)
  step_here p a d op ok h numbers =
      let w : World = world (seen c l p) a d in
      let st : Step = step_of w op in
      let run = step_is_call w op 0 in
      let q : Machine = (machine_step c l p op).machine in
      let both = law (scene_at w (without_peer 0)) (scene_at st.world (without_peer run.later)) op st.event p numbers ok h run.performs in
      let kept = keeps (scene_at w (without_peer 0)) (scene_at st.world (without_peer run.later)) op st.event p numbers ok h run.performs in
      let model : st.world.model ≡ seen c l q = both.0.model ∙ ap (λ x. seen x st.world.model.layout q) kept.1.chip ∙ ap (λ y. seen c y q) kept.1.layout in
      record { event = both.1; world = record { model = model; sound = subst IsModel model kept.0; machine = at_start st.world run.later q both.0 } }

  pub step_plain : (w : World) (p : Machine) (op : Op) → IsPlainWorld c l w p → Fine op → IsPlainStep c l (step_of w op) (machine_step c l p op)
  step_plain w p op h numbers =
      let same : w ≡ world (seen c l p) w.adapters w.device = ap (λ m. world m w.adapters w.device) h.model in
      subst (λ (v : World). IsPlainStep c l (step_of v op) (machine_step c l p op)) (sym same)
      (step_here p w.adapters w.device op h.sound (subst (λ (v : World). IsMachineOf (scene_at v (without_peer 0)) p) same h.machine) numbers)

  -- ---- none ends by a bus error

  update_quiet : (b : Bool) (word : ℕ) → is_bus_error (if b then end.Sent word else end.Nothing) ≡ false
  update_quiet true word = refl
  update_quiet false word = refl

  end_quiet : (p : Machine) (op : Op) (place : ℕ) → is_bus_error (machine_end c l op place p) ≡ false
  end_quiet p (op.Update reg map) place = update_quiet (needs_update (mirror_of p) reg) (update_word_of c reg (mirror_of p))
  end_quiet p (op.Read reg map) place = refl
  end_quiet p _ place = refl

  done_quiet : (p : Machine) (op : Op) (g : Grant) → is_bus_error (done_by c l op p g).event.end ≡ false
  done_quiet p op (Ok place) = end_quiet p op place
  done_quiet p op (Err why) = refl

  machine_quiet : (p : Machine) (op : Op) → is_bus_error (machine_step c l p op).event.end ≡ false
  unfolding machine_step
  machine_quiet p op = done_quiet p op (grant (seen c l p) op)

  step_quiet : (st : Step) (p : Machine) (op : Op) → IsPlainStep c l st (machine_step c l p op) → is_bus_error st.event.end ≡ false
  step_quiet st p op h = ap (λ (e : Event). is_bus_error e.end) h.event ∙ machine_quiet p op

  -- ---- several operations

  none_plain : (w : World) (p : Machine) → IsPlainWorld c l w p → IsPlainCourse c l (nothing_done w) (record { events = []; machine = p })
  none_plain w p h = record { events = tt; world = h }

  told_plain : (st : Step) (done : Done) → IsPlainStep c l st done → IsPlainEvent c l (told_of st) done.event
  told_plain st done h = record { machine = done.machine; model = h.world.model; event = h.event }

  alone_plain : (st : Step) (done : Done) → IsPlainStep c l st done → IsPlainCourse c l (alone st) (record { events = done.event ∷ []; machine = done.machine })
  alone_plain st done h = record { events = (told_plain st done h, tt); world = h.world }

  then_plain : (st : Step) (done : Done) (others : Course) (rest : Machine → plain.Course) → IsPlainStep c l st done → IsPlainCourse c l others (rest done.machine)
      → IsPlainCourse c l (first_then st others) (plain.then_on done rest)
  then_plain st done others rest h g = record { events = (told_plain st done h, g.events); world = g.world }

  going_on : (b : Bool) (st : Step) (others : Course) (other : plain.Course) → b ≡ false → IsPlainCourse c l (first_then st others) other → IsPlainCourse c l (if b then alone st else first_then st
      others) other
  going_on true st others other quiet h = absurd (cc)
  going_on false st others other quiet h = h

  abbrev AllFine : List Op → Type 0
  AllFine [] = Unit {0}
  AllFine (op ∷ ops) = Fine op × AllFine ops

  pub one_plain : (w : World) (p : Machine) (op : Op) → IsPlainWorld c l w p → Fine op → IsPlainCourse c l (alone (step_of w op)) (plain.through c l p (op ∷ []))
  unfolding plain.through
  one_plain w p op h numbers = alone_plain (step_of w op) (machine_step c l p op) (step_plain w p op h numbers)

  pub blank_plain : (w : World) (p : Machine) → IsPlainWorld c l w p → IsPlainCourse c l (nothing_done w) (plain.through c l p [])
  unfolding plain.through
  blank_plain w p h = none_plain w p h

  through_plain : (ops : List Op) (w : World) (p : Machine) → IsPlainWorld c l w p → AllFine ops → IsPlainCourse c l (through w ops) (plain.through c l p ops)
  unfolding through plain.through
  through_plain [] w p h numbers = none_plain w p h
  through_plain (op ∷ ops) w p h numbers =
      let st : Step = step_of w op in
      let done : Done = machine_step c l p op in
      let one : IsPlainStep c l st done = step_plain w p op h numbers.0 in
      going_on (is_bus_error st.event.end) st (through st.world ops) (plain.then_on done (λ after. plain.through c l after ops)) (step_quiet st p op one)
      (then_plain st done (through st.world ops) (λ after. plain.through c l after ops) one (through_plain ops st.world done.machine one.world numbers.1))

  pub along_plain : (plan : Plan) (w : World) (p : Machine) → IsPlainWorld c l w p → PlanHasNumbers c l plan → IsPlainCourse c l (along w plan) (plain.along c l p plan)
  unfolding along plain.along
  along_plain stop w p h numbers = none_plain w p h
  along_plain (step op plan) w p h numbers =
      let st : Step = step_of w op in
      let done : Done = machine_step c l p op in
      let one : IsPlainStep c l st done = step_plain w p op h numbers.0 in
      then_plain st done (along st.world plan) (λ after. plain.along c l after plan) one (along_plain plan st.world done.machine one.world numbers.1)
  along_plain (look f) w p h numbers =
      subst (λ m. IsPlainCourse c l (along w (f m)) (plain.along c l p (f (seen c l p)))) (sym h.model) (along_plain (f (seen c l p)) w p h (numbers (seen c l p) refl refl))

  -- ---- bursts

  writes_fine : (mem : ℕ) (map : Option ℕ) (first : ℕ) (values : List ℕ) → mem < length c.mems → IsMapIn (length l.maps) map → AllFine (writes_of mem map first values)
  writes_fine mem map first [] low there = tt
  writes_fine mem map first (v ∷ values) low there = ((low, there), writes_fine mem map (first + 1) values low there)

  reads_fine : (mem : ℕ) (map : Option ℕ) (first count : ℕ) → mem < length c.mems → IsMapIn (length l.maps) map → AllFine (reads_of mem map first count)
  reads_fine mem map first zero low there = tt
  reads_fine mem map first (suc count) low there = ((low, there), reads_fine mem map (first + 1) count low there)

  -- a burst that is refused, from a world that is made of the machine
  write_refused : (w : World) (p : Machine) (mem : ℕ) (map : Option ℕ) (first count : ℕ) (why : Refused) → IsPlainWorld c l w p
      → IsPlainStep c l (unchanged w (op.BurstWrite mem map first count) why) (refused_at c l (op.BurstWrite mem map first count) why p)
  write_refused w p mem map first count why h = record {
    event = ap (λ m. without_items (unchanged (world m w.adapters w.device) (op.BurstWrite mem map first count) why).event) h.model;
    world = h;
  }

  read_refused : (w : World) (p : Machine) (mem : ℕ) (map : Option ℕ) (first count : ℕ) (why : Refused) → IsPlainWorld c l w p
      → IsPlainStep c l (unchanged w (op.BurstRead mem map first count) why) (refused_at c l (op.BurstRead mem map first count) why p)
  read_refused w p mem map first count why h = record {
    event = ap (λ m. without_items (unchanged (world m w.adapters w.device) (op.BurstRead mem map first count) why).event) h.model;
    world = h;
  }

  burst_plain : (g : Grant) (op : Op) (ops : List Op) (w : World) (p : Machine) → IsPlainWorld c l w p → AllFine ops
      → ((why : Refused) → IsPlainStep c l (unchanged w op why) (refused_at c l op why p)) → IsPlainCourse c l (burst w g op ops) (plain.burst c l p g op ops)
  burst_plain (Ok place) op ops w p h numbers refused = through_plain ops w p h numbers
  burst_plain (Err why) op ops w p h numbers refused = alone_plain (unchanged w op why) (refused_at c l op why p) (refused why)

  pub write_burst_plain : (g : ModelData → Grant) (mem : ℕ) (map : Option ℕ) (first : ℕ) (values : List ℕ) (w : World) (p : Machine) → IsPlainWorld c l w p → mem < length c.mems →
      IsMapIn (length l.maps) map
      → IsPlainCourse c l (burst w (g w.model) (op.BurstWrite mem map first (length values)) (writes_of mem map first values))
      (plain.burst c l p (g (seen c l p)) (op.BurstWrite mem map first (length values)) (writes_of mem map first values))
  write_burst_plain g mem map first values w p h low there =
      let op : Op = op.BurstWrite mem map first (length values) in
      let ops : List Op = writes_of mem map first values in
      subst (λ m. IsPlainCourse c l (burst w (g m) op ops) (plain.burst c l p (g (seen c l p)) op ops)) (sym h.model)
      (burst_plain (g (seen c l p)) op ops w p h (writes_fine mem map first values low there) (λ why. write_refused w p mem map first (length values) why h))

  pub read_burst_plain : (g : ModelData → Grant) (mem : ℕ) (map : Option ℕ) (first count : ℕ) (w : World) (p : Machine) → IsPlainWorld c l w p → mem < length c.mems → IsMapIn (length l.maps) map
      → IsPlainCourse c l (burst w (g w.model) (op.BurstRead mem map first count) (reads_of mem map first count))
      (plain.burst c l p (g (seen c l p)) (op.BurstRead mem map first count) (reads_of mem map first count))
  read_burst_plain g mem map first count w p h low there =
      let op : Op = op.BurstRead mem map first count in
      let ops : List Op = reads_of mem map first count in
      subst (λ m. IsPlainCourse c l (burst w (g m) op ops) (plain.burst c l p (g (seen c l p)) op ops)) (sym h.model)
      (burst_plain (g (seen c l p)) op ops w p h (reads_fine mem map first count low there) (λ why. read_refused w p mem map first count why h))
