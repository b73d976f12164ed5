-- Two worlds of one chip and layout whose devices differ in flaws of other registers than one: this register and the
-- memories are the same in both, and each operation keeps that.
use Rattle.std.proofs.Common.{◌≡◌, ◌⊎◌, inl, inr, ℕ, true, false, not, ◌==◌, if◌then◌else◌, List, [], length, Option, Some, None, Ok, Err, refl, sym, ap, subst, ◌∙◌}
use Rattle.std.specs.Prelude.{slice_index}
use Rattle.std.specs.Option.{option_map_or}
use Rattle.std.proofs.lemmas.Bool.{cases_eq, ne_eqb}
use Rattle.rl_bus.specs.declared.table.Cell.TheVariants as cell
use Rattle.rl_bus.specs.Setup.{Flaws}
use Rattle.rl_bus.specs.Standing.{Standing, standing_at}
use Rattle.rl_bus.specs.State.{State}
use Rattle.rl_model.specs.Rows.{ChipData}
use Rattle.rl_map.specs.Layout.{LayoutData}
use Rattle.rl_mirror.specs.Mirror.{MirrorData, desired_of, mirrored_of}
use Rattle.rl_mirror.specs.Prediction.{reset}
use Rattle.rl_access.specs.declared.event.End.{End}
use Rattle.rl_access.specs.declared.event.End.TheVariants as end
use Rattle.rl_access.specs.declared.event.Event.{Event}
use Rattle.rl_access.specs.declared.event.Op.{Op}
use Rattle.rl_access.specs.declared.event.Op.TheVariants as op
use Rattle.rl_access.specs.declared.event.Refused.{Refused}
use Rattle.rl_access.specs.declared.predictor.Gathered.{Gathered}
use Rattle.rl_access.specs.declared.trace.TraceItem.{TraceItem}
use Rattle.rl_access.specs.Items.{adapter_for}
use Rattle.rl_access.specs.Model.{ModelData}
use Rattle.rl_access.specs.Operation.{register_of}
use Rattle.rl_access.specs.Rules.{Grant, Outcome, event_at, event_of, grant, named, quiet}
use Rattle.rl_access.specs.World.{Step, World, step_by, step_of, unchanged, world}
use Rattle.rl_grade.specs.Together.{is_of_other, told_in, untraced}
use Rattle.rl_grade.proofs.HiddenFlaws.{bare}
use Rattle.rl_grade.proofs.Related.{flawed}
use Rattle.rl_grade.proofs.TogetherAccess.{AreDevices, AreSound, are_reset, goes_nowhere}
use Rattle.rl_grade.proofs.TogetherBeliefs.{HasSize, SameBelief, belief_back, belief_on, reset_same, reset_size, same_belief}
use Rattle.rl_grade.proofs.TogetherMakeup.{IsCalm, SameMakeup, same_makeup}
use Rattle.rl_grade.proofs.TogetherOutcomes.{AreReady, Comes, Leaves, alike_in, done_on, is_of_memory, left_refused, memory_in, modelled, still}

-- a world of this chip and layout, whose device has these flaws and waits for the first word of each address
pub record Rests (c : ChipData) (l : LayoutData) (g : Flaws) (w : World) : Type 0 where
  pub chip : w.model.chip ≡ c
  pub layout : w.model.layout ≡ l
  pub size : HasSize c w.model.mirror
  pub setup : w.device.setup ≡ flawed (bare c l) g
  pub beats : (p a : ℕ) → w.device.beats p a ≡ 0
  pub bits : length w.device.bits ≡ length c.regs
  pub marks : length w.device.marks ≡ length c.regs

-- the register is the same in both
pub record SameReg (c : ChipData) (r : ℕ) (w v : World) : Type 0 where
  pub belief : SameBelief c r w.model.mirror v.model.mirror
  pub bits : slice_index v.device.bits r ≡ slice_index w.device.bits r
  pub marks : slice_index v.device.marks r ≡ slice_index w.device.marks r

pub same_reg : (c : ChipData) (r : ℕ) (w : World) → SameReg c r w w
same_reg c r w = record { belief = same_belief c r w.model.mirror; bits = refl; marks = refl }

reg_back : (c : ChipData) (r : ℕ) (w v : World) → SameReg c r w v → SameReg c r v w
reg_back c r w v h = record { belief = belief_back c r w.model.mirror v.model.mirror h.belief; bits = sym h.bits; marks = sym h.marks }

reg_on : (c : ChipData) (r : ℕ) (u v w : World) → SameReg c r u v → SameReg c r v w → SameReg c r u w
reg_on c r u v w h k = record {
  belief = belief_on c r u.model.mirror v.model.mirror w.model.mirror h.belief k.belief;
  bits = k.bits ∙ h.bits;
  marks = k.marks ∙ h.marks;
}

-- a step on a register that is the same in both: the same for it, and nothing for any other
pub record StepsIn (c : ChipData) (l : LayoutData) (g : Flaws) (q : ℕ) (w : World) (s z : Step) : Type 0 where
  pub event : untraced z.event ≡ untraced s.event
  pub rests : Rests c l g s.world
  pub same : SameReg c q s.world z.world
  pub beside : (r : ℕ) → (r ≡ q → ⊥) → SameReg c r w s.world
  pub locations : s.world.device.locations ≡ w.device.locations

-- a step on a memory
pub record StepsOn (c : ChipData) (l : LayoutData) (g : Flaws) (w : World) (s z : Step) : Type 0 where
  pub event : untraced z.event ≡ untraced s.event
  pub rests : Rests c l g s.world
  pub beside : (r : ℕ) → SameReg c r w s.world
  pub locations : z.world.device.locations ≡ s.world.device.locations

-- a reset, for one register
pub record Resets (c : ChipData) (l : LayoutData) (g : Flaws) (r : ℕ) (s z : Step) : Type 0 where
  pub event : untraced z.event ≡ untraced s.event
  pub rests : Rests c l g s.world
  pub same : SameReg c r s.world z.world
  pub locations : z.world.device.locations ≡ s.world.device.locations

-- ---- events

pub named_register : (m : ModelData) (o : Op) → register_of m.chip (named m o) ≡ register_of m.chip o
named_register m (op.Reset kind) = refl
named_register m _ = refl

abbrev shown_as : Op → End → (mirrored desired differ : ℕ) → Event
shown_as o e mirrored desired differ = record { op = o; end = e; trace = []; mirrored = mirrored; desired = desired; differ = differ }

module _ (c : ChipData) (l : LayoutData) (m n : MirrorData) (gathered others : List Gathered) where
  abbrev mine : ModelData
  mine = modelled c l m gathered

  abbrev its : ModelData
  its = modelled c l n others

  named_same : (o : Op) → named its o ≡ named mine o
  named_same (op.Reset kind) = refl
  named_same _ = refl

  pub grant_same : (o : Op) → grant its o ≡ grant mine o
  grant_same (op.Reset kind) = refl
  grant_same _ = refl

  reg_event : (o : Op) (q : ℕ) (x y : Outcome) (items more : List TraceItem) → register_of c o ≡ Some q → y.end ≡ x.end → y.differ ≡ x.differ
      → SameBelief c q x.model.mirror y.model.mirror → untraced (event_of its (named its o) more y) ≡ untraced (event_of mine (named mine o) items x)
  reg_event o q x y items more is ends differs same =
      let p = named mine o in
      let at : register_of c p ≡ Some q = named_register mine o ∙ is in
      ap (λ k. untraced (event_of its k more y)) (named_same o)
      ∙ ap (λ r. untraced (event_at r p more y)) at
      ∙ ap (λ e. shown_as p e (mirrored_of y.model.mirror q) (desired_of y.model.mirror q) y.differ) ends
      ∙ ap (λ k. shown_as p x.end k (desired_of y.model.mirror q) y.differ) same.mirrored
      ∙ ap (λ k. shown_as p x.end (mirrored_of x.model.mirror q) k y.differ) same.desired
      ∙ ap (shown_as p x.end (mirrored_of x.model.mirror q) (desired_of x.model.mirror q)) differs
      ∙ sym (ap (λ r. untraced (event_at r p items x)) at)

  none_event : (o : Op) (x y : Outcome) (items more : List TraceItem) → register_of c o ≡ None → y.end ≡ x.end → y.differ ≡ x.differ
      → untraced (event_of its (named its o) more y) ≡ untraced (event_of mine (named mine o) items x)
  none_event o x y items more is ends differs =
      let p = named mine o in
      let at : register_of c p ≡ None = named_register mine o ∙ is in
      ap (λ k. untraced (event_of its k more y)) (named_same o)
      ∙ ap (λ r. untraced (event_at r p more y)) at
      ∙ ap (λ e. shown_as p e 0 0 y.differ) ends
      ∙ ap (shown_as p x.end 0 0) differs
      ∙ sym (ap (λ r. untraced (event_at r p items x)) at)

-- ---- one operation

-- a world with this chip and layout
abbrev pub with_parts : ChipData → LayoutData → World → World
with_parts c l w = world (modelled c l w.model.mirror w.model.gathered) w.adapters w.device

pub by_parts : (c : ChipData) (l : LayoutData) (g : Flaws) (w : World) → Rests c l g w → (P : World → Type 0) → P (with_parts c l w) → P w
by_parts c l g w h P made =
    subst P
    (ap (λ y. let k : ModelData = record { chip = c; layout = y; mirror = w.model.mirror; gathered = w.model.gathered } in world k w.adapters w.device) (sym h.layout)
    ∙ ap (λ y. let k : ModelData = record { chip = y; layout = w.model.layout; mirror = w.model.mirror; gathered = w.model.gathered } in world k w.adapters w.device) (sym h.chip))
    made

module _ (c : ChipData) (l : LayoutData) (sound : AreSound c l) (g h : Flaws) (first : IsCalm (flawed (bare c l) g)) (second : IsCalm (flawed (bare c l) h)) where
  devices : (w v : World) → Rests c l g w → Rests c l h v → AreDevices (bare c l) g h w.device v.device
  devices w v rests other = record {
    setup = rests.setup;
    other_setup = other.setup;
    beats = rests.beats;
    other_beats = other.beats;
    size = record { bits = other.bits ∙ sym rests.bits; marks = other.marks ∙ sym rests.marks };
  }

  module _ (m n : MirrorData) (gathered others : List Gathered) (a b : List Standing) (d e : State)
      (rests : Rests c l g (world (modelled c l m gathered) a d)) (other : Rests c l h (world (modelled c l n others) b e)) where
    abbrev w : World
    w = world (modelled c l m gathered) a d

    abbrev v : World
    v = world (modelled c l n others) b e

    ready : (q : ℕ) → SameReg c q w v → SameMakeup (flawed (bare c l) g) (flawed (bare c l) h) q → AreReady c l g h q m n d e
    ready q same made = record {
      belief = same.belief;
      size = rests.size;
      other_size = other.size;
      made = made;
      devices = devices w v rests other;
      bits = same.bits;
      marks = same.marks;
    }

    apart_cell : (q r : ℕ) → (r ≡ q → ⊥) → cell.Reg q ≡ cell.Reg r → ⊥
    apart_cell q r apart is = apart cc

    steps_in : (o : Op) (q : ℕ) (x y : Outcome) (items more : List TraceItem) (after later : State) (aa bb : List Standing) → register_of c o ≡ Some q
        → Comes c l q m d x y after later
        → StepsIn c l g q w (record { event = event_of (modelled c l m gathered) (named (modelled c l m gathered) o) items x; world = world x.model aa after })
        (record { event = event_of (modelled c l n others) (named (modelled c l n others) o) more y; world = world y.model bb later })
    steps_in o q x y items more after later aa bb is came = record {
      event = reg_event c l m n gathered others o q x y items more is came.end came.differ came.belief;
      rests = record {
        chip = came.chip;
        layout = came.layout;
        size = came.size;
        setup = came.goes.touches.setup ∙ rests.setup;
        beats = came.goes.beats;
        bits = came.goes.touches.size ∙ rests.bits;
        marks = came.goes.touches.mark_size ∙ rests.marks;
      };
      same = record { belief = came.belief; bits = came.goes.same.bits q refl; marks = came.goes.same.marks q refl };
      beside = λ r apart. record {
        belief = came.beside r apart;
        bits = came.goes.touches.bits r (apart_cell q r apart);
        marks = came.goes.touches.marks r (apart_cell q r apart);
      };
      locations = came.goes.touches.locations q refl;
    }

    in_by_grant : (o : Op) (q : ℕ) (k : Grant) → grant (modelled c l m gathered) o ≡ k → register_of c o ≡ Some q → AreReady c l g h q m n d e
        → StepsIn c l g q w (step_by w o k) (step_by v o k)
    in_by_grant o q (Ok place) so is can =
        let s = standing_at a (adapter_for l place) in
        let z = standing_at b (adapter_for l place) in
        steps_in o q _ _ _ _ _ _ _ _ is
        (done_on c l sound g h first second m n gathered others s z d e o place q is can so)
    in_by_grant o q (Err why) so is can =
        steps_in o q (quiet (end.Refused why) (modelled c l m gathered)) (quiet (end.Refused why) (modelled c l n others)) [] [] d e a b is
        (still c l sound g h first second m n gathered others (standing_at a 0) (standing_at b 0) d e (end.Refused why) q gathered others d e can
        (goes_nowhere q d e (alike_in c l sound g h first second m n gathered others (standing_at a 0) (standing_at b 0) d e q can)))

    steps_on : (o : Op) (x y : Outcome) (items more : List TraceItem) (after later : State) (aa bb : List Standing) → register_of c o ≡ None
        → Leaves c l m d x y after later
        → StepsOn c l g w (record { event = event_of (modelled c l m gathered) (named (modelled c l m gathered) o) items x; world = world x.model aa after })
        (record { event = event_of (modelled c l n others) (named (modelled c l n others) o) more y; world = world y.model bb later })
    steps_on o x y items more after later aa bb is left = record {
      event = none_event c l m n gathered others o x y items more is left.end left.differ;
      rests = record {
        chip = left.chip;
        layout = left.layout;
        size = subst (HasSize c) (sym left.mirror) rests.size;
        setup = left.setup ∙ rests.setup;
        beats = left.beats;
        bits = left.size ∙ rests.bits;
        marks = left.mark_size ∙ rests.marks;
      };
      beside = λ r. record {
        belief = subst (SameBelief c r m) (sym left.mirror) (same_belief c r m);
        bits = left.bits r;
        marks = left.marks r;
      };
      locations = left.locations;
    }

    on_by_grant : (o : Op) (k : Grant) → grant (modelled c l m gathered) o ≡ k → register_of c o ≡ None → is_of_memory o ≡ true → e.locations ≡ d.locations
        → StepsOn c l g w (step_by w o k) (step_by v o k)
    on_by_grant o (Ok place) so is memory same =
        let s = standing_at a (adapter_for l place) in
        let z = standing_at b (adapter_for l place) in
        steps_on o _ _ _ _ _ _ _ _ is
        (memory_in c l sound g h first second m n gathered others s z d e o place memory (devices w v rests other) same so)
    on_by_grant o (Err why) so is memory same =
        steps_on o (quiet (end.Refused why) (modelled c l m gathered)) (quiet (end.Refused why) (modelled c l n others)) [] [] d e a b is
        (left_refused c l sound g h first second m n gathered others (standing_at a 0) (standing_at b 0) d e (end.Refused why) same (devices w v rests other))

    -- refused as a whole
    refused_on : (o : Op) (why : Refused) → register_of c o ≡ None → e.locations ≡ d.locations → StepsOn c l g w (unchanged w o why) (unchanged v o why)
    refused_on o why is same =
        steps_on o (quiet (end.Refused why) (modelled c l m gathered)) (quiet (end.Refused why) (modelled c l n others)) [] [] d e a b is
        (left_refused c l sound g h first second m n gathered others (standing_at a 0) (standing_at b 0) d e (end.Refused why) same (devices w v rests other))

    in_by : (o : Op) (q : ℕ) → register_of c o ≡ Some q → AreReady c l g h q m n d e → StepsIn c l g q w (step_of w o) (step_of v o)
    unfolding step_of
    in_by o q is can =
        subst (λ k. StepsIn c l g q w (step_by w o (grant (modelled c l m gathered) o)) (step_by v o k)) (sym (grant_same c l m n gathered others o))
        (in_by_grant o q (grant (modelled c l m gathered) o) refl is can)

    on_by : (o : Op) → register_of c o ≡ None → is_of_memory o ≡ true → e.locations ≡ d.locations → StepsOn c l g w (step_of w o) (step_of v o)
    unfolding step_of
    on_by o is memory same =
        subst (λ k. StepsOn c l g w (step_by w o (grant (modelled c l m gathered) o)) (step_by v o k)) (sym (grant_same c l m n gathered others o))
        (on_by_grant o (grant (modelled c l m gathered) o) refl is memory same)

    reset_by_kind : (kind r : ℕ) → SameReg c r w v → SameMakeup (flawed (bare c l) g) (flawed (bare c l) h) r → e.locations ≡ d.locations
        → Resets c l g r (step_of w (op.Reset kind)) (step_of v (op.Reset kind))
    unfolding step_of
    reset_by_kind kind r same made stored =
        let can = ready r same made in
        let alike = alike_in c l sound g h first second m n gathered others (standing_at a 0) (standing_at b 0) d e r can in
        let after = are_reset r kind d e alike.made alike.size same.bits same.marks in
        record {
          event = refl;
          rests = record {
            chip = refl;
            layout = refl;
            size = reset_size c kind m rests.size;
            setup = after.setup ∙ rests.setup;
            beats = after.beats;
            bits = after.size ∙ rests.bits;
            marks = after.mark_size ∙ rests.marks;
          };
          same = record { belief = reset_same c r kind m n rests.size other.size same.belief; bits = after.bits; marks = after.marks };
          locations = after.other_locations ∙ stored ∙ sym after.locations;
        }

  pub rests_bare : (k : Flaws) (w : World) → Rests c l k w → Rests c l k (with_parts c l w)
  rests_bare k w rests = record {
    chip = refl;
    layout = refl;
    size = rests.size;
    setup = rests.setup;
    beats = rests.beats;
    bits = rests.bits;
    marks = rests.marks;
  }

  same_bare : (q : ℕ) (w v : World) → SameReg c q w v → SameReg c q (with_parts c l w) (with_parts c l v)
  same_bare q w v same = record { belief = same.belief; bits = same.bits; marks = same.marks }

  pub step_in : (w v : World) (o : Op) (q : ℕ) → Rests c l g w → Rests c l h v → SameReg c q w v → SameMakeup (flawed (bare c l) g) (flawed (bare c l) h) q
      → register_of c o ≡ Some q → StepsIn c l g q w (step_of w o) (step_of v o)
  step_in w v o q rests other same made is =
      let x = with_parts c l w in
      let first_rests = rests_bare g w rests in
      let then_rests = rests_bare h v other in
      by_parts c l g w rests (λ y. StepsIn c l g q y (step_of y o) (step_of v o))
      (by_parts c l h v other (λ y. StepsIn c l g q x (step_of x o) (step_of y o))
      (in_by w.model.mirror v.model.mirror w.model.gathered v.model.gathered w.adapters v.adapters w.device v.device first_rests then_rests o q is
      (ready w.model.mirror v.model.mirror w.model.gathered v.model.gathered w.adapters v.adapters w.device v.device first_rests then_rests q (same_bare q w v same) made)))

  pub step_on : (w v : World) (o : Op) → Rests c l g w → Rests c l h v → register_of c o ≡ None → is_of_memory o ≡ true
      → v.device.locations ≡ w.device.locations → StepsOn c l g w (step_of w o) (step_of v o)
  step_on w v o rests other is memory same =
      let x = with_parts c l w in
      by_parts c l g w rests (λ y. StepsOn c l g y (step_of y o) (step_of v o))
      (by_parts c l h v other (λ y. StepsOn c l g x (step_of x o) (step_of y o))
      (on_by w.model.mirror v.model.mirror w.model.gathered v.model.gathered w.adapters v.adapters w.device v.device (rests_bare g w rests) (rests_bare h v other) o is memory same))

  refuse_on : (w v : World) (o : Op) (why : Refused) → Rests c l g w → Rests c l h v → register_of c o ≡ None
      → v.device.locations ≡ w.device.locations → StepsOn c l g w (unchanged w o why) (unchanged v o why)
  refuse_on w v o why rests other is same =
      let x = with_parts c l w in
      by_parts c l g w rests (λ y. StepsOn c l g y (unchanged y o why) (unchanged v o why))
      (by_parts c l h v other (λ y. StepsOn c l g x (unchanged x o why) (unchanged y o why))
      (refused_on w.model.mirror v.model.mirror w.model.gathered v.model.gathered w.adapters v.adapters w.device v.device (rests_bare g w rests) (rests_bare h v other) o why is same))

  pub step_reset : (w v : World) (kind r : ℕ) → Rests c l g w → Rests c l h v → SameReg c r w v → SameMakeup (flawed (bare c l) g) (flawed (bare c l) h) r
      → v.device.locations ≡ w.device.locations → Resets c l g r (step_of w (op.Reset kind)) (step_of v (op.Reset kind))
  step_reset w v kind r rests other same made stored =
      let x = with_parts c l w in
      by_parts c l g w rests (λ y. Resets c l g r (step_of y (op.Reset kind)) (step_of v (op.Reset kind)))
      (by_parts c l h v other (λ y. Resets c l g r (step_of x (op.Reset kind)) (step_of y (op.Reset kind)))
      (reset_by_kind w.model.mirror v.model.mirror w.model.gathered v.model.gathered w.adapters v.adapters w.device v.device (rests_bare g w rests) (rests_bare h v other) kind r
      (same_bare r w v same) made stored))

-- ---- what is told of a step

event_op : (r : Option ℕ) (p : Op) (items : List TraceItem) (x : Outcome) → (event_at r p items x).op ≡ p
event_op None p items x = refl
event_op (Some q) p items x = refl

grant_op : (w : World) (o : Op) (k : Grant) → (step_by w o k).event.op ≡ named w.model o
grant_op w o (Ok place) = event_op (register_of w.model.chip (named w.model o)) (named w.model o) _ _
grant_op w o (Err why) = event_op (register_of w.model.chip (named w.model o)) (named w.model o) _ _

pub step_op : (w : World) (o : Op) → (step_of w o).event.op ≡ named w.model o
unfolding step_of
step_op w o = grant_op w o (grant w.model o)

told_nothing : (c : ChipData) (r q : ℕ) (w : World) (o : Op) → w.model.chip ≡ c → register_of c o ≡ Some q → (q ≡ r → ⊥)
    → told_in c r (step_of w o).event ≡ None
told_nothing c r q w o chip is apart =
    let e = (step_of w o).event in
    let at : register_of c e.op ≡ Some q =
    ap (register_of c) (step_op w o) ∙ subst (λ (x : ChipData). register_of x (named w.model o) ≡ register_of x o) chip (named_register w.model o) ∙ is in
    ap (λ k. if option_map_or (λ n. not (n == r)) k false then None else Some (untraced e)) at
    ∙ ap (λ b. if not b then None else Some (untraced e)) (ne_eqb q r apart)

told_by : (c : ChipData) (r : ℕ) (e f : Event) → untraced f ≡ untraced e → told_in c r f ≡ told_in c r e
told_by c r e f same = ap (λ (x : Event). if is_of_other c r x then None else Some x) same

-- ---- both worlds

-- one register and the memories are the same in both
pub record Alike (c : ChipData) (l : LayoutData) (g h : Flaws) (r : ℕ) (w v : World) : Type 0 where
  pub rests : Rests c l g w
  pub other : Rests c l h v
  pub same : SameReg c r w v
  pub locations : v.device.locations ≡ w.device.locations

pub record StepPair (c : ChipData) (l : LayoutData) (g h : Flaws) (r : ℕ) (s z : Step) : Type 0 where
  pub told : told_in c r z.event ≡ told_in c r s.event
  pub worlds : Alike c l g h r s.world z.world

-- both are one operation, or each is one on some register beside this one, the same in both
abbrev pub OpsFit : ChipData → (r : ℕ) → Op → Op → Type 0
OpsFit c r o p = (p ≡ o) ⊎ ((q : ℕ) × (q ≡ r → ⊥) × (register_of c o ≡ Some q) × (register_of c p ≡ Some q))

pub none_is : (c : ChipData) (o : Op) → register_of c o ≡ None → (is_of_memory o ≡ true) ⊎ ((kind : ℕ) × (o ≡ op.Reset kind))
none_is c (op.MemWrite mem map index value) is = inl refl
none_is c (op.MemRead mem map index) is = inl refl
none_is c (op.MemCheck mem map index value) is = inl refl
none_is c (op.BurstWrite mem map start count) is = inl refl
none_is c (op.BurstRead mem map start count) is = inl refl
none_is c (op.MemPeek mem index) is = inl refl
none_is c (op.MemPoke mem index value) is = inl refl
none_is c (op.Reset kind) is = inr (kind, refl)
none_is c _ is = absurd cc

module _ (c : ChipData) (l : LayoutData) (sound : AreSound c l) (g h : Flaws) (first : IsCalm (flawed (bare c l) g)) (second : IsCalm (flawed (bare c l) h))
    (r : ℕ) (made : SameMakeup (flawed (bare c l) g) (flawed (bare c l) h) r) where
  abbrev Pair : Step → Step → Type 0
  Pair = StepPair c l g h r

  abbrev Same : World → World → Type 0
  Same = Alike c l g h r

  -- one of another register in each
  step_other : (o p : Op) (q : ℕ) (w v : World) → (q ≡ r → ⊥) → register_of c o ≡ Some q → register_of c p ≡ Some q → Same w v → Pair (step_of w o) (step_of v p)
  step_other o p q w v apart mine its alike =
      let x = step_in c l sound g g first first w w o q alike.rests alike.rests (same_reg c q w) (same_makeup (flawed (bare c l) g) q) mine in
      let y = step_in c l sound h h second second v v p q alike.other alike.other (same_reg c q v) (same_makeup (flawed (bare c l) h) q) its in
      let s = (step_of w o).world in
      let z = (step_of v p).world in
      let away = λ (is : r ≡ q). apart (sym is) in
      record {
        told = told_nothing c r q v p alike.other.chip its apart ∙ sym (told_nothing c r q w o alike.rests.chip mine apart);
        worlds = record {
          rests = x.rests;
          other = y.rests;
          same = reg_on c r s w z (reg_back c r w s (x.beside r away)) (reg_on c r w v z alike.same (y.beside r away));
          locations = y.locations ∙ alike.locations ∙ sym x.locations;
        };
      }

  step_own : (o : Op) (w v : World) → register_of c o ≡ Some r → Same w v → Pair (step_of w o) (step_of v o)
  step_own o w v is alike =
      let both = step_in c l sound g h first second w v o r alike.rests alike.other alike.same made is in
      let its = step_in c l sound h h second second v v o r alike.other alike.other (same_reg c r v) (same_makeup (flawed (bare c l) h) r) is in
      record {
        told = told_by c r (step_of w o).event (step_of v o).event both.event;
        worlds = record {
          rests = both.rests;
          other = its.rests;
          same = both.same;
          locations = its.locations ∙ alike.locations ∙ sym both.locations;
        };
      }

  -- what comes of a step on a memory in both
  pair_on : (w v : World) (s z : Step) → Same w v → StepsOn c l g w s z → StepsOn c l h v z z → Pair s z
  pair_on w v s z alike both its = record {
    told = told_by c r s.event z.event both.event;
    worlds = record {
      rests = both.rests;
      other = its.rests;
      same = reg_on c r s.world w z.world (reg_back c r w s.world (both.beside r)) (reg_on c r w v z.world alike.same (its.beside r));
      locations = both.locations;
    };
  }

  pub memory_pair : (o : Op) (w v : World) → register_of c o ≡ None → is_of_memory o ≡ true → Same w v → Pair (step_of w o) (step_of v o)
  memory_pair o w v is memory alike =
      pair_on w v (step_of w o) (step_of v o) alike (step_on c l sound g h first second w v o alike.rests alike.other is memory alike.locations)
      (step_on c l sound h h second second v v o alike.other alike.other is memory refl)

  pub memory_end : (o : Op) (w v : World) → register_of c o ≡ None → is_of_memory o ≡ true → Same w v → (step_of v o).event.end ≡ (step_of w o).event.end
  memory_end o w v is memory alike =
      let both = step_on c l sound g h first second w v o alike.rests alike.other is memory alike.locations in
      ap (λ (e : Event). e.end) both.event

  pub refused_pair : (o : Op) (why : Refused) (w v : World) → register_of c o ≡ None → Same w v → Pair (unchanged w o why) (unchanged v o why)
  refused_pair o why w v is alike =
      pair_on w v (unchanged w o why) (unchanged v o why) alike (refuse_on c l sound g h first second w v o why alike.rests alike.other is alike.locations)
      (refuse_on c l sound h h second second v v o why alike.other alike.other is refl)

  reset_pair : (kind : ℕ) (w v : World) → Same w v → Pair (step_of w (op.Reset kind)) (step_of v (op.Reset kind))
  reset_pair kind w v alike =
      let both = step_reset c l sound g h first second w v kind r alike.rests alike.other alike.same made alike.locations in
      let its = step_reset c l sound h h second second v v kind r alike.other alike.other (same_reg c r v) (same_makeup (flawed (bare c l) h) r) refl in
      record {
        told = told_by c r (step_of w (op.Reset kind)).event (step_of v (op.Reset kind)).event both.event;
        worlds = record { rests = both.rests; other = its.rests; same = both.same; locations = both.locations };
      }

  pair_by : (o : Op) (k : Option ℕ) (w v : World) → register_of c o ≡ k → Same w v → Pair (step_of w o) (step_of v o)
  pair_by o None w v is alike = by (none_is c o is)
    where
      by : (is_of_memory o ≡ true) ⊎ ((kind : ℕ) × (o ≡ op.Reset kind)) → Pair (step_of w o) (step_of v o)
      by (inl memory) = memory_pair o w v is memory alike
      by (inr (kind, reset)) = subst (λ p. Pair (step_of w p) (step_of v p)) (sym reset) (reset_pair kind w v alike)
  pair_by o (Some q) w v is alike = by (cases_eq q r)
    where
      by : (q ≡ r) ⊎ (q ≡ r → ⊥) → Pair (step_of w o) (step_of v o)
      by (inl same) = step_own o w v (is ∙ ap Some same) alike
      by (inr apart) = step_other o o q w v apart is is alike

  pub step_pair : (o p : Op) (w v : World) → OpsFit c r o p → Same w v → Pair (step_of w o) (step_of v p)
  step_pair o p w v (inl same) alike = subst (λ k. Pair (step_of w o) (step_of v k)) (sym same) (pair_by o (register_of c o) w v refl alike)
  step_pair o p w v (inr (q, apart, mine, its)) alike = step_other o p q w v apart mine its alike
