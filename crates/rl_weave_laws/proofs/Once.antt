-- Each access that ends is one step of its register.
use Rattle.std.proofs.Common.{◌≡◌, ℕ, ◌<◌, ◌==◌, Bool, true, false, not, cond, List, [], ◌∷◌, length, Some, refl, sym, ap, ◌∙◌, subst, inl, inr}
use Rattle.std.specs.Prelude.{Contains, IfSome}
use Rattle.std.proofs.lemmas.Bool.{cases_eq}
use Rattle.std.proofs.lemmas.List.{get_or-set_same, get_or-set_other}
use Rattle.rl_bus.specs.State.{State}
use Rattle.rl_model.specs.Rows.{ChipData}
use Rattle.rl_model.specs.Fields.{fields_of}
use Rattle.rl_map.specs.Layout.{LayoutData}
use Rattle.rl_access.specs.declared.trace.TraceItem.{TraceItem}
use Rattle.rl_access.specs.Call.{Scene}
use Rattle.rl_access.specs.Model.{ModelData}
use Rattle.rl_plain.specs.Courses.{through}
use Rattle.rl_plain.specs.Machine.{Machine, register_at, machine_step}
use Rattle.rl_plain.specs.OneStep.{register_after}
use Rattle.rl_weave.specs.declared.access.Access.{Access}
use Rattle.rl_weave.specs.declared.weave.Step.{Step}
use Rattle.rl_weave.specs.declared.woven.Woven.{Woven}
use Rattle.rl_weave.specs.Access.{op_of, no_woven, woven_at}
use Rattle.rl_weave.specs.Weave.{WeaveData, IsWeave, is_over, going_on, without, stepped}
use Rattle.rl_weave.proofs.Endings.{reg_in}
use Rattle.rl_weave.proofs.Weaves.{at_open, apart_from, weave_stepped}
use Rattle.rl_weave_laws.specs.Half.{IsHalf, IsOpen, NoneOpen, IsAlike, step_of, answered, register_after_word, machine_after_word, IsHalfAfter}
use Rattle.rl_weave_laws.specs.Runs.{Turn, RunsTo, ended, TellSteps, EachStepsOnce}
use Rattle.rl_weave_laws.proofs.Halves.{fresh_is_half, step_keeps_half, filter_has, filter_from, not_at}
use Rattle.rl_weave_laws.proofs.Lasts.{alike_as_is, alike_through, steps_alike, answers_alike}
use Rattle.rl_weave_laws.proofs.Moves.{regs_differ}

-- ---- which are open after a step

access_kept : (w : WeaveData) (which i : ℕ) (item : TraceItem) → which < length w.accesses →
    (woven_at (stepped w which item).accesses i).access ≡ (woven_at w.accesses i).access
access_kept w which i item inside =
    elim (cases_eq i which) [
      | inl e ↦
          ap (λ n. (woven_at (stepped w which item).accesses n).access) e
          ∙ ap (λ (v : Woven). v.access) (get_or-set_same w.accesses which (going_on (woven_at w.accesses which) item) no_woven inside)
          ∙ ap (λ n. (woven_at w.accesses n).access) (sym e)
      | inr apart ↦ ap (λ (v : Woven). v.access) (get_or-set_other w.accesses which i (going_on (woven_at w.accesses which) item) no_woven apart)
    ]

still : (over : Bool) (which i : ℕ) (xs : List ℕ) → Contains (cond over (without which xs) xs) i → Contains xs i
still true which i xs h = filter_from (λ j. not (j == which)) i xs h
still false which i xs h = h

keeps : (over : Bool) (which i : ℕ) (xs : List ℕ) → Contains xs i → (i ≡ which → ⊥) → Contains (cond over (without which xs) xs) i
keeps true which i xs h apart = filter_has (λ j. not (j == which)) i xs h (not_at i which apart)
keeps false which i xs h apart = h

gone : (which : ℕ) (xs : List ℕ) → Contains (without which xs) which → ⊥
gone which xs h = apart_from which xs h.0 which h.1 h.2

-- ---- a run

-- from the machine p, with registers of open accesses that are as in the machine o
record IsOnce (c : ChipData) (o p q : Machine) (w left : WeaveData) (turns : List Turn) : Type 0 where
  taken : (i : ℕ) → IsOpen w i → (IsOpen left i → ⊥) →
      IsAlike c (woven_at w.accesses i).access.reg (register_after (fields_of c (woven_at w.accesses i).access.reg) (step_of (woven_at w.accesses i).access.value) (register_at c o
      (woven_at w.accesses i).access.reg)) (register_at c q (woven_at w.accesses i).access.reg)
  others : (reg : ℕ) → reg < length c.regs → NoneOpen w (λ v. v.access.reg ≡ reg) → IsAlike c reg (register_at c p reg) (register_at c q reg)
  tells : TellSteps c o w turns

abbrev AreAsIn : ChipData → (o p : Machine) → WeaveData → Type 0
AreAsIn c o p w = (i : ℕ) → IsOpen w i → IsAlike c (woven_at w.accesses i).access.reg (register_at c o (woven_at w.accesses i).access.reg) (register_at c p (woven_at w.accesses i).access.reg)

none_through : (c : ChipData) (l : LayoutData) (p : Machine) → (through c l p []).machine ≡ p
unfolding through
none_through c l p = refl

by_through : (c : ChipData) (l : LayoutData) (p : Machine) (w : WeaveData) (t : Turn) (turns : List Turn) (over : Bool) →
    (through c l (cond over (machine_step c l p (op_of (woven_at w.accesses t.which).access)).machine p) (ended (stepped w t.which t.step.item) turns)).machine
    ≡ (through c l p (cond over (op_of (woven_at w.accesses t.which).access ∷ ended (stepped w t.which t.step.item) turns) (ended (stepped w t.which t.step.item) turns))).machine
unfolding through
by_through c l p w t turns true = refl
by_through c l p w t turns false = refl

-- ---- one step

abbrev after_word : ChipData → LayoutData → Machine → Woven → TraceItem → Machine
after_word c l p v item = cond (is_over v item) (machine_step c l p (op_of v.access)).machine p

record IsOneWord (c : ChipData) (l : LayoutData) (p : Machine) (v : Woven) (step : Step) : Type 0 where
  own : IsAlike c v.access.reg (register_after_word c p v step.item) (register_at c (after_word c l p v step.item) v.access.reg)
  others : (reg : ℕ) → reg < length c.regs → (reg ≡ v.access.reg → ⊥) →
      IsAlike c reg (register_at c p reg) (register_at c (after_word c l p v step.item) reg)
  answers : IfSome step.end (λ e. e.end ≡ answered c v.access.reg v.access.value (register_at c p v.access.reg))

one_word : (c : ChipData) (l : LayoutData) (begun : State) (p : Machine) (s new : Scene) (w : WeaveData) (which : ℕ) (step : Step) →
    s.model.chip ≡ c → s.model.layout ≡ l → IsHalfAfter begun p s new w which step → IsOneWord c l p (woven_at w.accesses which) step
one_word c l begun p s new w which step chip layout after =
    subst (λ x. IsOneWord x l p (woven_at w.accesses which) step) chip
    (subst (λ x. IsOneWord s.model.chip x p (woven_at w.accesses which) step) layout (record { own = after.own; others = after.others; answers = after.answers }))

-- the registers of the accesses that are still open
base_after : (c : ChipData) (l : LayoutData) (o p : Machine) (w : WeaveData) (which : ℕ) (step : Step) → IsWeave w → IsOpen w which →
    ((i : ℕ) → IsOpen w i → (woven_at w.accesses i).access.reg < length c.regs) → AreAsIn c o p w →
    IsOneWord c l p (woven_at w.accesses which) step → AreAsIn c o (after_word c l p (woven_at w.accesses which) step.item) (stepped w which step.item)
base_after c l o p w which step ok here low base one i there =
    let v = woven_at w.accesses which in
    let inside = (at_open w which ok here).inside in
    let q = after_word c l p v step.item in
    subst (λ (a : Access). IsAlike c a.reg (register_at c o a.reg) (register_at c q a.reg)) (sym (access_kept w which i step.item inside))
    (elim (cases_eq i which) [
      | inl e ↦
          subst (λ n. IsAlike c (woven_at w.accesses n).access.reg (register_at c o (woven_at w.accesses n).access.reg) (register_at c q (woven_at w.accesses n).access.reg)) (sym e)
          (own_base (is_over v step.item) refl (subst (λ n. Contains (cond (is_over v step.item) (without which w.still_open) w.still_open) n) e there))
      | inr apart ↦
          let back : IsOpen w i = still (is_over v step.item) which i w.still_open there in
          let x = woven_at w.accesses i in
          alike_through c x.access.reg (register_at c o x.access.reg) (register_at c p x.access.reg) (register_at c q x.access.reg) (base i back)
          (one.others x.access.reg (low i back) (regs_differ w.accesses i which ok.apart (at_open w i ok back).inside inside apart))
    ])
  where
    own_base : (over : Bool) → is_over (woven_at w.accesses which) step.item ≡ over →
        Contains (cond over (without which w.still_open) w.still_open) which →
        IsAlike c (woven_at w.accesses which).access.reg (register_at c o (woven_at w.accesses which).access.reg) (register_at c (after_word c l p (woven_at w.accesses which) step.item)
        (woven_at w.accesses which).access.reg)
    own_base true e there = absurd (gone which w.still_open there)
    own_base false e there =
        let v = woven_at w.accesses which in
        let reg = v.access.reg in
        let r = register_at c p reg in
        alike_through c reg (register_at c o reg) r (register_at c (after_word c l p v step.item) reg) (base which here)
        (subst (λ x. IsAlike c reg x (register_at c (after_word c l p v step.item) reg)) (ap (λ t. cond t (register_after (fields_of c reg) (step_of v.access.value) r) r) e) one.own)

-- the register of an access took its step
abbrev Taken : ChipData → (o q : Machine) → Access → Type 0
Taken c o q a = IsAlike c a.reg (register_after (fields_of c a.reg) (step_of a.value) (register_at c o a.reg)) (register_at c q a.reg)

-- the rest of a run behind a step
once_more : (c : ChipData) (l : LayoutData) (o p q : Machine) (w left : WeaveData) (t : Turn) (turns : List Turn) → IsWeave w → IsOpen w t.which →
    ((i : ℕ) → IsOpen w i → (woven_at w.accesses i).access.reg < length c.regs) → AreAsIn c o p w →
    IsOneWord c l p (woven_at w.accesses t.which) t.step → IsOnce c o (after_word c l p (woven_at w.accesses t.which) t.step.item) q (stepped w t.which t.step.item) left turns →
    IsOnce c o p q w left (t ∷ turns)
once_more c l o p q w left t turns ok here low base one rest =
    let v = woven_at w.accesses t.which in
    let reg = v.access.reg in
    let inside = (at_open w t.which ok here).inside in
    record {
      taken = λ i there shut.
          elim (cases_eq i t.which) [
            | inl e ↦ subst (λ n. Taken c o q (woven_at w.accesses n).access) (sym e) (own_taken (is_over v t.step.item) refl (λ open_still. shut (subst (λ n. IsOpen left n) (sym e) open_still)))
            | inr apart ↦ later i (keeps (is_over v t.step.item) t.which i w.still_open there apart) shut
          ];
      others = λ n small none.
          alike_through c n (register_at c p n) (register_at c (after_word c l p v t.step.item) n) (register_at c q n)
          (one.others n small (λ e. none t.which here (sym e)))
          (rest.others n small (λ i there h. none i (still (is_over v t.step.item) t.which i w.still_open there) (sym (ap (λ (a : Access). a.reg) (access_kept w t.which i t.step.item inside)) ∙ h)));
      tells = (subst (λ x. IfSome t.step.end (λ e. e.end ≡ x)) (sym (answers_alike c reg v.access.value (register_at c o reg) (register_at c p reg) (base t.which here))) one.answers, rest.tells);
    }
  where
    later : (i : ℕ) → IsOpen (stepped w t.which t.step.item) i → (IsOpen left i → ⊥) → Taken c o q (woven_at w.accesses i).access
    later i there shut =
        subst (Taken c o q) (access_kept w t.which i t.step.item (at_open w t.which ok here).inside)
        (rest.taken i there shut)

    none_has : is_over (woven_at w.accesses t.which) t.step.item ≡ true →
        NoneOpen (stepped w t.which t.step.item) (λ u. u.access.reg ≡ (woven_at w.accesses t.which).access.reg)
    none_has e i there h =
        let inside = (at_open w t.which ok here).inside in
        let back : IsOpen w i = still (is_over (woven_at w.accesses t.which) t.step.item) t.which i w.still_open there in
        let away : Contains (without t.which w.still_open) i = subst (λ b. Contains (cond b (without t.which w.still_open) w.still_open) i) e there in
        regs_differ w.accesses i t.which ok.apart (at_open w i ok back).inside inside (λ same. gone t.which w.still_open (subst (Contains (without t.which w.still_open)) same away))
        (sym (ap (λ (a : Access). a.reg) (access_kept w t.which i t.step.item inside)) ∙ h)

    own_taken : (over : Bool) → is_over (woven_at w.accesses t.which) t.step.item ≡ over → (IsOpen left t.which → ⊥) →
        Taken c o q (woven_at w.accesses t.which).access
    own_taken true e shut =
        let v = woven_at w.accesses t.which in
        let reg = v.access.reg in
        let fs = fields_of c reg in
        let st = step_of v.access.value in
        let r = register_at c p reg in
        let q1 = after_word c l p v t.step.item in
        alike_through c reg (register_after fs st (register_at c o reg)) (register_after fs st r) (register_at c q reg) (steps_alike c reg v.access.value (register_at c o reg) r (base t.which here))
        (alike_through c reg (register_after fs st r) (register_at c q1 reg) (register_at c q reg)
        (subst (λ x. IsAlike c reg x (register_at c q1 reg)) (ap (λ b. cond b (register_after fs st r) r) e) one.own)
        (rest.others reg (low t.which here) (none_has e)))
    own_taken false e shut = later t.which (subst (λ b. Contains (cond b (without t.which w.still_open) w.still_open) t.which) (sym e) here) shut

-- ---- a run

once : (c : ChipData) (l : LayoutData) (begun : State) (o : Machine) (turns : List Turn) (p : Machine) (s new : Scene) (d : State) (w left : WeaveData) →
    s.model.chip ≡ c → s.model.layout ≡ l → s.device ≡ Some d → IsWeave w → IsHalf begun p s.model d w → AreAsIn c o p w → RunsTo w s turns left new →
    IsOnce c o p (through c l p (ended w turns)).machine w left turns
once c l begun o [] p s new d w left chip layout told ok half base run = record {
  taken = λ i here shut. absurd (shut (subst (λ (x : WeaveData). IsOpen x i) (sym run.0) here));
  others = λ reg low none. subst (λ x. IsAlike c reg (register_at c p reg) (register_at c x reg)) (sym (none_through c l p)) (alike_as_is c reg (register_at c p reg));
  tells = tt;
}
once c l begun o (t ∷ turns) p s new d w left chip layout told ok half base run =
    let next = run.0 in
    let here = run.2 in
    let is = run.3 in
    let v = woven_at w.accesses t.which in
    let after = step_keeps_half s next begun d p w t.which t.step run.1 told ok here half is in
    let low : (i : ℕ) → IsOpen w i → (woven_at w.accesses i).access.reg < length c.regs = λ i there.
    let x = (woven_at w.accesses i).access in subst (λ (k : ChipData). x.reg < length k.regs) chip (reg_in s.model x.reg x.map x.value (half.open_ones i there).numbers) in
    let one = one_word c l begun p s next w t.which t.step chip layout after in
    let q1 = after_word c l p v t.step.item in
    let machine : machine_after_word s.model p v t.step.item ≡ q1 = ap (λ x. after_word x s.model.layout p v t.step.item) chip ∙ ap (λ x. after_word c x p v t.step.item) layout in
    let rest = once c l begun o turns q1 next new after.device (stepped w t.which t.step.item) left (ap (λ (m : ModelData). m.chip) is.sent.model ∙ chip) (ap (λ (m : ModelData). m.layout)
    is.sent.model ∙ layout) after.told
    (weave_stepped w t.which t.step.item ok here) (subst (λ x. IsHalf begun x next.model after.device (stepped w t.which t.step.item)) machine after.half) (base_after c l o p w t.which t.step ok here
    low base one) run.4 in
    subst (λ x. IsOnce c o p x w left (t ∷ turns)) (by_through c l p w t turns (is_over v t.step.item))
    (once_more c l o p (through c l q1 (ended (stepped w t.which t.step.item) turns)).machine w left t turns ok here low base one rest)

pub each_steps_once : EachStepsOnce
each_steps_once s new p w left turns model a is ok on unsent run =
    let c = s.model.chip in
    let l = s.model.layout in
    let all = once c l a.device p turns p s new a.device w left refl refl a.told ok (fresh_is_half s p w model a is ok on unsent) (λ i there. alike_as_is c (woven_at w.accesses i).access.reg
    (register_at c p (woven_at w.accesses i).access.reg)) run in
    record { taken = all.taken; others = all.others; tells = all.tells }
