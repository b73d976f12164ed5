-- Woven accesses to registers leave the locations of memories.
use Rattle.std.proofs.Common.{◌≡◌, ℕ, ◌<◌, ◌^◌, List, [], ◌∷◌, length, map, None, Option, Some, Ok, Err, refl, sym, ap, ◌∙◌, subst}
use Rattle.std.specs.Prelude.{slice_index}
use Rattle.rl_bus.specs.Setup.{Setup, location}
use Rattle.rl_bus.specs.State.{State}
use Rattle.rl_model.specs.Rows.{ChipData}
use Rattle.rl_map.specs.Layout.{LayoutData}
use Rattle.rl_access.specs.declared.event.Op.{Op}
use Rattle.rl_access.specs.Call.{Scene}
use Rattle.rl_access.specs.Model.{ModelData}
use Rattle.rl_access.specs.Operation.{location_size}
use Rattle.rl_access.specs.Rules.{Grant, grant}
use Rattle.rl_plain.specs.Calls.{HasContent, HasAllContents}
use Rattle.rl_plain.specs.Courses.{through}
use Rattle.rl_plain.specs.Machine.{Machine, done_by, machine_step, seen}
use Rattle.rl_weave.specs.declared.access.Access.{Access}
use Rattle.rl_weave.specs.Access.{op_of, op_with, woven_at}
use Rattle.rl_weave.specs.Weave.{WeaveData, IsWeave, stepped}
use Rattle.rl_weave.proofs.Weaves.{weave_stepped}
use Rattle.rl_weave_laws.specs.Half.{IsHalf, machine_after_word}
use Rattle.rl_weave_laws.specs.Runs.{Turn, RunsTo, WeaveKeepsMemories, ended}
use Rattle.rl_weave_laws.proofs.Counting.{AreOthers, ended_others}
use Rattle.rl_weave_laws.proofs.Courses.{weave_is_plain}
use Rattle.rl_weave_laws.proofs.Halves.{fresh_is_half, is_word, step_keeps_half}

-- ---- the machine

step_by : (c : ChipData) (l : LayoutData) (p : Machine) (reg : ℕ) (map value : Option ℕ) (g : Grant)
    → (done_by c l (op_with reg map value) p g).machine.locations ≡ p.locations
step_by c l p reg map None (Ok place) = refl
step_by c l p reg map (Some value) (Ok place) = refl
step_by c l p reg map None (Err why) = refl
step_by c l p reg map (Some value) (Err why) = refl

step_leaves : (c : ChipData) (l : LayoutData) (p : Machine) (a : Access) → (machine_step c l p (op_of a)).machine.locations ≡ p.locations
unfolding machine_step
step_leaves c l p a = step_by c l p a.reg a.map a.value (grant (seen c l p) (op_of a))

course_leaves : (c : ChipData) (l : LayoutData) (ops : List Op) (p : Machine) → AreOthers ops → (through c l p ops).machine.locations ≡ p.locations
unfolding through
course_leaves c l [] p others = refl
course_leaves c l (op ∷ ops) p others =
    course_leaves c l ops (machine_step c l p op).machine others.1
    ∙ ap (λ o. (machine_step c l p o).machine.locations) others.0.1
    ∙ step_leaves c l p others.0.0

-- ---- the device

record SameMemories (d e : State) : Type 0 where
  setup : e.setup ≡ d.setup
  locations : e.locations ≡ d.locations

some_is : {x y : State} → Some x ≡ Some y → x ≡ y
some_is e = cc

same_state : (d e : State) → e ≡ d → SameMemories d e
same_state d e is = record { setup = ap (λ (x : State). x.setup) is; locations = ap (λ (x : State). x.locations) is }

runs_leave : (turns : List Turn) (begun : State) (p : Machine) (s new : Scene) (d e : State) (w left : WeaveData) → s.device ≡ Some d
    → new.device ≡ Some e → IsWeave w → IsHalf begun p s.model d w → RunsTo w s turns left new → SameMemories d e
runs_leave [] begun p s new d e w left told last ok half run =
    same_state d e (some_is (sym last ∙ ap (λ (x : Scene). x.device) run.1 ∙ told))
runs_leave (t ∷ turns) begun p s new d e w left told last ok half run =
    let next = run.0 in
    let here = run.2 in
    let is = run.3 in
    let after = step_keeps_half s next begun d p w t.which t.step run.1 told ok here half is in
    let word = is_word begun p s next d w t.which t.step run.1 told here half is in
    let rest = runs_leave turns begun (machine_after_word s.model p (woven_at w.accesses t.which) t.step.item) next new after.device e
    (stepped w t.which t.step.item) left after.told last (weave_stepped w t.which t.step.item ok here) after.half run.4 in
    let now = same_state _ after.device (some_is (sym after.told ∙ word.told.goes)) in
    record {
      setup = rest.setup ∙ now.setup ∙ word.next.touched.setup;
      locations = rest.locations ∙ now.locations ∙ word.next.touched.locations;
    }

-- ---- both

same_content : (c : ChipData) (d e : State) (p q : Machine) (mem index : ℕ) → SameMemories d e → q.locations ≡ p.locations
    → HasContent c d p mem index → HasContent c e q mem index
same_content c d e p q mem index same locations h = record {
  has = record {
    inside = subst (λ (t : Setup). location t mem index < length e.locations) (sym same.setup)
        (subst (λ (xs : List ℕ). location d.setup mem index < length xs) (sym same.locations) h.has.inside);
    fits = subst (λ (t : Setup). slice_index e.locations (location t mem index) < 256 ^ location_size c mem) (sym same.setup)
        (subst (λ (xs : List ℕ). slice_index xs (location d.setup mem index) < 256 ^ location_size c mem) (sym same.locations) h.has.fits);
  };
  holds = ap (λ (t : Setup). slice_index e.locations (location t mem index)) same.setup
      ∙ ap (λ (xs : List ℕ). slice_index xs (location d.setup mem index)) same.locations
      ∙ h.holds ∙ sym (ap (λ (f : ℕ → ℕ → ℕ). f mem index) locations);
}

seen_again : (m n : ModelData) (p : Machine) → n ≡ seen m.chip m.layout p → n ≡ seen n.chip n.layout p
seen_again m n p is =
    is
    ∙ ap (λ c. seen c m.layout p) (sym (ap (λ (x : ModelData). x.chip) is))
    ∙ ap (λ l. seen n.chip l p) (sym (ap (λ (x : ModelData). x.layout) is))

pub weave_keeps_memories : WeaveKeepsMemories
weave_keeps_memories s new p w left turns model machine ok on unsent run built none =
    let a = machine.agree in
    let c = s.model.chip in
    let l = s.model.layout in
    let plain = weave_is_plain s new p w left turns model a machine.model ok on unsent run built none in
    let half = fresh_is_half s p w model a machine.model ok on unsent in
    let q = (through c l p (ended w turns)).machine in
    let same = runs_leave turns a.device p s new a.device plain.0.device w left a.told plain.0.told ok half run in
    let locations = course_leaves c l (ended w turns) p (ended_others w turns) in
    let chip : new.model.chip ≡ c = ap (λ (x : ModelData). x.chip) plain.1 in
    let contents : HasAllContents c plain.0.device q = λ mem index low inside.
    same_content c a.device plain.0.device p q mem index same locations (machine.locations mem index low inside) in (
      record {
        agree = plain.0;
        model = seen_again s.model new.model q plain.1;
        locations = subst (λ x. HasAllContents x plain.0.device q) (sym chip) contents;
      },
      locations,
    )
