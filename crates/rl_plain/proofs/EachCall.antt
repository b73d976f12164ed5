-- Each call leaves agreement that speaks of memories too, and a reset is the machine's.
use Rattle.std.proofs.Common.{◌≡◌, ℕ, List, length, Option, refl, ap, ◌∙◌, subst, sym}
use Rattle.std.specs.Prelude.{slice_index}
use Rattle.rl_bus.specs.Account.{Account}
use Rattle.rl_bus.specs.Setup.{location}
use Rattle.rl_bus.specs.Standing.{Standing}
use Rattle.rl_bus.specs.State.{State}
use Rattle.rl_model.specs.Rows.{ChipData}
use Rattle.rl_map.specs.Layout.{LayoutData}
use Rattle.rl_mirror.specs.Mirror.{MirrorData}
use Rattle.rl_access.specs.declared.event.End.TheVariants as end
use Rattle.rl_access.specs.declared.event.Event.{Event}
use Rattle.rl_access.specs.declared.event.Op.TheVariants as op
use Rattle.rl_access.specs.Call.{Scene, scene, Performs}
use Rattle.rl_access.specs.Model.{ModelData, IsModel}
use Rattle.rl_plain.specs.Agree.{Agree}
use Rattle.rl_plain.specs.Machine.{Machine, seen, with_reset, machine_step}
use Rattle.rl_plain.specs.Calls.{without_items, IsMachineOf}
use Rattle.rl_plain.specs.EachCall.{AgreeWithMemories, EachCallKeepsAgreement, NewOnesAgreeWithMemories, ResetIsPlain}
use Rattle.rl_plain.proofs.Backdoor.{alone_by}
use Rattle.rl_plain.proofs.FirstOnes.{first_ones_are_plain}
use Rattle.rl_plain.proofs.Machines.{none_of, seen_is, call_is_plain}
use Rattle.rl_plain.proofs.QuietSteps.{told_alone, reset_is}
use Rattle.rl_plain.proofs.Told.{done_told}

-- ---- agreement that speaks of memories is that a device and a model are some machine's

with_memories : (s : Scene) (p : Machine) → IsMachineOf s p → AgreeWithMemories s
with_memories s p is = record { agree = is.agree; locations = λ mem index inside low. (is.locations mem index inside low).has }

-- what is believed, and what the device has in each location
abbrev machine_of : ModelData → State → Machine
machine_of m d = record { bits = m.mirror.mirrored; desired = m.mirror.desired; spent = m.mirror.spent; locations = λ mem index. slice_index d.locations (location d.setup mem index) }

is_machine : (s : Scene) → IsModel s.model → (w : AgreeWithMemories s) → IsMachineOf s (machine_of s.model w.agree.device)
is_machine s ok w =
    let m = s.model in
    record {
      agree = w.agree;
      model = seen_is m.chip m.layout (machine_of m w.agree.device) m refl refl refl (none_of m.gathered (length m.layout.places) ok.predictor.count w.agree.gathered);
      locations = λ mem index inside low. record { has = w.locations mem index inside low; holds = refl };
    }

pub each_call_keeps_agreement : EachCallKeepsAgreement
each_call_keeps_agreement s new op event numbers ok w performs =
    let p = machine_of s.model w.agree.device in
    with_memories new (machine_step s.model.chip s.model.layout p op).machine (call_is_plain s new op event p numbers ok (is_machine s ok w) performs).0

pub new_ones_agree_with_memories : NewOnesAgreeWithMemories
new_ones_agree_with_memories s ok steady mirror gathered told = with_memories s _ (first_ones_are_plain s ok steady mirror gathered told)

-- ---- a reset

abbrev IsResetAfter : (c : ChipData) (l : LayoutData) (p : Machine) (new : Scene) (kind : ℕ) (event : Event) → Type 0
IsResetAfter c l p new kind event =
    let done = machine_step c l p (op.Reset kind) in
    (new.model ≡ seen c l done.machine) × (without_items event ≡ done.event)

reset_from : (c : ChipData) (l : LayoutData) (p : Machine) (ad : List Standing) (er : Account) (t : Option State) (new : Scene) (kind : ℕ) (event : Event) →
    let s = scene (seen c l p) ad er t in
    Agree s → Performs s new (op.Reset kind) event → IsResetAfter c l p new kind event
unfolding machine_step
reset_from c l p ad er t new kind event a done =
    let s = scene (seen c l p) ad er t in
    let q = with_reset c kind p in
    let by = alone_by s new (op.Reset kind) event 0 a.device done a.told refl in
    let tells = told_alone s new (op.Reset kind) event 0 a.device done a.told refl in
    let model : new.model ≡ seen c l q = by.model ∙ ap (λ (x : MirrorData). let m : ModelData = record (seen c l p) { mirror = x } in m) (reset_is c kind p) in
    (model, done_told s new (op.Reset kind) 0 event end.Done 0 q done (ap (λ (e : Event). e.end) tells.event_is) (ap (λ (e : Event). e.differ) tells.event_is) (ap (λ (m : ModelData). m.mirror) model))

abbrev IsResetFrom : (p : Machine) (ad : List Standing) (er : Account) (t : Option State) (new : Scene) (kind : ℕ) (event : Event) → ModelData → Type 0
IsResetFrom p ad er t new kind event m =
    let s = scene m ad er t in
    Agree s → Performs s new (op.Reset kind) event → IsResetAfter m.chip m.layout p new kind event

pub reset_is_plain : ResetIsPlain
reset_is_plain s new kind event p a is performs =
    subst (IsResetFrom p s.adapters s.account s.device new kind event) (sym is) (reset_from s.model.chip s.model.layout p s.adapters s.account s.device new kind event) a performs
