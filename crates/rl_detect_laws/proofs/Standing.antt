-- No operation changes the chip, the layout, or what a device that tells its state has.
use Rattle.std.proofs.Common.{◌≡◌, ℕ, Bool, true, false, List, Option, None, Some, option_map, Ok, Err, MatchResult, if◌then◌else◌, refl, sym, ap, ◌∙◌, subst}
use Rattle.rl_bus.specs.Setup.{Setup}
use Rattle.rl_bus.specs.State.{State, poked, hw_set, reset_by}
use Rattle.rl_model.specs.Rows.{ChipData}
use Rattle.rl_map.specs.Layout.{LayoutData}
use Rattle.rl_mirror.specs.Prediction.{needs_update}
use Rattle.rl_access.specs.declared.event.Event.{Event}
use Rattle.rl_access.specs.declared.event.Op.{Op}
use Rattle.rl_access.specs.declared.event.Op.TheVariants as op
use Rattle.rl_access.specs.declared.trace.TraceItem.{TraceItem}
use Rattle.rl_access.specs.Call.{Scene, IsDone, IsRefused, Performs}
use Rattle.rl_access.specs.Items.{failed_at}
use Rattle.rl_access.specs.Model.{ModelData}
use Rattle.rl_access.specs.Rules.{Grant, grant, Outcome, or_error, outcome, device_after}
use Rattle.rl_access.proofs.Setups.{setup-state_after_all}

-- ---- the model

-- the outcome's model is of this chip and layout
abbrev pub IsOf : ChipData → LayoutData → Outcome → Type 0
IsOf c l o = (o.model.chip ≡ c) × (o.model.layout ≡ l)

either : (c : ChipData) (l : LayoutData) (o : Option ℕ) (m : ModelData) (good : Outcome) → m.chip ≡ c → m.layout ≡ l → IsOf c l good → IsOf c l (or_error o m good)
either c l None m good chip layout h = h
either c l (Some k) m good chip layout h = (chip, layout)

which_of : (c : ChipData) (l : LayoutData) (b : Bool) (x y : Outcome) → IsOf c l x → IsOf c l y → IsOf c l (if b then x else y)
which_of c l true x y h k = h
which_of c l false x y h k = k

pub outcome_of : (m : ModelData) (op : Op) (place sampled : ℕ) (items : List TraceItem) → IsOf m.chip m.layout (outcome m op place sampled items)
outcome_of m (op.Write reg map value) place sampled items = either m.chip m.layout (failed_at items) _ _ refl refl (refl, refl)
outcome_of m (op.Read reg map) place sampled items = either m.chip m.layout (failed_at items) _ _ refl refl (refl, refl)
outcome_of m (op.Mirror reg map) place sampled items = either m.chip m.layout (failed_at items) _ _ refl refl (refl, refl)
outcome_of m (op.Check reg map) place sampled items = either m.chip m.layout (failed_at items) _ _ refl refl (refl, refl)
outcome_of m (op.FieldWrite field map value) place sampled items = either m.chip m.layout (failed_at items) _ _ refl refl (refl, refl)
outcome_of m (op.FieldRead field map) place sampled items = either m.chip m.layout (failed_at items) _ _ refl refl (refl, refl)
outcome_of m (op.Update reg map) place sampled items =
    which_of m.chip m.layout (needs_update m.mirror reg) _ _ (either m.chip m.layout (failed_at items) _ _ refl refl (refl, refl)) (refl, refl)
outcome_of m (op.MemWrite mem map index value) place sampled items = either m.chip m.layout (failed_at items) _ _ refl refl (refl, refl)
outcome_of m (op.MemRead mem map index) place sampled items = either m.chip m.layout (failed_at items) _ _ refl refl (refl, refl)
outcome_of m (op.MemCheck mem map index value) place sampled items = either m.chip m.layout (failed_at items) _ _ refl refl (refl, refl)
outcome_of m (op.OtherWrite reg map value) place sampled items = either m.chip m.layout (failed_at items) _ _ refl refl (refl, refl)
outcome_of m (op.OtherRead reg map) place sampled items = either m.chip m.layout (failed_at items) _ _ refl refl (refl, refl)
outcome_of m _ place sampled items = (refl, refl)

-- ---- the device

pub setup_after : (m : ModelData) (op : Op) (sampled : ℕ) (items : List TraceItem) (d : State) → (device_after m op sampled items d).setup ≡ d.setup
unfolding poked hw_set reset_by
setup_after m (op.BackWrite reg value) sampled items d = refl
setup_after m (op.BackRead reg) sampled items d = refl
setup_after m (op.BackCheck reg) sampled items d = refl
setup_after m (op.Poke reg value) sampled items d = refl
setup_after m (op.MemPoke mem index value) sampled items d = refl
setup_after m (op.Hw field value) sampled items d = refl
setup_after m (op.Reset kind) sampled items d = refl
setup_after m _ sampled items d = setup-state_after_all d items

-- ---- what stands

-- a model of this chip and layout, and a device with this setup that tells its state
pub record Stands (c : ChipData) (l : LayoutData) (t : Setup) (s : Scene) : Type 0 where
  pub chip : s.model.chip ≡ c
  pub layout : s.model.layout ≡ l
  pub device : State
  pub told : s.device ≡ Some device
  pub setup : device.setup ≡ t

stands_done : (c : ChipData) (l : LayoutData) (t : Setup) (s new : Scene) (op : Op) (place : ℕ) (e : Event) → Stands c l t s → IsDone s new op place e → Stands c l t new
stands_done c l t s new op place e st done =
    let after = outcome_of s.model op place done.sampled e.trace in
    record {
      chip = ap (λ (m : ModelData). m.chip) done.model ∙ after.0 ∙ st.chip;
      layout = ap (λ (m : ModelData). m.layout) done.model ∙ after.1 ∙ st.layout;
      device = device_after s.model op done.sampled e.trace st.device;
      told = done.goes ∙ ap (option_map (device_after s.model op done.sampled e.trace)) st.told;
      setup = setup_after s.model op done.sampled e.trace st.device ∙ st.setup;
    }

by_grant : (c : ChipData) (l : LayoutData) (t : Setup) (s new : Scene) (op : Op) (e : Event) (g : Grant) → Stands c l t s
    → MatchResult g (λ place. IsDone s new op place e) (λ why. IsRefused s new op why e) → Stands c l t new
by_grant c l t s new op e (Ok place) st done = stands_done c l t s new op place e st done
by_grant c l t s new op e (Err why) st refused = subst (Stands c l t) (sym refused.unchanged) st

pub still_stands : (c : ChipData) (l : LayoutData) (t : Setup) (s new : Scene) (op : Op) (e : Event) → Stands c l t s → Performs s new op e → Stands c l t new
still_stands c l t s new op e st performs = by_grant c l t s new op e (grant s.model op) st performs
