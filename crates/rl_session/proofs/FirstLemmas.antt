-- What stays true of a model, its device and its adapters.
use Rattle.std.proofs.Common.{◌≡◌, ℕ, List, [], ◌∷◌, All, replicate, Some, length, refl, sym, ap, ◌∙◌}
use Rattle.std.proofs.lemmas.List.Elements.{All-head, All-tail}
use Rattle.rl_bus.specs.Standing.{Standing}
use Rattle.rl_bus.specs.Setup.{Setup}
use Rattle.rl_bus.specs.State.{State, first_state, reset_by}
use Rattle.rl_model.specs.Rows.{ChipData}
use Rattle.rl_map.specs.Layout.{LayoutData}
use Rattle.rl_flaw.specs.declared.flaw.Flaw.{Flaw}
use Rattle.rl_flaw.specs.Flaws.{flaws_of, first_of, locations_of}
use Rattle.rl_map.specs.Tables.{setup_of}
use Rattle.rl_access.specs.Gathering.{IsNothingGathered, no_words}
use Rattle.rl_access.specs.Model.{ModelData, IsModel, IsDeviceOf}
use Rattle.rl_desc.specs.Data.{DescData}
use Rattle.rl_mirror.specs.Prediction.{fresh}
use Rattle.rl_session.specs.Judged.{first_world}
use Rattle.rl_access.specs.World.{IsAt}

-- ---- a device that was just built

first_setup : (t : Setup) (count : ℕ) → (first_state t count).setup ≡ t
unfolding first_state reset_by
first_setup t count = refl

pub device_built : (m : ModelData) (c : ChipData) (l : LayoutData) (flaws : List Flaw) (state : State) → m.chip ≡ c
    → m.layout ≡ l → state ≡ first_of c l flaws → IsDeviceOf m (Some state)
device_built m c l flaws state chip layout is =
    λ s e. let same : state ≡ s = cc in record {
      flaws = flaws_of flaws;
      setup = sym (ap (λ s. s.setup) same) ∙ ap (λ s. s.setup) is ∙ first_setup (setup_of c l (flaws_of flaws))
          (locations_of c)
          ∙ ap (λ c. setup_of c l (flaws_of flaws)) (sym chip) ∙ ap (λ l. setup_of m.chip l (flaws_of flaws)) (sym layout);
    }

all_same : {A : Type 0} (x : A) (xs : List A) → All (λ y. y ≡ x) xs → xs ≡ replicate (length xs) x
all_same x [] h = refl
all_same x (y ∷ xs) h =
    ap (λ y. y ∷ xs) (All-head (λ y. y ≡ x) y xs h) ∙ ap (◌∷◌ x) (all_same x xs (All-tail (λ y. y ≡ x) y xs h))

-- they are the first state of a session
pub first_is : (adapters : List Standing) (m : ModelData) (desc : DescData) (state : State) → m.chip ≡ desc.chip
    → m.layout ≡ desc.layout → m.mirror ≡ fresh desc.chip → IsNothingGathered m.gathered → IsModel m
    → state ≡ first_of desc.chip desc.layout desc.flaws → IsAt m adapters (Some state) (first_world desc adapters)
first_is adapters m desc state chip layout mirror none sound is =
    let gathered : m.gathered ≡ replicate (length desc.layout.places) no_words =
    all_same no_words m.gathered none ∙ ap (λ n. replicate n no_words)
    (sound.predictor.count ∙ ap (λ (l : LayoutData). length l.places) layout) in
    record {
      model_is = ap (λ c. record { chip = c; layout = m.layout; mirror = m.mirror; gathered = m.gathered }) chip
          ∙ ap (λ l. record { chip = desc.chip; layout = l; mirror = m.mirror; gathered = m.gathered }) layout
          ∙ ap (λ x. record { chip = desc.chip; layout = desc.layout; mirror = x; gathered = m.gathered }) mirror
          ∙ ap (λ g. record { chip = desc.chip; layout = desc.layout; mirror = fresh desc.chip; gathered = g }) gathered;
      adapters_are = refl;
      device_is = ap Some is;
    }
