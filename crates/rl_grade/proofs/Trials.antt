-- What is known of a trial from its beginning on.
use Rattle.std.proofs.Common.{◌≡◌, List, [], Option, Some, sym, ap, ◌∙◌}
use Rattle.rl_access.specs.Model.{IsModel, IsReady, IsSameChip, ModelData}
use Rattle.rl_bus.specs.Standing.{Standing, kinds_of}
use Rattle.rl_bus.specs.State.{State}
use Rattle.rl_desc.specs.Data.{DescData}
use Rattle.rl_flaw.specs.declared.flaw.Flaw.{Flaw}
use Rattle.rl_map.specs.Layout.{LayoutData}
use Rattle.rl_session.specs.Judged.{first_world}
use Rattle.rl_grade.specs.Together.{IsSoundDesc, with_flaws}
use Rattle.rl_grade.specs.Trial.{IsTrialOf, described}

pub sound_by : (d : DescData) (flaws : List Flaw) → IsModel (first_world (with_flaws d flaws) []).model → IsSoundDesc d
sound_by d flaws h = record { chip = h.chip; layout = h.layout; built = h.built }

module _ (d : DescData) (flaws declared : List Flaw) (m : ModelData) (device : State) (trial : IsTrialOf d flaws m device declared) where
  pub ready_for : (adapters : List Standing) → d.layout.kinds ≡ kinds_of adapters → IsReady m adapters (Some device)
  ready_for adapters kinds =
      record { kinds = sym kinds ∙ sym (ap (λ (l : LayoutData). l.kinds) trial.layout); device = trial.device }

  -- its adapters are of the kinds of before
  pub kinds_stay : (new : ModelData) (before after : List Standing) (state : Option State) → IsSameChip m new → d.layout.kinds ≡ kinds_of before
      → IsReady new after state → kinds_of after ≡ kinds_of before
  kinds_stay new before after state parts kinds ready =
      ready.kinds ∙ ap (λ (l : LayoutData). l.kinds) (parts.layout ∙ trial.layout) ∙ kinds

  -- it ends with the description with which it began
  pub ends_as_begun : (new : ModelData) → IsSameChip m new → described new declared ≡ d
  ends_as_begun new parts =
      ap (λ x. let e : DescData = record { chip = x; layout = new.layout; flaws = declared } in e) (parts.chip ∙ trial.chip)
      ∙ ap (λ y. let e : DescData = record { chip = d.chip; layout = y; flaws = declared } in e) (parts.layout ∙ trial.layout)
      ∙ ap (λ fs. let e : DescData = record { chip = d.chip; layout = d.layout; flaws = fs } in e) trial.declared_are
