-- What stays of a stage.
use Rattle.std.proofs.Common.{◌≡◌, List, refl, ◌∙◌}
use Rattle.rl_access.specs.Model.{IsReady}
use Rattle.rl_bus.specs.Standing.{Standing}
use Rattle.rl_bus.specs.declared.device.Device.{Ghosts as Device}
use Rattle.rl_weave_log.specs.Stage.{StaysAt}
use Rattle.rl_weave_log.specs.declared.script.Stage.{Stage}

module _ {D K X : Type 0} {V : X → Type 0} (d : Device D) where
  pub stays_here : (a : List Standing) (s : Stage D K X V) → IsReady s.model.now a (d.state s.device.now) → StaysAt d a s s
  stays_here a s ready = record {
    ready = record { ready = ready; parts = record { chip = refl; layout = refl } };
    same_model = refl;
    same_device = refl;
    same_adapters = refl;
    same_out = refl;
    same_counts = refl;
  }

  pub stays_then : (a b : List Standing) (s mid new : Stage D K X V) → StaysAt d a s mid → StaysAt d b mid new → StaysAt d b s new
  stays_then a b s mid new h k = record {
    ready = record {
      ready = k.ready.ready;
      parts = record {
        chip = k.ready.parts.chip ∙ h.ready.parts.chip;
        layout = k.ready.parts.layout ∙ h.ready.parts.layout;
      };
    };
    same_model = k.same_model ∙ h.same_model;
    same_device = k.same_device ∙ h.same_device;
    same_adapters = k.same_adapters ∙ h.same_adapters;
    same_out = k.same_out ∙ h.same_out;
    same_counts = k.same_counts ∙ h.same_counts;
  }
