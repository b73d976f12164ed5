-- A model, its adapters and its device are ready for a call where the chip and the layout are as before.
use Rattle.std.proofs.Common.{◌≡◌, List, Option, sym, subst, ap, ◌∙◌}
use Rattle.rl_bus.specs.Standing.{Standing}
use Rattle.rl_bus.specs.State.{State}
use Rattle.rl_access.specs.Model.{ModelData, IsDeviceOf, IsReady, IsReadyFor, IsSameChip}

-- with another state of the device, which goes with the model
pub ready_again : (m new : ModelData) (adapters : List Standing) (before after : Option State)
    → IsReady m adapters before → IsSameChip m new → IsDeviceOf new after → IsReady new adapters after
ready_again m new adapters before after ready same device =
    record { kinds = ready.kinds ∙ ap (λ l. l.kinds) (sym same.layout); device = device }

-- with the same device
pub ready_alone : (m new : ModelData) (adapters : List Standing) (state : Option State)
    → IsReady m adapters state → IsSameChip m new → IsReady new adapters state
ready_alone m new adapters state ready same =
    subst (λ c. IsReadyFor c new.layout adapters state) (sym same.chip)
    (subst (λ l. IsReadyFor m.chip l adapters state) (sym same.layout) ready)
