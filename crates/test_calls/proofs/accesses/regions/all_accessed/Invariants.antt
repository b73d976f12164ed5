-- Each access may be made.
use Rattle.std.proofs.Common.{map}
use Rattle.rl_access.specs.Model.{IsReady}
use Rattle.rl_mam.specs.Mam.{IsManagerOf}
use Rattle.test_calls.proofs.accesses.regions.all_accessed.Given as goal

abbrev pub invariant-loop-access : goal.invariant-loop-access
invariant-loop-access g l =
    IsReady l.on.model.now (map (λ b. (goal.Adapter-dyn g (b.vtable, b.value)).standing b.value) l.on.adapters.now.items) (g.D.Device.state l.on.device.now)
    × IsManagerOf l.on.model.now.chip l.mam
