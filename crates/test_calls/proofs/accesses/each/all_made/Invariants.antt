-- Each call may be made.
use Rattle.std.proofs.Common.{map}
use Rattle.rl_access.specs.Model.{IsReady}
use Rattle.test_calls.proofs.accesses.each.all_made.Given as goal

abbrev pub invariant-loop-call : goal.invariant-loop-call
invariant-loop-call g l = IsReady l.on.model.now (map (λ b. (goal.Adapter-dyn g (b.vtable, b.value)).standing b.value) l.on.adapters.now.items) (g.D.Device.state l.on.device.now)
