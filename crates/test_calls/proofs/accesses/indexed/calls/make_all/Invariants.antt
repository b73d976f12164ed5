-- Each access may be made, and the bank is over the data register.
use Rattle.std.proofs.Common.{map}
use Rattle.rl_access.specs.Model.{IsReady}
use Rattle.rl_indirect.specs.Bank.{IsBankOf, IsOverData, IsSameBank}
use Rattle.test_calls.proofs.accesses.indexed.calls.make_all.Given as goal

abbrev pub invariant-loop-call : goal.invariant-loop-call
invariant-loop-call g l =
    IsReady l.on.model.now (map (λ b. (goal.Adapter-dyn g (b.vtable, b.value)).standing b.value) l.on.adapters.now.items) (g.D.Device.state l.on.device.now)
    × IsBankOf l.on.model.now.chip l.bank
    × IsOverData (g.D.Device.state l.on.device.now) l.bank
    × IsSameBank l.fn.bank l.bank
