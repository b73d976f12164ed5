-- Each access may be made.
use Rattle.std.proofs.Common.{map}
use Rattle.rl_access.specs.Model.{IsReady}
use Rattle.rl_indirect.specs.Bank.{IsBankOf}
use Rattle.example_indirect.proofs.table.make_all.Given as goal

abbrev pub invariant-loop-number : goal.invariant-loop-number
invariant-loop-number g l =
    IsReady l.model (map (λ b. (goal.Adapter-dyn g (b.vtable, b.value)).standing b.value) l.adapters.items) (g.D.Device.state l.device)
    × IsBankOf l.model.chip l.bank
