use Rattle.std.proofs.Common.{◌+◌, drop}
use Rattle.rl_access.proofs.Bursting.{IsBurstingBy}
use Rattle.rl_access.specs.Runs.{writes_of}
use Rattle.rl_access.proofs.burst.write_locations.Given as goal

abbrev pub invariant-loop-k : goal.invariant-loop-k
invariant-loop-k g l =
    IsBurstingBy (λ b. (goal.Adapter-dyn g (b.vtable, b.value)).standing b.value) g.D.Device g.R.Recorder l.fn.model l.model l.fn.adapters.items l.adapters.items l.fn.device l.device
    l.fn.rec l.rec (writes_of l.mem l.map l.first l.values) (writes_of l.mem l.map (l.first + l.k) (drop l.k l.values)) l.tally
