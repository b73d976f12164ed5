use Rattle.std.proofs.Common.{◌+◌, ◌-◌}
use Rattle.rl_access.proofs.Bursting.{IsBurstingBy}
use Rattle.rl_access.specs.Runs.{reads_of}
use Rattle.rl_access.proofs.burst.read_locations.Given as goal

abbrev pub invariant-loop-index : goal.invariant-loop-index
invariant-loop-index g l =
    IsBurstingBy (λ b. (goal.Adapter-dyn g (b.vtable, b.value)).standing b.value) g.D.Device g.R.Recorder l.fn.model l.model l.fn.adapters.items l.adapters.items l.fn.device l.device
    l.fn.rec l.rec (reads_of l.mem l.map l.first l.count) (reads_of l.mem l.map l.index (l.first + l.count - l.index)) l.tally
