-- The manager is that of the same memory.
use Rattle.std.proofs.Common.{◌≡◌}
use Rattle.test_calls.proofs.accesses.regions.all_called.Given as goal

abbrev pub invariant-loop-call : goal.invariant-loop-call
invariant-loop-call g l = (l.mam.mem ≡ l.fn.mam.mem) × (l.mam.size ≡ l.fn.mam.size)
