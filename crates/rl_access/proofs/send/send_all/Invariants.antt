use Rattle.std.proofs.Common.{length}
use Rattle.rl_split.specs.Outgoing.{outgoing_ops, sent_of_first}
use Rattle.rl_access.proofs.Brought.{IsSoFar}
use Rattle.rl_access.proofs.UnderWay.{IsUnderWayBy}
use Rattle.rl_access.proofs.send.send_all.Given as goal

abbrev pub invariant-loop-k : goal.invariant-loop-k
invariant-loop-k g l = record {
  under_way : IsUnderWayBy (λ b. (goal.Adapter-dyn g (b.vtable, b.value)).standing b.value) l.fn.adapters.items l.adapters.items l.which l.port (outgoing_ops l.layout l.outgoing)
      (length (sent_of_first l.layout l.outgoing l.k)) l.trace (g.D.Device.account l.fn.device) (g.D.Device.account l.device) (g.D.Device.state l.fn.device) (g.D.Device.state l.device);
  value : IsSoFar l.layout l.outgoing l.k l.trace l.value;
}
