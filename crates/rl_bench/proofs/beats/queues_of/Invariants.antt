use Rattle.rl_bench.proofs.QueueLemmas.{AreQueuesSoFar}
use Rattle.rl_bench.proofs.beats.queues_of.Given as goal

abbrev pub invariant-loop-k : goal.invariant-loop-k
invariant-loop-k l = AreQueuesSoFar l.words l.k l.queues.items
