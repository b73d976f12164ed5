-- Of each register, one of its flaws at most.
use Rattle.rl_grade.specs.Batch.{AreChosen}
use Rattle.rl_grade.proofs.batch.choose.Given as goal

abbrev pub invariant-loop-number : goal.invariant-loop-number
invariant-loop-number l = AreChosen l.chip l.flaws l.chosen.items
