-- What is there so far, and then what is chosen from here on, is all that is chosen.
use Rattle.std.proofs.Common.{◌≡◌, ◌++◌, drop}
use Rattle.rl_grade.specs.Batch.{chosen_flaws}
use Rattle.rl_grade.proofs.batch.batch_of.Given as goal

abbrev pub invariant-loop-number : goal.invariant-loop-number
invariant-loop-number l =
    l.batch.items ++ chosen_flaws l.flaws (drop l.number-index l.chosen) ≡ chosen_flaws l.flaws l.chosen
