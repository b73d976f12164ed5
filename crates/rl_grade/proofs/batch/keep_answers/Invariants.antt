-- What becomes of those so far by the flaws from here on becomes of the first by all of them.
use Rattle.std.proofs.Common.{◌≡◌, drop}
use Rattle.rl_grade.specs.Batch.{with_answers}
use Rattle.rl_grade.proofs.batch.keep_answers.Given as goal

abbrev pub invariant-loop-reg : goal.invariant-loop-reg
invariant-loop-reg l = with_answers l.flaws (drop l.reg l.chosen) (drop l.reg l.found) l.known.items
    ≡ with_answers l.flaws l.chosen l.found l.initial.known.items
