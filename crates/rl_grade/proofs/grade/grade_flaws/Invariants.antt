-- What was tried so far, and then the answers for what is left, are those for all; and the answers that are known stay.
use Rattle.std.proofs.Common.{◌≡◌, ◌+◌, ◌++◌, drop}
use Rattle.rl_grade.specs.Share.{grades_of}
use Rattle.rl_grade.proofs.grade.grade_flaws.Given as goal

abbrev pub invariant-loop-flaw : goal.invariant-loop-flaw
invariant-loop-flaw l = record {
  same : l.tries.desc ≡ l.initial.tries.desc;
  reached_is : l.reached ≡ l.number + l.flaw-index;
  leads : l.tries.graded.items ++ grades_of l.initial.tries.desc l.tasks l.shown l.share l.reached (drop l.flaw-index l.flaws)
      ≡ grades_of l.initial.tries.desc l.tasks l.shown l.share l.number l.flaws;
  kept : l.known.graded ≡ l.initial.known.graded;
}
