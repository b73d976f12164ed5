-- What is answered so far, and then the answers of what is left, are those of all.
use Rattle.std.proofs.Common.{◌≡◌, ◌++◌, drop, map}
use Rattle.rl_grade.specs.Share.{graded_by}
use Rattle.rl_grade.proofs.together.answer_all.Given as goal

abbrev pub invariant-loop-number : goal.invariant-loop-number
invariant-loop-number g l = record {
  same : l.tries.desc ≡ l.initial.tries.desc;
  leads : l.tries.graded.items ++ map (graded_by l.initial.tries.desc l.tasks l.shown.seen.items) (drop l.number l.flaws)
      ≡ map (graded_by l.initial.tries.desc l.tasks l.shown.seen.items) l.flaws;
}
