-- What is there so far, and then what is of the share from here on, is what is of the share from the beginning on.
use Rattle.std.proofs.Common.{◌≡◌, ◌+◌, ◌++◌, drop}
use Rattle.rl_grade.specs.Share.{share_of}
use Rattle.rl_grade.proofs.together.push_share.Given as goal

abbrev pub invariant-loop-flaw : goal.invariant-loop-flaw
invariant-loop-flaw l = record {
  number_is : l.number ≡ l.before + l.flaw-index;
  leads : l.all.items ++ share_of l.share l.number (drop l.flaw-index l.flaws)
      ≡ l.initial.all.items ++ share_of l.share l.before l.flaws;
}
