use Rattle.std.proofs.Common.{◌≡◌, take}
use Rattle.rl_access.specs.Items.{words_answered}
use Rattle.rl_weave.proofs.ending.answers_of.Given as goal

abbrev pub invariant-loop-k : goal.invariant-loop-k
invariant-loop-k l = l.answers ≡ words_answered (take l.k l.items)
