use Rattle.std.proofs.Common.{◌≡◌}
use Rattle.rl_map.specs.Words.{words_below}
use Rattle.rl_map.proofs.word.collect.Given as goal

abbrev pub invariant-loop-order : goal.invariant-loop-order
invariant-loop-order l = l.words ≡ words_below l.seats l.order
