use Rattle.std.proofs.Common.{◌≡◌, replicate}
use Rattle.rl_access.specs.Gathering.{no_words}
use Rattle.rl_access.proofs.predictor.Predictor.build.Given as goal

abbrev pub invariant-loop-place : goal.invariant-loop-place
invariant-loop-place l = l.lists.items ≡ replicate l._place no_words
