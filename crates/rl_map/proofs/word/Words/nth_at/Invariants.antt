use Rattle.std.proofs.Common.{◌≡◌, ◌<◌, length, drop}
use Rattle.std.specs.Prelude.{slice_get}
use Rattle.rl_map.specs.Words.{words_with}
use Rattle.rl_map.proofs.word.Words.nth_at.Given as goal

abbrev pub invariant-loop-word : goal.invariant-loop-word
invariant-loop-word l = record {
  same : slice_get (words_with l.address (drop l.word-index l.self)) l.left ≡ slice_get (words_with l.address l.self) l.beat;
  more : l.left < length (words_with l.address (drop l.word-index l.self));
}
