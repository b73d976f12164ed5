use Rattle.std.proofs.Common.{◌≡◌, ◌*◌, take}
use Rattle.rl_map.specs.Locations.{all_further}
use Rattle.rl_map.proofs.word.Words.further.Given as goal

abbrev pub invariant-loop-word : goal.invariant-loop-word
invariant-loop-word l = l.words ≡ all_further (l.index * l.step) (take l.word-index l.word-items)
