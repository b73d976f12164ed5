use Rattle.std.proofs.Common.{◌≡◌, ◌≤◌, map, take, length}
use Rattle.rl_map.specs.Layout.{words_of}
use Rattle.rl_split.specs.Access.{sent_words, op_of}
use Rattle.rl_split.proofs.access.split.Given as goal

abbrev pub invariant-loop-k : goal.invariant-loop-k
invariant-loop-k l = record {
  words : l.words ≡ map (λ w. (op_of l.layout l.place l.chosen l.value l.write w, w.order)) (sent_words l.chosen (take l.k (words_of l.layout l.place l.index)));
  few : length l.words ≤ l.k;
}
