use Rattle.std.proofs.Common.{◌≡◌, ◌++◌, map, drop}
use Rattle.rl_map.specs.Layout.{word_row}
use Rattle.rl_map.proofs.places.push_words.Given as goal

abbrev pub invariant-loop-word : goal.invariant-loop-word
invariant-loop-word l =
    l.rows.items ++ map (word_row l.place l.number l.index) (drop l.word-index l.words) ≡ l.initial.rows.items ++ map (word_row l.place l.number l.index) l.words
