use Rattle.std.proofs.Common.{◌≡◌, ◌-◌, take, length}
use Rattle.rl_policy.specs.Bits.{from_bits}
use Rattle.rl_map.specs.Layout.{words_of}
use Rattle.rl_split.specs.Access.{sent_words, joined_bit}
use Rattle.rl_split.proofs.access.join.Given as goal

abbrev pub invariant-loop-sent : goal.invariant-loop-sent
invariant-loop-sent l = record {
  count : l.sent ≡ length (sent_words l.chosen (take l.k (words_of l.layout l.place l.index)));
  value : l.value ≡ from_bits 64 (joined_bit l.chosen (sent_words l.chosen (take l.k (words_of l.layout l.place l.index))) (take l.sent l.answers));
}

abbrev pub decreases-loop-sent : goal.decreases-loop-sent
decreases-loop-sent l = length (words_of l.layout l.place l.index) - l.k
