-- The bytes that were passed stand above a space.
use Rattle.std.proofs.Common.{◌≡◌, ◌+◌, length}
use Rattle.std.specs.Prelude.{nat_le}
use Rattle.std.specs.List.{position_or_len}
use Rattle.rl_script.proofs.words.word_len.Given as goal

abbrev pub invariant-loop-chunk : goal.invariant-loop-chunk
invariant-loop-chunk l = record {
  same : l.len + position_or_len (λ byte. nat_le byte 32) l.rest ≡ position_or_len (λ byte. nat_le byte 32) l.text;
}

abbrev pub decreases-loop-chunk : goal.decreases-loop-chunk
decreases-loop-chunk l = length l.rest
