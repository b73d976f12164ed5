-- The bytes that were passed are good, and the last 16 are.
use Rattle.std.proofs.Common.{◌≡◌, length}
use Rattle.std.specs.List.{list_all}
use Rattle.rl_script.specs.Reading.{is_ascii}
use Rattle.rl_script.proofs.ChunkLemmas.{EndsAscii}
use Rattle.rl_script.proofs.read.chunks_are_ascii.Given as goal

abbrev pub invariant-loop-chunk : goal.invariant-loop-chunk
invariant-loop-chunk l = record {
  same : list_all is_ascii l.rest ≡ list_all is_ascii l.bytes;
  last : EndsAscii l.rest;
}

abbrev pub decreases-loop-chunk : goal.decreases-loop-chunk
decreases-loop-chunk l = length l.rest
