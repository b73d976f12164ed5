use Rattle.std.proofs.Common.{◌≡◌, drop}
use Rattle.rl_map.specs.Words.{byte_from}
use Rattle.rl_map.proofs.word.byte_at.Given as goal

abbrev pub invariant-loop-byte : goal.invariant-loop-byte
invariant-loop-byte l = byte_from l.byte (drop l.byte l.seats) l.order l.lane ≡ byte_from 0 l.seats l.order l.lane
