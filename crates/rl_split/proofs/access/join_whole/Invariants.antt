use Rattle.std.proofs.Common.{◌≡◌, take}
use Rattle.rl_policy.specs.Bits.{from_bits}
use Rattle.rl_map.specs.Layout.{place_at, words_of}
use Rattle.rl_split.specs.Access.{all_bytes, joined_bit}
use Rattle.rl_split.proofs.access.join_whole.Given as goal

abbrev pub invariant-loop-k : goal.invariant-loop-k
invariant-loop-k l = l.value ≡ from_bits 64 (joined_bit (all_bytes (place_at l.layout l.place).bytes) (take l.k (words_of l.layout l.place 0)) (take l.k l.answers))
