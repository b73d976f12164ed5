use Rattle.std.proofs.Common.{◌≡◌, drop}
use Rattle.rl_map.specs.Words.{address_at}
use Rattle.rl_map.proofs.word.address_at.Given as goal

abbrev pub invariant-loop-seat : goal.invariant-loop-seat
invariant-loop-seat l = address_at (drop l.seat-index l.seats) l.order ≡ address_at l.seats l.order
