use Rattle.std.proofs.Common.{◌≡◌, ℕ, ◌<◌, length, get_or}
use Rattle.rl_map.specs.declared.seat.Seat.{Seat}
use Rattle.rl_map.specs.Seat.{seat_of}
use Rattle.rl_map.proofs.seat.Location.words.Given as goal

abbrev pub invariant-loop-byte : goal.invariant-loop-byte
invariant-loop-byte l = record {
  long : length l.seats ≡ 8;
  done : (k : ℕ) (d : Seat) → k < l.byte → get_or l.seats k d ≡ seat_of l.path l.base l.self k;
}
