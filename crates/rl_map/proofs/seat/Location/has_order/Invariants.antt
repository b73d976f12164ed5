use Rattle.std.proofs.Common.{◌≡◌, ℕ, ◌<◌, ◌==◌, false}
use Rattle.rl_map.specs.Access.{climb}
use Rattle.rl_map.specs.Seat.{access_of}
use Rattle.rl_map.proofs.seat.Location.has_order.Given as goal

abbrev pub invariant-loop-byte : goal.invariant-loop-byte
invariant-loop-byte l = (j : ℕ) → j < l.byte → ((climb (access_of l.self j) l.path).order == l.order) ≡ false
