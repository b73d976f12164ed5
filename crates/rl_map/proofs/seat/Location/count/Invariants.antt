use Rattle.std.proofs.Common.{◌≡◌, ◌≤◌, ℕ, length}
use Rattle.rl_map.specs.Words.{orders_below, seats_of}
use Rattle.rl_map.proofs.seat.Location.count.Given as goal

abbrev pub invariant-loop-order : goal.invariant-loop-order
invariant-loop-order l = record {
  counted : (base : ℕ) → l.count ≡ length (orders_below (seats_of l.path base l.self) l.order);
  low : l.count ≤ l.order;
}
