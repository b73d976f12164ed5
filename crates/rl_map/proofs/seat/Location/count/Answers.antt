use Rattle.std.proofs.Common.{arith}
use Rattle.rl_map.specs.Words.{seats_of}
use Rattle.rl_map.proofs.Orders.{more_orders, digit_le}
use Rattle.rl_map.proofs.seat.Location.count.Goals as goal

pub loop-order-preserved : goal.loop-order-preserved
loop-order-preserved c =
    let was = c.loop-order.invariant in
    record {
      counted = λ base. rw (c.one_if-count.ensures, c.has_order.ensures base)
          (more_orders (seats_of c.args.path.now base c.args.self.now) c.loop-order.order c.loop-order.count (was.counted base));
      low = omega (arith, was.low, c.one_if-count.ensures, digit_le c.has_order.result);
    }
