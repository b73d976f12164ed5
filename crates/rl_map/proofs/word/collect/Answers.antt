use Rattle.std.proofs.Common.{ap, sym, ◌∙◌, length, arith}
use Rattle.rl_map.proofs.Orders.{length-words_below}
use Rattle.rl_map.proofs.word.collect.Goals as goal

pub push-requires : goal.push-requires
push-requires c =
    omega (arith, ap length c.loop-order.invariant, length-words_below c.args.seats.now c.loop-order.order (sym c.has_order.ensures ∙ c.if-has_order.true))
