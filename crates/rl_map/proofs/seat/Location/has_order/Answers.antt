use Rattle.std.proofs.Common.{sym, ap, ◌∙◌, arith, eq-eqb}
use Rattle.rl_map.specs.declared.seat.Access.{Access}
use Rattle.rl_map.proofs.Ranges.{has_order_of, no_order_of}
use Rattle.rl_map.proofs.seat.Location.has_order.Goals as goal

pub returns-then-climb-order : goal.returns-then-climb-order
returns-then-climb-order c base =
    sym (has_order_of c.args.path.now base c.args.self.now c.args.order c.loop-byte.byte c.loop-byte-test.true
    (eq-eqb _ _ (ap (λ (a : Access). a.order) (sym c.climb.ensures.value) ∙ c.if-climb-order.true)))

pub returns : goal.returns
returns c base = sym (no_order_of c.args.path.now base c.args.self.now c.args.order (λ j low. c.loop-byte.invariant j (omega (arith, c.loop-byte-test.false))))
