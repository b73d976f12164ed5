use Rattle.std.proofs.Common.{sym, ◌∙◌, eq-eqb, arith}
use Rattle.rl_map.specs.Layout.{port_at}
use Rattle.rl_desc.proofs.Places.{port_is, port_none}
use Rattle.rl_desc.proofs.flaw.port_of.Goals as goal

pub returns-then-port_map-map : goal.returns-then-port_map-map
returns-then-port_map-map c =
    let layout = c.args.layout.now in
    let port = c.loop-port.port in
    port_is layout c.args.map port (omega (arith, c.ports-port-end.ensures.count)) c.loop-port.invariant
    (eq-eqb (port_at layout port).map c.args.map (sym c.port_map.ensures.map ∙ c.if-port_map-map.true))

pub returns : goal.returns
returns c = port_none c.args.layout.now c.args.map (λ k lt. c.loop-port.invariant k (omega (arith, c.ports-port-end.ensures.count)))
