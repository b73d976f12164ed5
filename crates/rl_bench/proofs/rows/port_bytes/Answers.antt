use Rattle.std.proofs.Common.{◌<◌, [], ◌∷◌, ◌++◌, length, get_or, map, take, ap, ◌∙◌, arith}
use Rattle.std.proofs.lemmas.List.{take_all}
use Rattle.std.proofs.lemmas.Option.{slice_get-get_or}
use Rattle.rl_map.specs.Layout.{no_port}
use Rattle.rl_bench.proofs.RowLemmas.{mapped_at}
use Rattle.rl_bench.proofs.rows.port_bytes.Goals as goal

pub loop-port-preserved : goal.loop-port-preserved
loop-port-preserved c =
    let ports = c.args.layout.now.ports in
    let k = c.loop-port.port in
    let low : k < length ports = omega (arith, c.loop-port-test.true, c.ports-port-end.ensures.count) in
    c.in_ok-push.ensures.items
    ∙ ap (λ rows. rows ++ c.port_bytes.result ∷ []) c.loop-port.invariant
    ∙ ap (λ b. map (λ p. p.bytes) (take k ports) ++ b ∷ []) c.port_bytes.ensures
    ∙ mapped_at (λ p. p.bytes) ports k (get_or ports k no_port) (slice_get-get_or ports k no_port low)

pub returns-clause-bytes : goal.returns-clause-bytes
returns-clause-bytes c =
    c.loop-port.invariant
    ∙ ap (map (λ p. p.bytes)) (take_all c.loop-port.port c.args.layout.now.ports (omega (arith, c.loop-port-test.false, c.ports-port-end.ensures.count)))
