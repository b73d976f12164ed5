use Rattle.std.proofs.Common.{◌≡◌, map, take}
use Rattle.rl_bench.proofs.rows.port_bytes.Given as goal

abbrev pub invariant-loop-port : goal.invariant-loop-port
invariant-loop-port l = l.rows.items ≡ map (λ p. p.bytes) (take l.port l.layout.ports)
