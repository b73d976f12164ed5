use Rattle.std.proofs.Common.{◌≡◌, ◌<◌, ℕ, false}
use Rattle.std.specs.Prelude.{◌==◌}
use Rattle.rl_map.specs.Layout.{port_at}
use Rattle.rl_desc.proofs.flaw.port_of.Given as goal

-- no earlier port is the map's
abbrev pub invariant-loop-port : goal.invariant-loop-port
invariant-loop-port l = (k : ℕ) → k < l.port → ((port_at l.layout k).map == l.map) ≡ false
