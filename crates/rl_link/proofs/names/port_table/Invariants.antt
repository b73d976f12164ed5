use Rattle.std.proofs.Common.{◌≡◌, map, take}
use Rattle.rl_link.specs.Requests.{port_name}
use Rattle.rl_link.proofs.names.port_table.Given as goal

abbrev pub invariant-loop-port : goal.invariant-loop-port
invariant-loop-port l = l.table ≡ map (port_name l.layout) (take l.port l.layout.ports)
