-- The ports from the next one on are left.
use Rattle.std.proofs.Common.{◌≡◌, ◌≤◌, ◌++◌, All, drop}
use Rattle.rl_vcd.specs.Items.{buses_of, buses_from}
use Rattle.rl_vcd.proofs.dump.buses_of.Given as goal

abbrev pub invariant-loop-port : goal.invariant-loop-port
invariant-loop-port l = record {
  buses : buses_of l.layout ≡ l.buses.items ++ buses_from l.layout (drop l.port l.layout.ports) l.port;
  narrow : All (λ b. b.bus.bytes ≤ 4) l.buses.items;
}
