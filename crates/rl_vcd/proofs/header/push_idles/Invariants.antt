use Rattle.std.proofs.Common.{◌≡◌, ◌++◌, take}
use Rattle.std.specs.List.{flat_map}
use Rattle.rl_vcd.specs.Dump.{BusData, idle_text}
use Rattle.rl_vcd.proofs.header.push_idles.Given as goal

abbrev pub invariant-loop-k : goal.invariant-loop-k
invariant-loop-k l = l.text.items ≡ l.initial.text.items ++ flat_map (λ (b : BusData). idle_text b.bus) (take l.k l.buses)
