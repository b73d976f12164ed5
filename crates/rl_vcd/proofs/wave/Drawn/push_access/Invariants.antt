use Rattle.std.proofs.Common.{◌≡◌, ◌++◌}
use Rattle.rl_vcd.specs.Dump.{access_text}
use Rattle.rl_vcd.proofs.wave.Drawn.push_access.Given as goal

abbrev pub invariant-loop-k : goal.invariant-loop-k
invariant-loop-k l = l.text.items ≡ l.initial.text.items ++ access_text l.self.bus l.self.transfer.now l.self.response.now l.n l.k
