use Rattle.std.proofs.Common.{◌≡◌, map, take}
use Rattle.rl_bench.proofs.rows.reg_bytes.Given as goal

abbrev pub invariant-loop-reg : goal.invariant-loop-reg
invariant-loop-reg l = l.rows.items ≡ map (λ r. r.bytes) (take l.reg l.chip.regs)
