-- The bits below this one were appended.
use Rattle.std.proofs.Common.{◌≡◌, ◌++◌}
use Rattle.rl_grade.specs.Flaws.{stuck_bits}
use Rattle.rl_grade.proofs.flaws.push_stuck.Given as goal

abbrev pub invariant-loop-bit : goal.invariant-loop-bit
invariant-loop-bit l = l.flaws.items ≡ l.initial.flaws.items ++ stuck_bits l.field l.bit l.value
