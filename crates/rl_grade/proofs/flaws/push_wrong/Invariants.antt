-- The values that are wrong in a bit below this one were appended.
use Rattle.std.proofs.Common.{◌≡◌, ◌++◌}
use Rattle.rl_grade.specs.Flaws.{wrong_values}
use Rattle.rl_grade.proofs.flaws.push_wrong.Given as goal

abbrev pub invariant-loop-bit : goal.invariant-loop-bit
invariant-loop-bit l = l.flaws.items ≡ l.initial.flaws.items ++ wrong_values l.field l.bit l.kind l.value
