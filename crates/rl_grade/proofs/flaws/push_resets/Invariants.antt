-- Those of the kinds below this one were appended.
use Rattle.std.proofs.Common.{◌≡◌, ◌++◌}
use Rattle.rl_grade.specs.Flaws.{wrong_resets}
use Rattle.rl_grade.proofs.flaws.push_resets.Given as goal

abbrev pub invariant-loop-kind : goal.invariant-loop-kind
invariant-loop-kind l = l.flaws.items ≡ l.initial.flaws.items ++ wrong_resets l.chip l.field l.width l.kind
