-- The memories so far were appended.
use Rattle.std.proofs.Common.{◌≡◌, ◌++◌}
use Rattle.rl_grade_report.specs.Places.{mems_places}
use Rattle.rl_grade_report.proofs.places.push_mems.Given as goal

abbrev pub invariant-loop-mem : goal.invariant-loop-mem
invariant-loop-mem l = l.places.items ≡ l.initial.places.items ++ mems_places l.mem
