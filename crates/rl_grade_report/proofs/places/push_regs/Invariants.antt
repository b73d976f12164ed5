-- The registers so far were appended, each with its fields.
use Rattle.std.proofs.Common.{◌≡◌, ◌++◌}
use Rattle.rl_grade_report.specs.Places.{regs_places}
use Rattle.rl_grade_report.proofs.places.push_regs.Given as goal

abbrev pub invariant-loop-reg : goal.invariant-loop-reg
invariant-loop-reg l = l.places.items ≡ l.initial.places.items ++ regs_places l.chip l.reg
