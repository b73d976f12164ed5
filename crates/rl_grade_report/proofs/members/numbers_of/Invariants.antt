-- The numbers of the flaws so far.
use Rattle.std.proofs.Common.{◌≡◌, map, take}
use Rattle.rl_grade_report.specs.Members.{number_of}
use Rattle.rl_grade_report.proofs.members.numbers_of.Given as goal

abbrev pub invariant-loop-flaw : goal.invariant-loop-flaw
invariant-loop-flaw l = l.numbers.items ≡ map (number_of l.chip) (take l.flaw-index l.flaws)
