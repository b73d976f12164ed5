-- The totals so far were added.
use Rattle.std.proofs.Common.{◌≡◌, take}
use Rattle.rl_grade_report.specs.Sums.{sum_of}
use Rattle.rl_grade_report.proofs.sums.sum_of.Given as goal

abbrev pub invariant-loop-part : goal.invariant-loop-part
invariant-loop-part l = l.sums ≡ sum_of (take l.part-index l.parts)
