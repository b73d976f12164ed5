-- None of those so far comes once more.
use Rattle.std.proofs.Common.{◌≡◌, drop}
use Rattle.rl_grade_report.specs.Sums.{twice_in}
use Rattle.rl_grade_report.proofs.sums.twice_in.Given as goal

abbrev pub invariant-loop-place : goal.invariant-loop-place
invariant-loop-place l = twice_in (drop l.place l.parts) ≡ twice_in l.parts
