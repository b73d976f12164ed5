-- None of those so far came before.
use Rattle.std.proofs.Common.{◌≡◌, drop, take}
use Rattle.rl_grade_report.specs.Waiving.{twice_behind, twice_in}
use Rattle.rl_grade_report.proofs.waiving.twice_in.Given as goal

abbrev pub invariant-loop-place : goal.invariant-loop-place
invariant-loop-place l = twice_behind (take l.place l.rows) (drop l.place l.rows) ≡ twice_in l.rows
