-- The lines that are left go on with the shares so far, and each line has had a byte.
use Rattle.std.proofs.Common.{◌≡◌, ◌+◌, ◌≤◌, length}
use Rattle.rl_report.specs.Lines.{lines_of}
use Rattle.rl_grade_report.specs.Shares.{came, shares_from, shares_of}
use Rattle.rl_grade_report.proofs.shares.shares_of.Given as goal

abbrev pub invariant-loop-line : goal.invariant-loop-line
invariant-loop-line l = record {
  same : shares_from (came l.shares) (l.number + 1) (lines_of l.rest) ≡ shares_of l.text;
  fits : l.number + length l.rest ≤ length l.text;
}

abbrev pub decreases-loop-line : goal.decreases-loop-line
decreases-loop-line l = length l.rest
