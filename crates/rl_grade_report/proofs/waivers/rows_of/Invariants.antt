-- The lines that are left have the rows behind those so far, and each line has had a byte.
use Rattle.std.proofs.Common.{◌≡◌, ◌+◌, ◌≤◌, ◌++◌, length}
use Rattle.rl_report.specs.Lines.{lines_of}
use Rattle.rl_grade_report.specs.Waivers.{rows_from, rows_of}
use Rattle.rl_grade_report.proofs.waivers.rows_of.Given as goal

abbrev pub invariant-loop-line : goal.invariant-loop-line
invariant-loop-line l = record {
  same : l.rows.items ++ rows_from l.before (l.number + 1) (lines_of l.rest) ≡ rows_of l.text;
  fits : l.number + length l.rest ≤ length l.text;
}

abbrev pub decreases-loop-line : goal.decreases-loop-line
decreases-loop-line l = length l.rest
