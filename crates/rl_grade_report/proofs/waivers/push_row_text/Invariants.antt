-- The lines that are left go on with the row, and each line has had a byte.
use Rattle.std.proofs.Common.{◌≡◌, ◌++◌, length}
use Rattle.rl_report.specs.Lines.{lines_of}
use Rattle.rl_grade_report.specs.Waivers.{row_text}
use Rattle.rl_grade_report.proofs.waivers.push_row_text.Given as goal

abbrev pub invariant-loop-line : goal.invariant-loop-line
invariant-loop-line l = l.row.items ++ row_text (lines_of l.rest) ≡ l.initial.row.items ++ row_text (lines_of l.text)

abbrev pub decreases-loop-line : goal.decreases-loop-line
decreases-loop-line l = length l.rest
