-- The rows of those so far of which this is said were appended.
use Rattle.std.proofs.Common.{◌≡◌, ◌++◌, take}
use Rattle.rl_grade_report.specs.Row.{rows_text}
use Rattle.rl_grade_report.proofs.row.push_rows.Given as goal

abbrev pub invariant-loop-it : goal.invariant-loop-it
invariant-loop-it l = l.text.items ≡ l.initial.text.items ++ rows_text l.chip l.layout (take l.it-index l.judged) l.verdict
