-- The rows of the found ones so far were appended.
use Rattle.std.proofs.Common.{◌≡◌, ◌++◌, take}
use Rattle.rl_grade_report.specs.Row.{found_text}
use Rattle.rl_grade_report.proofs.row.push_found_rows.Given as goal

abbrev pub invariant-loop-it : goal.invariant-loop-it
invariant-loop-it l = l.text.items ≡ l.initial.text.items ++ found_text l.chip l.layout (take l.it-index l.judged)
