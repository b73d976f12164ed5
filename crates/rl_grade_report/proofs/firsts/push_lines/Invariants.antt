-- The lines of the tasks so far were appended.
use Rattle.std.proofs.Common.{◌≡◌, ◌++◌, take}
use Rattle.rl_grade_report.specs.Firsts.{lines_text}
use Rattle.rl_grade_report.proofs.firsts.push_lines.Given as goal

abbrev pub invariant-loop-task : goal.invariant-loop-task
invariant-loop-task l = l.text.items ≡ l.initial.text.items ++ lines_text (take l.task-index l.tasks) l.judged
