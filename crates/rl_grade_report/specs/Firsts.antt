-- How many flaws a line of the script finds first.
use Rattle.std.specs.Prelude.{ℕ, ◌==◌, Bool, false, List, [], ◌∷◌, flat_map, count_by, codes, decimal, Result, Ok, Err}
use Rattle.rl_report.specs.Pieces.{joined}
use Rattle.rl_grade.specs.declared.job.Task.{Task}
use Rattle.rl_grade.specs.declared.seen.Find.{Find}
use Rattle.rl_grade_report.specs.declared.verdict.Judged.{Judged}
use Rattle.rl_grade_report.specs.declared.verdict.Verdict.{Verdict}

abbrev pub is_at : (line : ℕ) → Result Find Verdict → Bool
is_at line (Ok find) = find.line == line
is_at line (Err verdict) = false

-- the first event that shows the flaw is of this line
abbrev pub finds_first : (line : ℕ) → Judged → Bool
finds_first line j = is_at line j.found

abbrev pub count_of : List Judged → (line : ℕ) → ℕ
count_of judged line = count_by (λ j. finds_first line j) judged

abbrev pub line_count : List Judged → (line : ℕ) → List ℕ
line_count judged line =
    joined (codes "line " ∷ decimal line ∷ codes ": " ∷ decimal (count_of judged line) ∷ codes " found\n" ∷ [])

abbrev pub task_count : List Judged → Task → List ℕ
task_count judged t = line_count judged t.line

-- a line for each line of the script that asks for something
abbrev pub lines_text : List Task → List Judged → List ℕ
lines_text tasks judged = flat_map (task_count judged) tasks
