-- Flaws as rows of a description.
use Rattle.std.specs.Prelude.{ℕ, List, [], ◌∷◌, ◌++◌, flat_map, codes, decimal, Result, Ok, Err}
use Rattle.rl_model.specs.Rows.{ChipData}
use Rattle.rl_map.specs.Layout.{LayoutData}
use Rattle.rl_flaw.specs.declared.flaw.Flaw.{Flaw}
use Rattle.rl_grade.specs.declared.seen.Find.{Find}
use Rattle.rl_report.specs.Pieces.{joined}
use Rattle.rl_grade_report.specs.declared.keys.Form.TheVariants as form
use Rattle.rl_grade_report.specs.declared.verdict.Judged.{Judged}
use Rattle.rl_grade_report.specs.declared.verdict.Verdict.{Verdict}
use Rattle.rl_grade_report.specs.Keys.{flaw_text}
use Rattle.rl_grade_report.specs.Verdict.{flaws_with}

abbrev pub flaw_row : ChipData → LayoutData → Flaw → List ℕ
flaw_row c l flaw = flaw_text form.Row c l flaw

-- each of which this is said
abbrev pub rows_text : ChipData → LayoutData → List Judged → Verdict → List ℕ
rows_text c l judged verdict = flat_map (flaw_row c l) (flaws_with verdict judged)

-- ---- those that are found

abbrev pub line_note : (line : ℕ) → List ℕ
line_note line = joined (codes "# line " ∷ decimal line ∷ codes "\n" ∷ [])

abbrev pub note_and_row : ChipData → LayoutData → Flaw → Result Find Verdict → List ℕ
note_and_row c l flaw (Ok find) = line_note find.line ++ flaw_row c l flaw
note_and_row c l flaw (Err verdict) = []

-- behind a comment with the number of the line that finds it first
abbrev pub found_row : ChipData → LayoutData → Judged → List ℕ
found_row c l j = note_and_row c l j.flaw j.found

abbrev pub found_text : ChipData → LayoutData → List Judged → List ℕ
found_text c l judged = flat_map (found_row c l) judged
