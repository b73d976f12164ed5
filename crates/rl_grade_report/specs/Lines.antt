-- The line of a place.
use Rattle.std.specs.Prelude.{ℕ, ◌==◌, if◌then◌else◌, List, [], ◌∷◌, length, flat_map, codes, slice_get, unwrap_or, option_map}
use Rattle.rl_model.specs.Chip.{field_path, path_of_item}
use Rattle.rl_model.specs.Rows.{ChipData}
use Rattle.rl_map.specs.Layout.{LayoutData}
use Rattle.rl_grade.specs.declared.place.Place.{Place}
use Rattle.rl_grade.specs.declared.place.Place.TheVariants.{OfItem, OfField, OfSession}
use Rattle.rl_report.specs.Pieces.{joined}
use Rattle.rl_grade_report.specs.declared.verdict.Judged.{Judged}
use Rattle.rl_grade_report.specs.declared.verdict.Verdict.{Verdict}
use Rattle.rl_grade_report.specs.declared.verdict.TheConstants.{VERDICTS}
use Rattle.rl_grade_report.specs.Counts.{counts_text}
use Rattle.rl_grade_report.specs.Groups.{groups_text}
use Rattle.rl_grade_report.specs.Verdict.{flaws_with, lead_of}

-- its register's path, a dot, and its name
abbrev pub field_name : ChipData → ℕ → List ℕ
field_name c field = unwrap_or (option_map (field_path c) (slice_get c.fields field)) []

abbrev pub place_name : ChipData → Place → List ℕ
place_name c (OfItem item) = path_of_item c item
place_name c (OfField field) = field_name c field
place_name c OfSession = codes "session"

-- the flaws of which this is said, in words
abbrev pub said_text : ChipData → LayoutData → List Judged → Verdict → List ℕ
said_text c l judged verdict = groups_text (lead_of verdict) c l (flaws_with verdict judged)

-- those that aren't found, by what is said of them
abbrev pub unfound_text : ChipData → LayoutData → List Judged → List ℕ
unfound_text c l judged = flat_map (said_text c l judged) VERDICTS

-- what it is called, the counts of its flaws by kind, and those that aren't found in words
abbrev pub told_text : ChipData → LayoutData → Place → List Judged → List ℕ
told_text c l place judged =
    joined (place_name c place ∷ counts_text judged ∷ unfound_text c l judged ∷ codes "\n" ∷ [])

-- where none was tried there is no line
abbrev pub line_text : ChipData → LayoutData → Place → List Judged → List ℕ
line_text c l place judged = if length judged == 0 then [] else told_text c l place judged
