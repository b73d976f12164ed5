-- Whether waivers name flaws that are there, and each once.
use Rattle.std.specs.Prelude.{ℕ, not, Bool, if◌then◌else◌, List, [], ◌∷◌, ◌++◌, filter, codes, decimal, Option, Some, None}
use Rattle.std.specs.List.{list_any}
use Rattle.std.specs.Str.{bytes_eq}
use Rattle.rl_flaw.specs.declared.flaw.Flaw.{Flaw}
use Rattle.rl_desc.specs.Data.{DescData}
use Rattle.rl_grade.specs.declared.place.Place.{Place}
use Rattle.rl_report.specs.Pieces.{joined}
use Rattle.rl_grade_report.specs.declared.waiving.Unwaived.{Unwaived}
use Rattle.rl_grade_report.specs.declared.waiving.Unwaived.TheVariants.{Twice, Unknown}
use Rattle.rl_grade_report.specs.Row.{flaw_row}
use Rattle.rl_grade_report.specs.Waivers.{RowData, has_text}
use Rattle.rl_grade_report.specs.Whole.{all_flaws, flaws_over}

-- ---- each once

-- the line of the first row that came before, behind such rows
unfoldable pub twice_behind : (before rows : List RowData) → Option ℕ
twice_behind before [] = None
twice_behind before (row ∷ rows) =
    if has_text before row.text then Some row.line else twice_behind (before ++ row ∷ []) rows

abbrev pub twice_in : List RowData → Option ℕ
twice_in rows = twice_behind [] rows

-- ---- of a flaw

-- the row is, byte for byte, that of one of these flaws
abbrev pub is_of : DescData → List Flaw → RowData → Bool
is_of d flaws row = list_any (λ flaw. bytes_eq row.text (flaw_row d.chip d.layout flaw)) flaws

-- those that are of none of these flaws
abbrev pub unknown_among : DescData → List Flaw → List RowData → List RowData
unknown_among d flaws rows = filter (λ row. not (is_of d flaws row)) rows

-- those that aren't this text
abbrev pub without : (text : List ℕ) → List RowData → List RowData
without text rows = filter (λ row. not (bytes_eq row.text text)) rows

-- those that are of no flaw of these places, where the session sends so many bus items
abbrev pub left_at : DescData → (items : ℕ) → List Place → List RowData → List RowData
left_at d items places rows = unknown_among d (flaws_over d items places) rows

abbrev pub first_line : List RowData → Option ℕ
first_line [] = None
first_line (row ∷ rows) = Some row.line

-- ---- why they are refused

abbrev pub fault_by : (twice unknown : Option ℕ) → Option Unwaived
fault_by (Some line) unknown = Some (Twice line)
fault_by None (Some line) = Some (Unknown line)
fault_by None None = None

-- for the first row that came before; or else for the first that is of no flaw of the session
abbrev pub fault_in : DescData → (items : ℕ) → List RowData → Option Unwaived
fault_in d items rows = fault_by (twice_in rows) (first_line (unknown_among d (all_flaws d items) rows))

abbrev pub unwaived_at : (line : ℕ) → (reason : List ℕ) → List ℕ
unwaived_at line reason = joined (codes "refused waivers: line " ∷ decimal line ∷ reason ∷ [])

abbrev pub unwaived_text : Unwaived → List ℕ
unwaived_text (Twice line) = unwaived_at line (codes ": this flaw is waived before\n")
unwaived_text (Unknown line) = unwaived_at line (codes ": no flaw of this session is written so\n")
