-- The rows of a file of waivers.
use Rattle.std.specs.Prelude.{ℕ, ◌+◌, ◌==◌, ◌&&◌, ◌||◌, not, Bool, false, if◌then◌else◌, List, [], ◌∷◌, ◌++◌, codes}
use Rattle.std.specs.List.{list_any}
use Rattle.std.specs.Str.{bytes_eq}
use Rattle.rl_report.specs.Lines.{lines_of}

-- a row: the number of its first line, and its lines, each with its end
pub record RowData : Type 0 where
  pub line : ℕ
  pub text : List ℕ

-- ---- a line

-- neither empty nor a comment
abbrev pub is_content : List ℕ → Bool
is_content [] = false
is_content (first ∷ line) = not (first == 35)

abbrev pub is_header : List ℕ → Bool
is_header line = bytes_eq line (codes "[[flaw]]")

-- it is of the row of the line before it
abbrev pub goes_on : List ℕ → Bool
goes_on line = is_content line && not (is_header line)

-- a row begins with it, behind this one: with a header, and with another line behind one that is of no row
abbrev pub begins : (before line : List ℕ) → Bool
begins before line = is_content line && (is_header line || not (is_content before))

-- with its end
abbrev pub ended : List ℕ → List ℕ
ended line = line ++ codes "\n"

-- ---- rows

-- the lines that go on with a row, up to the first that doesn't
unfoldable pub row_text : List (List ℕ) → List ℕ
row_text [] = []
row_text (line ∷ lines) = if goes_on line then ended line ++ row_text lines else []

-- the row of a line of this number, before such lines
abbrev pub row_at : (number : ℕ) → (line : List ℕ) → (lines : List (List ℕ)) → RowData
row_at number line lines = record { line = number; text = ended line ++ row_text lines }

-- the row that it begins, if it does
abbrev pub begun : (before : List ℕ) → (number : ℕ) → (line : List ℕ) → (lines : List (List ℕ)) → List RowData
begun before number line lines = if begins before line then row_at number line lines ∷ [] else []

-- those that begin with a line from this number on, behind such a line
unfoldable pub rows_from : (before : List ℕ) → (number : ℕ) → List (List ℕ) → List RowData
rows_from before number [] = []
rows_from before number (line ∷ lines) = begun before number line lines ++ rows_from line (number + 1) lines

-- the rows of a file
abbrev pub rows_of : List ℕ → List RowData
rows_of text = rows_from [] 1 (lines_of text)

-- one of these rows is this text
abbrev pub has_text : List RowData → List ℕ → Bool
has_text rows text = list_any (λ row. bytes_eq row.text text) rows
