-- What a line of a share says.
use Rattle.std.specs.Prelude.{ℕ, ◌-◌, ◌==◌, Bool, if◌then◌else◌, List, [], codes, nat_eq, position, slice_get, unwrap_or, Option, Some, None}
use Rattle.std.specs.Io.BufRead.{strip_last}
use Rattle.std.specs.List.{list_any, slice_split, starts_with}
use Rattle.std.specs.Str.{bytes_eq}
use Rattle.rl_policy.specs.Numbers.{number_of}
use Rattle.rl_grade.specs.declared.grade.Share.{Share}
use Rattle.rl_grade_report.specs.declared.said.Head.{Head}
use Rattle.rl_grade_report.specs.declared.said.Said.{Said}
use Rattle.rl_grade_report.specs.declared.said.Said.TheVariants as say
use Rattle.rl_grade_report.specs.declared.totals.Totals.{Totals}
use Rattle.rl_grade_report.specs.Asked.{decimal_of, share_named, value_of}
use Rattle.rl_grade_report.specs.Grading.{share_line}
use Rattle.rl_grade_report.specs.Totals.{end_text}

-- a text is this line and its end
abbrev pub is_line : (text line : List ℕ) → Bool
is_line text line = bytes_eq (strip_last 10 text) line

-- ---- words

-- what stands between the spaces of a line
abbrev pub words_of : List ℕ → List (List ℕ)
words_of line = slice_split (λ c. c == 32) line

-- the word behind so many others; an empty one where there is none
abbrev pub word_at : (place : ℕ) → List ℕ → List ℕ
word_at place line = unwrap_or (slice_get (words_of line) place) []

-- ---- where a share begins

abbrev pub mark_in : List ℕ → Option ℕ
mark_in word = value_of (number_of word)

abbrev pub head_if : Option Share → (mark : Option ℕ) → Option Head
head_if (Some share) (Some mark) = Some (record { share = share; mark = mark })
head_if (Some share) None = None
head_if None mark = None

-- the share and the session that the words of a line name: the third and the sixth
abbrev pub head_in : List ℕ → Option Head
head_in line = head_if (share_named (word_at 2 line)) (mark_in (word_at 5 line))

abbrev pub head_written : Option Head → (line : List ℕ) → Option Head
head_written None line = None
head_written (Some head) line = if is_line (share_line head.share head.mark) line then Some head else None

-- the share that a line begins: the line is its first, byte for byte
abbrev pub head_said : List ℕ → Option Head
head_said line = head_written (head_in line) line

-- ---- where a share ends

abbrev pub number_at : (place : ℕ) → List ℕ → ℕ
number_at place line = unwrap_or (decimal_of (word_at place line)) 0

abbrev pub number_before : (place : Option ℕ) → List ℕ → ℕ
number_before None line = 0
number_before (Some place) line = number_at (place - 1) line

-- the number before the first word that begins so; 0 where there is none
abbrev pub count_of : (name line : List ℕ) → ℕ
count_of name line = number_before (position (λ word. starts_with nat_eq word name) (words_of line)) line

-- the totals that the words of a line name
abbrev pub totals_in : List ℕ → Totals
totals_in line = record {
  flaws = count_of (codes "flaws") line;
  found = count_of (codes "found") line;
  hidden = count_of (codes "hidden") line;
  waived = count_of (codes "waived") line;
  needless = count_of (codes "needless") line;
}

-- the totals with which a line ends a share: the line is its last, byte for byte
abbrev pub end_said : List ℕ → Option Totals
end_said line = if is_line (end_text (totals_in line)) line then Some (totals_in line) else None

-- ---- a line

-- a line with `#` that begins no share is none of a share
abbrev pub other_said : List ℕ → Said
other_said line = if list_any (λ c. c == 35) line then say.Stray else say.Place

abbrev pub said_as : Option Head → Option Totals → (other : Said) → Said
said_as (Some head) totals other = say.Head head
said_as None (Some totals) other = say.End totals
said_as None None other = other

abbrev pub said_by : List ℕ → Said
said_by line = said_as (head_said line) (end_said line) (other_said line)
