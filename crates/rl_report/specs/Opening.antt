-- The separator of an input: the first line that is `---`.
use Rattle.std.specs.Prelude.{◌≡◌, ℕ, ◌+◌, ◌<◌, ◌≤◌, List, [], ◌∷◌, ◌++◌, Bool, true, false, ◌&&◌, ◌==◌, if◌then◌else◌, length, take, drop, codes, Option, Some, None}
use Rattle.std.specs.Io.BufRead.{strip_last}
use Rattle.std.specs.Str.{bytes_eq}
use Rattle.rl_report.specs.declared.opening.Head.{Head}
use Rattle.rl_report.specs.declared.opening.Head.TheVariants.{Found, Missing, TooLong}
use Rattle.rl_report.specs.declared.opening.Part.{Part}
use Rattle.rl_report.specs.declared.opening.Part.TheVariants.{Separator, Text, End, Unclear}
use Rattle.rl_report.specs.Lines.{first_line, after_line}
use Rattle.rl_report.specs.Reading.{Reading, input_of}

-- the line is `---`, but for a carriage return at its end
abbrev pub is_separator : List ℕ → Bool
is_separator line = bytes_eq (strip_last 13 line) (codes "---")

-- where the separator begins, of the bytes from this place on; `starts` says that a line begins there
abbrev pub separator_from : ℕ → Bool → List ℕ → Option ℕ
separator_from at starts [] = None
separator_from at starts (b ∷ bs) =
    if starts && is_separator (first_line (b ∷ bs)) then Some at
    else separator_from (at + 1) (b == 10) bs

-- where the separator of an input begins
abbrev pub separator_at : List ℕ → Option ℕ
separator_at bytes = separator_from 0 true bytes

-- no separator begins where one may
abbrev pub HasNoHead : List ℕ → Type 0
HasNoHead bytes = (at : ℕ) → separator_at bytes ≡ Some at → 1048576 < at

-- The bytes before the separator were handed out, and its line was passed.
pub record FindsHead (bytes head : List ℕ) (new : Reading) (left : Option (List ℕ)) : Type 0 where
  pub place : separator_at bytes ≡ Some (length head)
  pub short : length head ≤ 1048576
  pub front : head ++ drop (length head) bytes ≡ bytes
  pub rest : input_of new left ≡ Some (after_line (drop (length head) bytes))
  -- only at the end of the input the separator may lack its 10
  pub whole : new.ended ≡ false
      → drop (length head) bytes ≡ first_line (drop (length head) bytes) ++ 10 ∷ after_line (drop (length head) bytes)

-- what is answered for an input
abbrev pub HeadIs : List ℕ → Head → List ℕ → Reading → Option (List ℕ) → Type 0
HeadIs bytes Found head new left = FindsHead bytes head new left
HeadIs bytes Missing head new left = HasNoHead bytes × (length bytes ≤ 1048576)
HeadIs bytes TooLong head new left = HasNoHead bytes × (1048576 < length bytes)

-- Bytes were taken from the front of an input, and no whole separator is among them: its line lacks its 10.
pub record TakesNoHead (bytes : List ℕ) (left : Option (List ℕ)) : Type 0 where
  pub taken : List ℕ
  pub others : List ℕ
  pub split : taken ++ others ≡ bytes
  pub is_left : left ≡ Some others
  pub none : (at : ℕ) → separator_at taken ≡ Some at → first_line (drop at taken) ≡ drop at taken

-- The bytes begin with the separator's line.
pub record BeginsWithSeparator (held : List ℕ) (starts ended : Bool) (size : ℕ) : Type 0 where
  pub at_start : starts ≡ true
  pub line : is_separator (first_line held) ≡ true
  pub rest : drop size held ≡ after_line held
  pub within : size ≤ length held
  pub whole : ended ≡ false → length (first_line held) < length held

-- The bytes begin with so many that aren't the separator's, whatever follows them.
pub record BeginsWithText (held : List ℕ) (starts : Bool) (size : ℕ) (ends : Bool) : Type 0 where
  pub some : 0 < size
  pub within : size ≤ length held
  pub passed : (at : ℕ) (rest : List ℕ)
      → separator_from at starts (take size held ++ rest) ≡ separator_from (at + size) ends rest

-- No separator begins in the last bytes.
pub record HasNone (held : List ℕ) (starts ended : Bool) : Type 0 where
  pub at_end : ended ≡ true
  pub none : (at : ℕ) → separator_from at starts held ≡ None

-- There are too few bytes to tell.
pub record IsUnclear (held : List ℕ) (starts ended : Bool) : Type 0 where
  pub going : ended ≡ false
  pub few : length held ≤ 4
  pub none_whole : first_line held ≡ held

-- what stands at the front of the bytes held
abbrev pub IsPart : List ℕ → Bool → Bool → Part → Type 0
IsPart held starts ended (Separator size) = BeginsWithSeparator held starts ended size
IsPart held starts ended (Text size ends) = BeginsWithText held starts size ends
IsPart held starts ended End = HasNone held starts ended
IsPart held starts ended Unclear = IsUnclear held starts ended
