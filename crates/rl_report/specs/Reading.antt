-- What a line reader holds, and what it hands out.
use Rattle.std.specs.Prelude.{◌≡◌, ℕ, ◌<◌, ◌≤◌, List, ◌∷◌, ◌++◌, Bool, true, false, length, Option, Some, if◌then◌else◌}
use Rattle.std.specs.Io.KnownBytes.{prepend_known}
use Rattle.std.specs.Io.BufRead.{strip_last}
use Rattle.rl_report.specs.Lines.{first_line, after_line}

pub record Reading : Type 0 where
  -- what it has taken and not handed out
  pub pending : List ℕ
  -- the last line that it handed out, without its line end
  pub line : List ℕ
  -- the head was asked for
  pub asked : Bool
  -- the head was found
  pub found : Bool
  -- it has met a line that is too long
  pub refused : Bool
  -- it has met the end of its source
  pub ended : Bool
  -- it has answered that there is no further line
  pub closed : Bool

-- What it gives from here on: what it has taken, and then what the source has left, until it has met the end.
abbrev pub input_of : Reading → Option (List ℕ) → Option (List ℕ)
input_of reading left = if reading.ended then Some reading.pending else prepend_known reading.pending left

-- a whole line stands in what it has taken
abbrev pub HoldsLine : Reading → Type 0
HoldsLine reading = length (first_line reading.pending) < length reading.pending

-- Whether the head was asked for and a line was refused stays, and so does the end once it was met or answered.
pub record IsLaterPhase (old new : Reading) : Type 0 where
  pub asked : new.asked ≡ old.asked
  pub found : new.found ≡ old.found
  pub ended : old.ended ≡ true → new.ended ≡ true
  pub closed : old.closed ≡ true → new.closed ≡ true

-- What was asked for and answered stays.
pub record SamePhase (old new : Reading) : Type 0 where
  pub asked : new.asked ≡ old.asked
  pub refused : new.refused ≡ old.refused
  pub closed : new.closed ≡ old.closed
  pub ended : old.ended ≡ true → new.ended ≡ true

-- The first line of these bytes was handed out.
pub record HandsLine (bytes : List ℕ) (new : Reading) (left : Option (List ℕ)) : Type 0 where
  pub some : 0 < length bytes
  pub short : length (first_line bytes) ≤ 4096
  pub line : new.line ≡ strip_last 13 (first_line bytes)
  pub rest : input_of new left ≡ Some (after_line bytes)
  -- only the last line lacks its 10, and then the end was met
  pub whole : new.ended ≡ false → bytes ≡ first_line bytes ++ 10 ∷ after_line bytes
