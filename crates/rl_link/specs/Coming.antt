-- What comes from the peer, and which line of it answers.
use Rattle.std.specs.Prelude.{◌≡◌, ℕ, ◌+◌, ◌^◌, ◌<◌, Bool, List, [], ◌∷◌, ◌++◌, if◌then◌else◌, length, Option, Some, IfSome, Ok}
use Rattle.std.specs.Io.KnownBytes.{prepend_known}
use Rattle.rl_report.specs.Lines.{first_line, after_line, whole_lines}
use Rattle.rl_bus.specs.declared.op.Answer.{Answer}
use Rattle.rl_link.specs.declared.answer.Said.{Said}
use Rattle.rl_link.specs.Answers.{bare, is_passed, said_in, answer_to, done_by}

-- what is held, and then what the source has left
abbrev pub coming : List ℕ → Option (List ℕ) → Option (List ℕ)
coming held left = prepend_known held left

-- a line with its end stands in front
abbrev pub HasLine : List ℕ → Type 0
HasLine bytes = length (first_line bytes) < length bytes

-- it has so many bytes, which are held
pub record IsLine (bytes : List ℕ) (len : ℕ) : Type 0 where
  pub is : len ≡ length (first_line bytes)
  pub whole : len < length bytes
  pub few : len < 8192

-- the bytes from the first line on that says something, where these are the whole lines among them
abbrev pub behind_passed : (lines : List (List ℕ)) → (bytes : List ℕ) → List ℕ
behind_passed [] bytes = bytes
behind_passed (line ∷ lines) bytes = if is_passed (bare line) then behind_passed lines (after_line bytes) else bytes

-- the bytes behind the whole lines that say nothing
unfoldable pub answer_from : List ℕ → List ℕ
answer_from bytes = behind_passed (whole_lines bytes) bytes

-- A whole line that is an answer is among these.
abbrev pub HoldsAnswer : List ℕ → Type 0
HoldsAnswer bytes = HasLine (answer_from bytes)

-- Lines that say nothing were passed over, or none.
abbrev pub Skips : (old new : Option (List ℕ)) → Type 0
Skips old new = IfSome old (λ bytes. (rest : List ℕ) × (new ≡ Some rest) × (answer_from rest ≡ answer_from bytes))

-- Whole lines were taken from the front, and each counts one, as long as 64 bits have room for the count.
pub record TakesLines (lines now : ℕ) (bytes : List ℕ) (new : Option (List ℕ)) : Type 0 where
  pub taken : List (List ℕ)
  pub rest : List ℕ
  pub is_left : new ≡ Some rest
  pub split : whole_lines bytes ≡ taken ++ whole_lines rest
  pub counted : lines + length taken < 2 ^ 64 → now ≡ lines + length taken

-- of what comes, where the source tells it
abbrev pub Takes : (lines now : ℕ) (old new : Option (List ℕ)) → Type 0
Takes lines now old new = IfSome old (λ bytes. TakesLines lines now bytes new)

-- The first line that says something stands in front, and was read.
pub record Hears (bytes : List ℕ) (said : Said) (new : Option (List ℕ)) : Type 0 where
  pub rest : new ≡ Some (answer_from bytes)
  pub whole : HasLine (answer_from bytes)
  pub says : said ≡ said_in (first_line (answer_from bytes))

-- The line that answers a transfer was taken.
pub record Answers (write : Bool) (width : ℕ) (bytes : List ℕ) (answer : Answer) (new : Option (List ℕ)) : Type 0 where
  pub rest : new ≡ Some (after_line (answer_from bytes))
  pub whole : HasLine (answer_from bytes)
  pub says : answer_to write width (said_in (first_line (answer_from bytes))) ≡ Ok answer

-- The line that tells whether something else was done was taken.
pub record IsDone (bytes : List ℕ) (done : Bool) (new : Option (List ℕ)) : Type 0 where
  pub rest : new ≡ Some (after_line (answer_from bytes))
  pub whole : HasLine (answer_from bytes)
  pub says : done_by (said_in (first_line (answer_from bytes))) ≡ Ok done
