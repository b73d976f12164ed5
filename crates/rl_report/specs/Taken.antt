-- One part of the bytes before the separator.
use Rattle.std.specs.Prelude.{◌≡◌, ℕ, ◌<◌, ◌≤◌, List, ◌++◌, Bool, true, false, length, Option, IfSome}
use Rattle.std.specs.Io.KnownBytes.{prepend_known}
use Rattle.rl_report.specs.declared.lines.Taken.{Taken}
use Rattle.rl_report.specs.declared.lines.Taken.TheVariants.{Last, Text, Nothing}
use Rattle.rl_report.specs.Lines.{first_line}
use Rattle.rl_report.specs.Opening.{separator_from, HeadIs}
use Rattle.rl_report.specs.Reading.{Reading, input_of}

-- The separator isn't among these bytes, whatever follows them; `starts` says that a line begins behind them.
unfoldable pub Passes : List ℕ → Bool → Type 0
Passes head starts = (rest : List ℕ) → separator_from 0 true (head ++ rest) ≡ separator_from (length head) starts rest

-- Bytes went from the reader to the head.
pub record TakesText (old : Reading) (head : List ℕ) (starts : Bool) (new : Reading) (new_head : List ℕ)
    (new_starts : Bool) : Type 0 where
  pub grown : length head < length new_head
  pub few : length new_head ≤ 1048576
  pub moved : (left : Option (List ℕ))
      → prepend_known head (input_of old left) ≡ prepend_known new_head (input_of new left)
  pub passed : Passes head starts → Passes new_head new_starts
  pub ended : new.ended ≡ old.ended

-- Nothing was taken, since more bytes are needed.
pub record TakesNothing (old : Reading) (head : List ℕ) (new : Reading) (new_head : List ℕ) : Type 0 where
  pub same : new ≡ old
  pub same_head : new_head ≡ head
  pub few : length old.pending ≤ 4
  pub none_whole : first_line old.pending ≡ old.pending
  pub going : old.ended ≡ false

-- what became of the bytes that a reader holds
abbrev pub Takes : Reading → List ℕ → Bool → Taken → Reading → List ℕ → Type 0
Takes old head starts (Last answer) new new_head =
    Passes head starts → (left : Option (List ℕ))
    → IfSome (input_of old left) (λ rest. HeadIs (head ++ rest) answer new_head new left)
Takes old head starts (Text ends) new new_head = TakesText old head starts new new_head ends
Takes old head starts Nothing new new_head = TakesNothing old head new new_head
