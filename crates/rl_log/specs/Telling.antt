-- How a run ends, and what it wrote until then.
use Rattle.std.specs.Prelude.{◌≡◌, ℕ, List, true, Option}
use Rattle.std.specs.Io.KnownBytes.{Appends}
use Rattle.rl_report.specs.Pieces.{AppendsFront}
use Rattle.rl_log.specs.declared.status.Status.{Status}
use Rattle.rl_log.specs.Statuses.{is_complete}

-- A run that came to its last line has this status and told the whole text; any other one told a front of it.
pub record Tells (status expected : Status) (old new : Option (List ℕ)) (text : List ℕ) : Type 0 where
  pub whole : is_complete status ≡ true → (status ≡ expected) × Appends old new text
  pub part : AppendsFront old new text
