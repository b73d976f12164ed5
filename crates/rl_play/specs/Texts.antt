-- The last lines of a log, and the last line of a sequence.
use Rattle.std.specs.Prelude.{ℕ, List, [], ◌∷◌, codes, decimal}
use Rattle.rl_report.specs.Pieces.{joined}
use Rattle.rl_log.specs.declared.counts.Counts.{Counts}

-- that a line was refused, for this reason
abbrev pub refused_so_text : ℕ → (reason : List ℕ) → List ℕ
refused_so_text number reason =
    joined (codes "refused line " ∷ decimal number ∷ codes ": " ∷ reason ∷ codes "\n" ∷ [])

-- what was counted: a beginning, and what the events are called here
abbrev pub counts_text : (begin events : List ℕ) → Counts → List ℕ
counts_text begin events counts =
    joined (begin ∷ decimal counts.events ∷ events
    ∷ decimal counts.differences ∷ codes " differences, " ∷ decimal counts.errors ∷ codes " bus errors\n" ∷ [])
