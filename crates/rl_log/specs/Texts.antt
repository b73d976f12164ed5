-- The last lines of a log.
use Rattle.std.specs.Prelude.{ℕ, List, [], ◌∷◌, codes, decimal}
use Rattle.rl_report.specs.Pieces.{joined}
use Rattle.rl_log.specs.declared.counts.Counts.{Counts}
use Rattle.rl_log.specs.declared.refusal.LineRefusal.{LineRefusal}
use Rattle.rl_log.specs.declared.refusal.LineRefusal.TheVariants.{TooLong, NotAscii, NoSuchCommand, WrongCount, BadName, BadNumber, NumberTooLarge, CountOutOfRange, NoSuchName, TooManyLines}

abbrev pub reason_text : LineRefusal → List ℕ
reason_text TooLong = codes "too long"
reason_text NotAscii = codes "not ascii"
reason_text NoSuchCommand = codes "no such command"
reason_text WrongCount = codes "wrong count"
reason_text BadName = codes "bad name"
reason_text BadNumber = codes "bad number"
reason_text NumberTooLarge = codes "number too large"
reason_text CountOutOfRange = codes "count out of range"
reason_text NoSuchName = codes "no such name"
reason_text TooManyLines = codes "too many lines"

-- the last line, where a line was refused
abbrev pub refused_text : ℕ → LineRefusal → List ℕ
refused_text number refusal =
    joined (codes "refused line " ∷ decimal number ∷ codes ": " ∷ reason_text refusal ∷ codes "\n" ∷ [])

-- the last line, at the end
abbrev pub end_text : Counts → List ℕ
end_text counts =
    joined (codes "end: " ∷ decimal counts.events ∷ codes " events, "
    ∷ decimal counts.differences ∷ codes " differences, " ∷ decimal counts.errors ∷ codes " bus errors\n" ∷ [])
