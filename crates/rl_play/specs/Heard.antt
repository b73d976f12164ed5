-- What a line says, as the reader handed it out.
use Rattle.std.specs.Prelude.{ℕ, nat_lt, if◌then◌else◌, List, Result, Err}
use Rattle.rl_report.specs.declared.lines.Got.{Got}
use Rattle.rl_report.specs.declared.lines.Got.TheVariants as got
use Rattle.rl_script.specs.declared.line.Line.{Line}
use Rattle.rl_script.specs.Reading.{read_of}
use Rattle.rl_log.specs.declared.refusal.LineRefusal.{LineRefusal}
use Rattle.rl_log.specs.declared.refusal.LineRefusal.TheVariants.{TooLong, TooManyLines}
use Rattle.rl_log.specs.Log.{said_by}
use Rattle.rl_play.specs.declared.playing.TheConstants.{MOST_LINES}

-- it may have been too long
abbrev pub handed : Got → List ℕ → Result Line LineRefusal
handed got.TooLong line = Err TooLong
handed got.Line line = said_by (read_of line)
handed got.End line = said_by (read_of line)

abbrev pub heard : (number : ℕ) → Got → List ℕ → Result Line LineRefusal
heard number got line = if nat_lt MOST_LINES number then Err TooManyLines else handed got line
