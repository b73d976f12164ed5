-- The judged log: what a session writes, how it ends, and what there is afterwards.
use Rattle.std.specs.Prelude.{ℕ, ◌+◌, nat_lt, if◌then◌else◌, List, [], ◌∷◌, ◌++◌, length, Option, Some, None, Result, Ok, Err}
use Rattle.std.specs.Io.BufRead.{strip_last}
use Rattle.rl_script.specs.declared.fault.LineFault.{LineFault}
use Rattle.rl_script.specs.declared.fault.LineFault.TheVariants as fault
use Rattle.rl_script.specs.declared.line.Line.{Line}
use Rattle.rl_script.specs.Reading.{read_of}
use Rattle.rl_log.specs.declared.counts.Counts.{Counts}
use Rattle.rl_log.specs.declared.status.Status.{Status}
use Rattle.rl_log.specs.declared.status.Status.TheVariants.{Refused}
use Rattle.rl_log.specs.declared.refusal.LineRefusal.{LineRefusal}
use Rattle.rl_log.specs.declared.refusal.LineRefusal.TheVariants.{TooLong, NotAscii, NoSuchCommand, WrongCount, BadName, BadNumber, NumberTooLarge, CountOutOfRange, NoSuchName, TooManyLines}
use Rattle.rl_log.specs.Endings.{end_status}
use Rattle.rl_log.specs.Entry.{Entry, entry_of}
use Rattle.rl_log.specs.Recording.{with_events}
use Rattle.rl_log.specs.Texts.{refused_text, end_text}
use Rattle.rl_access.specs.World.{World}

-- ---- what a line says

-- reading answers want of memory never
abbrev pub refused_by : LineFault → LineRefusal
refused_by fault.TooLong = TooLong
refused_by fault.NotAscii = NotAscii
refused_by fault.NoSuchCommand = NoSuchCommand
refused_by fault.WrongCount = WrongCount
refused_by fault.BadName = BadName
refused_by fault.BadNumber = BadNumber
refused_by fault.NumberTooLarge = NumberTooLarge
refused_by fault.CountOutOfRange = CountOutOfRange
refused_by fault.Memory = TooLong

abbrev pub said_by : Result Line LineFault → Result Line LineRefusal
said_by (Ok line) = Ok line
said_by (Err fault) = Err (refused_by fault)

-- a line of that number, without its line end
abbrev pub said : (number : ℕ) → List ℕ → Result Line LineRefusal
said number line =
    if nat_lt 1000000 number then Err TooManyLines
    else if nat_lt 4096 (length line) then Err TooLong
    else said_by (read_of (strip_last 13 line))

-- ---- what comes of a line

abbrev pub there : Option Entry → Result Entry LineRefusal
there None = Err NoSuchName
there (Some entry) = Ok entry

abbrev pub comes_of : World → Result Line LineRefusal → Result Entry LineRefusal
comes_of w (Ok line) = there (entry_of w line)
comes_of w (Err why) = Err why

-- ---- a script

pub record Ending : Type 0 where
  pub text : List ℕ
  pub status : Status
  pub counts : Counts
  pub world : World

abbrev pub ends : Counts → World → Ending
ends counts w = record { text = end_text counts; status = end_status counts; counts = counts; world = w }

abbrev pub stops : (number : ℕ) → LineRefusal → Counts → World → Ending
stops number why counts w = record { text = refused_text number why; status = Refused; counts = counts; world = w }

abbrev pub after_text : List ℕ → Ending → Ending
after_text text e = record e { text = text ++ e.text }

-- a line that is refused stops the script, and any other one is followed by the rest
abbrev pub goes_on : (number : ℕ) → Counts → World → Result Entry LineRefusal
    → (rest : Counts → World → Ending) → Ending
goes_on number counts w (Err why) rest = stops number why counts w
goes_on number counts w (Ok entry) rest =
    after_text entry.text (rest (with_events counts entry.course.told) entry.course.world)

-- the lines from that number on
unfoldable pub script_from : (number : ℕ) → Counts → World → List (List ℕ) → Ending
script_from number counts w [] = ends counts w
script_from number counts w (line ∷ lines) =
    goes_on number counts w (comes_of w (said number line)) (λ counts w. script_from (number + 1) counts w lines)

-- a line that is refused writes nothing here, and nothing comes after it
abbrev pub text_on : Result Entry LineRefusal → (World → List ℕ) → List ℕ
text_on (Err why) rest = []
text_on (Ok entry) rest = entry.text ++ rest entry.course.world

-- the log of these lines, from that number on, with no last line
unfoldable pub lines_text : (number : ℕ) → World → List (List ℕ) → List ℕ
lines_text number w [] = []
lines_text number w (line ∷ lines) = text_on (comes_of w (said number line)) (λ w. lines_text (number + 1) w lines)
