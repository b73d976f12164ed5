-- The shares of a text, one after the other.
use Rattle.std.specs.Prelude.{ℕ, ◌+◌, List, [], ◌∷◌, ◌++◌, Option, Some, None, Result, Ok, Err}
use Rattle.rl_report.specs.Lines.{lines_of}
use Rattle.rl_grade_report.specs.declared.said.Head.{Head}
use Rattle.rl_grade_report.specs.declared.said.Said.{Said}
use Rattle.rl_grade_report.specs.declared.said.Said.TheVariants as say
use Rattle.rl_grade_report.specs.declared.shares.Part.{Part}
use Rattle.rl_grade_report.specs.declared.shares.Shares.{Shares}
use Rattle.rl_grade_report.specs.declared.shares.SharesFault.{SharesFault}
use Rattle.rl_grade_report.specs.declared.shares.SharesFault.TheVariants.{Refused, Memory}
use Rattle.rl_grade_report.specs.declared.shares.Unfit.{Unfit}
use Rattle.rl_grade_report.specs.declared.shares.Unfit.TheVariants.{NoHead, Cut}
use Rattle.rl_grade_report.specs.Said.{said_by}

-- the shares so far: those that came whole, in order, and the one whose end is awaited
pub record Came : Type 0 where
  pub whole : List Part
  pub current : Option Head

abbrev pub came : Shares → Came
came shares = record { whole = shares.whole.items; current = shares.current }

-- why the text is refused, unless memory ran out
abbrev pub refused_by : SharesFault → Option Unfit
refused_by (Refused why) = Some why
refused_by Memory = None

-- ---- a line more

-- where no share is open, one begins
abbrev pub begun : List Part → (number : ℕ) → Said → Result Came Unfit
begun whole number (say.Head head) = Ok (record { whole = whole; current = Some head })
begun whole number (say.End totals) = Err (NoHead number)
begun whole number say.Place = Err (NoHead number)
begun whole number say.Stray = Err (NoHead number)

-- where one is open, it goes on or ends
abbrev pub gone_on : List Part → Head → Said → Result Came Unfit
gone_on whole head (say.Head other) = Err (Cut head.share)
gone_on whole head (say.End totals) =
    Ok (record { whole = whole ++ record { head = head; totals = totals } ∷ []; current = None })
gone_on whole head say.Place = Ok (record { whole = whole; current = Some head })
gone_on whole head say.Stray = Err (Cut head.share)

abbrev pub with_said : List Part → Option Head → (number : ℕ) → Said → Result Came Unfit
with_said whole None number said = begun whole number said
with_said whole (Some head) number said = gone_on whole head said

-- with the line of this number
abbrev pub with_line : Came → (number : ℕ) → (line : List ℕ) → Result Came Unfit
with_line c number line = with_said c.whole c.current number (said_by line)

-- ---- all lines

abbrev pub closed_by : List Part → Option Head → Result (List Part) Unfit
closed_by whole None = Ok whole
closed_by whole (Some head) = Err (Cut head.share)

-- behind the last line no share is open
abbrev pub closed : Came → Result (List Part) Unfit
closed c = closed_by c.whole c.current

-- what comes of the lines behind one, unless that is refused
abbrev pub and_then : {T U E : Type 0} → Result T E → (T → Result U E) → Result U E
and_then (Ok x) f = f x
and_then (Err why) f = Err why

-- line by line, from that number on
unfoldable pub shares_from : Came → (number : ℕ) → (lines : List (List ℕ)) → Result (List Part) Unfit
shares_from c number [] = closed c
shares_from c number (line ∷ lines) = and_then (with_line c number line) (λ next. shares_from next (number + 1) lines)

abbrev pub none_came : Came
none_came = record { whole = []; current = None }

-- the shares of a text in order; or the first line where none begins and one should, or the first one without its end
abbrev pub shares_of : List ℕ → Result (List Part) Unfit
shares_of text = shares_from none_came 1 (lines_of text)
