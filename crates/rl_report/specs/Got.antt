-- What the reader of lines answers.
use Rattle.std.specs.Prelude.{◌≡◌, ℕ, ◌<◌, List, [], length, Option, Some}
use Rattle.rl_report.specs.declared.lines.Got.{Got}
use Rattle.rl_report.specs.declared.lines.Got.TheVariants.{Line, TooLong, End}
use Rattle.rl_report.specs.Lines.{first_line}
use Rattle.rl_report.specs.Reading.{Reading, HandsLine, input_of}

-- what it answers for these bytes
abbrev pub Hands : List ℕ → Got → Reading → Option (List ℕ) → Type 0
Hands bytes Line new left = HandsLine bytes new left
Hands bytes TooLong new left = 4096 < length (first_line bytes)
Hands bytes End new left = (bytes ≡ []) × (input_of new left ≡ Some [])
