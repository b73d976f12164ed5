-- How a session opens for which a plan is made.
use Rattle.std.specs.Prelude.{ℕ, ◌==◌, if◌then◌else◌, List, length, codes, Result, Ok, Err}
use Rattle.rl_desc.specs.Data.{DescData}

abbrev pub flaws_text : List ℕ
flaws_text = codes "refused session: the description has flaws of its own\n"

-- a description that could be run is refused for a flaw of its own
abbrev pub unflawed : Result DescData (List ℕ) → Result DescData (List ℕ)
unflawed (Ok desc) = if length desc.flaws == 0 then Ok desc else Err flaws_text
unflawed (Err line) = Err line
