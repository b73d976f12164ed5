-- How a session that is graded opens: what it describes, or how it is refused.
use Rattle.std.specs.Prelude.{ℕ, ◌==◌, if◌then◌else◌, List, length, codes, Result, Ok, Err}
use Rattle.rl_bus.specs.Standing.{kinds_of}
use Rattle.rl_desc.specs.Data.{DescData}
use Rattle.rl_session.specs.Session.{opening_of}
use Rattle.rl_grade.specs.Adapters.{fresh_standings}

abbrev pub flaws_text : List ℕ
flaws_text = codes "refused session: the description has flaws of its own\n"

-- a description that could be run is refused for a flaw of its own
abbrev pub unflawed : Result DescData (List ℕ) → Result DescData (List ℕ)
unflawed (Ok desc) = if length desc.flaws == 0 then Ok desc else Err flaws_text
unflawed (Err line) = Err line

-- what a session describes, or its last line where it is refused before its script: as `run` refuses it, and then for a
-- flaw
abbrev pub graded_opening : List ℕ → Result DescData (List ℕ)
graded_opening bytes = unflawed (opening_of bytes (kinds_of fresh_standings))
