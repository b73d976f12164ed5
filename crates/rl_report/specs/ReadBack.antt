-- The operations of a log as lines of a script.
use Rattle.std.specs.Prelude.{◌≡◌, ◌==◌, List, ℕ, take, length, Some, Ok}
use Rattle.std.specs.List.{position_or_len}
use Rattle.rl_access.specs.declared.event.Event.{Event}
use Rattle.rl_access.specs.Model.{ModelData, IsModel}
use Rattle.rl_access.specs.Operation.{HasNumbers}
use Rattle.rl_script.specs.declared.line.Line.{Line}
use Rattle.rl_script.specs.Reading.{read_of}
use Rattle.rl_report.specs.Event.{event_line}
use Rattle.rl_report.specs.Operation.{line_of, FitsWords}
use Rattle.rl_report.specs.WithoutItems.{HasNames}

-- what stands before the first colon
abbrev pub before_colon : List ℕ → List ℕ
before_colon line = take (position_or_len (λ b. b == 58) line) line

-- What stands before the first colon of an event's line reads as the line of a script that asks for its operation:
-- the same command, the path of the same item, the same numbers, and the map that was used.
-- So it is of each event but that of a burst.
abbrev pub OperationsReadBack : Type 0
OperationsReadBack =
    (m : ModelData) (e : Event) (line : Line)
    → IsModel m → HasNames m.chip m.layout → HasNumbers m.chip (length m.layout.maps) e.op → FitsWords e.op
    → line_of m e.op ≡ Some line → read_of (before_colon (event_line m e)) ≡ Ok line
