-- The operation beside the pins.
use Rattle.std.specs.Prelude.{ℕ, List, length, take, ◌-◌, ◌^◌, nat_lt, if◌then◌else◌}
use Rattle.rl_report.specs.Lines.{first_line}

-- the line of an event without its end, and no more than 127 characters of it
abbrev pub label_of : List ℕ → List ℕ
label_of line = first_line (take 127 line)

-- a label that is full has failed as often as can be counted
abbrev pub faults_of : List ℕ → ℕ
faults_of text = if nat_lt (length text) 127 then 0 else 2 ^ 64 - 1
