-- The statuses.
use Rattle.std.specs.Prelude.{ℕ, Bool, true, false}
use Rattle.rl_log.specs.declared.status.Status.{Status}
use Rattle.rl_log.specs.declared.status.Status.TheVariants.{Passed, Found, Refused, SourceFault, SinkFault, Memory, Words}

abbrev pub code_of : Status → ℕ
code_of Passed = 0
code_of Found = 1
code_of Refused = 2
code_of SourceFault = 3
code_of SinkFault = 4
code_of Memory = 5
code_of Words = 6

-- the run came to its last line
abbrev pub is_complete : Status → Bool
is_complete Passed = true
is_complete Found = true
is_complete Refused = true
is_complete _ = false
