-- How a session ends whose script gives no tasks.
use Rattle.std.specs.Prelude.{◌≡◌, ℕ, List, false, Option}
use Rattle.std.specs.Io.KnownBytes.{Keeps}
use Rattle.rl_log.specs.declared.status.Status.{Status}
use Rattle.rl_log.specs.declared.status.Status.TheVariants.{Refused}
use Rattle.rl_log.specs.Statuses.{is_complete}
use Rattle.rl_log.specs.Telling.{Tells}
use Rattle.rl_log.specs.Texts.{refused_text}
use Rattle.rl_grade.specs.declared.script.ScriptFault.{ScriptFault}
use Rattle.rl_grade.specs.declared.script.ScriptFault.TheVariants.{Line, Source, Memory}

-- before anything was written
abbrev pub EndsEarly : Status → (old new : Option (List ℕ)) → Type 0
EndsEarly status old new = (is_complete status ≡ false) × Keeps old new

-- a line that is refused is told so, as a run tells it
abbrev pub EndsUnread : ScriptFault → Status → (old new : Option (List ℕ)) → Type 0
EndsUnread (Line number why) status old new = Tells status Refused old new (refused_text number why)
EndsUnread Source status old new = EndsEarly status old new
EndsUnread Memory status old new = EndsEarly status old new
