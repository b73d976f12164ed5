-- The exit status of a grading.
use Rattle.std.specs.Prelude.{ℕ}
use Rattle.rl_log.specs.declared.status.Status.{Status}
use Rattle.rl_log.specs.declared.status.Status.TheVariants.{Found}
use Rattle.rl_log.specs.Statuses.{code_of}

-- 8 where fewer flaws were found than asked for, and else the status's own
abbrev pub exit_code : Status → ℕ
exit_code Found = 8
exit_code status = code_of status
