-- What a call that writes leaves of its log.
use Rattle.std.specs.Prelude.{◌≡◌, false, Result, IfErr}
use Rattle.rl_report.specs.declared.sink.Sink.{Ghosts as Sink}
use Rattle.rl_log.specs.declared.status.Status.{Status}
use Rattle.rl_log.specs.Causes.{IsCaused}
use Rattle.rl_log.specs.Statuses.{is_complete}
use Rattle.rl_session_run.specs.Stays.{Stays}

-- Where the call fails, its status says that the text isn't whole, and has its cause. The log isn't ended and stays the
-- same one, and the count of its faults only rises.
pub record LeavesLog {K T : Type 0} (sink : Sink K) (result : Result T Status) (old new : K) : Type 0 where
  pub broken : IfErr result (λ status. is_complete status ≡ false)
  pub cause : IfErr result (λ status. IsCaused status 0 0 (sink.faults old) (sink.faults new))
  pub stays : Stays sink.faults sink.ends sink.target old new
