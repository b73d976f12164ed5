-- What a part of a session leaves of its log.
use Rattle.std.specs.Prelude.{◌≡◌, ℕ, ◌≤◌, List, true, false, Option}
use Rattle.rl_report.specs.declared.sink.Sink.{Ghosts as Sink}
use Rattle.rl_report.specs.Ends.{EndedOnce}
use Rattle.rl_log.specs.declared.status.Status.{Status}
use Rattle.rl_log.specs.Causes.{IsCaused}
use Rattle.rl_log.specs.Statuses.{is_complete}
use Rattle.rl_log.specs.Earlier.{KeepsEarlier}

-- It doesn't end the log, writes to the same sink, and the count of its faults only rises.
pub record Stays {K : Type 0} (faults ends target : K → ℕ) (old new : K) : Type 0 where
  pub later : faults old ≤ faults new
  pub ends_kept : ends new ≡ ends old
  pub same_target : target new ≡ target old

-- It keeps the log's earlier bytes, doesn't end it, and the count of its faults only rises.
pub record StaysOpen {K : Type 0} (written : K → Option (List ℕ)) (faults ends : K → ℕ) (old new : K) : Type 0 where
  pub earlier : KeepsEarlier (written old) (written new)
  pub later : faults old ≤ faults new
  pub ends_kept : ends new ≡ ends old

-- A session whose log isn't ended yet: no fault is made up, and the status is never that of other words.
-- The source's count of faults went from `source` to `source_now`.
pub record LeavesOpen {K : Type 0} (sink : Sink K) (status : Status) (source source_now : ℕ)
    (old new : K) : Type 0 where
  pub source_later : source ≤ source_now
  pub cause : IsCaused status source source_now (sink.faults old) (sink.faults new)
  pub stays : StaysOpen sink.written sink.faults sink.ends old new

-- A whole session: its log keeps the bytes that it had before, and is ended, once,
-- exactly where its last line was written.
pub record LeavesEnded {K : Type 0} (sink : Sink K) (status : Status) (source source_now : ℕ)
    (old new : K) : Type 0 where
  pub keeps_earlier : KeepsEarlier (sink.written old) (sink.written new)
  pub source_later : source ≤ source_now
  pub log_later : sink.faults old ≤ sink.faults new
  pub cause : IsCaused status source source_now (sink.faults old) (sink.faults new)
  pub ended : is_complete status ≡ true → EndedOnce (sink.ends old) (sink.ends new)
  pub not_ended : is_complete status ≡ false → sink.ends new ≡ sink.ends old
