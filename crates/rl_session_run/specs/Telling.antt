-- What a session writes that ended before its script.
use Rattle.std.specs.Prelude.{◌≡◌, ℕ, List, false, Option, Result, Ok, Err, OnOk, IfErr}
use Rattle.std.specs.Io.KnownBytes.{Keeps}
use Rattle.rl_desc.specs.Data.{DescData}
use Rattle.rl_report.specs.declared.sink.Sink.{Ghosts as Sink}
use Rattle.rl_log.specs.declared.status.Status.{Status}
use Rattle.rl_log.specs.declared.status.Status.TheVariants.{Refused, SinkFault}
use Rattle.rl_log.specs.Causes.{IsCaused}
use Rattle.rl_log.specs.Statuses.{is_complete}
use Rattle.rl_log.specs.Telling.{Tells}
use Rattle.rl_session_run.specs.Stays.{StaysOpen}

-- by whether its last line was written
abbrev pub refused_status : {T E : Type 0} → (written : Result T E) → Status
refused_status (Ok x) = Refused
refused_status (Err e) = SinkFault

-- It tells its last line where it is refused, and else it ended before anything was written.
abbrev pub Stops : {X : Type 0} → (opening : Result X (List ℕ)) → Status → (old new : Option (List ℕ)) → Type 0
Stops (Ok x) status old new = (is_complete status ≡ false) × Keeps old new
Stops (Err line) status old new = Tells status Refused old new line

-- A check of a description that could be run on the device model, by what else `over` refuses:
-- it passes and writes nothing, or it ends the session with the line that says so.
pub record Checks {K T : Type 0} (sink : Sink K) (over : Result DescData (List ℕ) → Result DescData (List ℕ))
    (desc : DescData) (result : Result T Status) (old new : K) : Type 0 where
  pub allowed : OnOk result (over (Ok desc) ≡ Ok desc)
  pub unwritten : OnOk result (new ≡ old)
  pub stops : IfErr result (λ status. Stops (over (Ok desc)) status (sink.written old) (sink.written new))
  pub cause : IfErr result (λ status. IsCaused status 0 0 (sink.faults old) (sink.faults new))
  pub stays : StaysOpen sink.written sink.faults sink.ends old new
