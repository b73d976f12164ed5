-- A script that is run on the device model, against what is judged of it.
use Rattle.std.specs.Prelude.{◌≡◌, ℕ, List, false, Some, IfSome}
use Rattle.rl_bus.specs.Standing.{Standing}
use Rattle.rl_log.specs.declared.status.Status.{Status}
use Rattle.rl_log.specs.declared.status.Status.TheVariants.{SourceFault}
use Rattle.rl_session_run.specs.Output.{IsJudged}
use Rattle.rl_play.specs.Leaves.{Leaves}
use Rattle.rl_play.specs.Played.{LinesBreak}
use Rattle.rl_report.specs.Reading.{Reading, input_of}
use Rattle.rl_report.specs.declared.sink.Sink.{Ghosts as Sink}
use Rattle.rl_report.specs.declared.source.Source.{Ghosts as Source}
use Rattle.rl_session.specs.Judged.{Judged}

-- The lines were run that a reader and its source have left: from what the source, the log and the adapters were before
-- to what they are after. `judge` says what the bytes of a script come to, and `log_of` what is written of its lines.
pub record RunsScript {S K : Type 0} (source : Source S) (sink : Sink K) (is_out : K → Type 0)
    (judge : (script : List ℕ) → List Standing → Judged) (log_of : List Standing → (lines : List (List ℕ)) → List ℕ)
    (lines : Reading) (before after : S) (old new : K) (adapters now : List Standing) (status : Status) : Type 0 where
  -- What is written is what is judged, with its status. After any fault, and where memory ran
  -- out, it is a front of that.
  pub tells : IfSome (input_of lines (source.left before)) (λ bytes.
      IsJudged (judge bytes adapters) status (sink.written old) (sink.written new) now)
  -- After a source that failed, what is written is exactly the log of the lines that were taken.
  pub at_fault : status ≡ SourceFault → IfSome (input_of lines (source.left before)) (λ bytes.
      LinesBreak (log_of adapters) bytes (source.left after) (sink.written old) (sink.written new))
  -- The source was then still being read, and nothing is kept back.
  pub unended : status ≡ SourceFault → (lines.ended ≡ false) × is_out new
  pub leaves : Leaves sink (source.faults before) (source.faults after) old new (Some status)
