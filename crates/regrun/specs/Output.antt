-- What a session wrote, and a script whose accesses are woven.
use Rattle.std.specs.Prelude.{◌≡◌, ℕ, List, ◌++◌, Option, Some, IfSome}
use Rattle.std.specs.Io.KnownBytes.{Appends}
use Rattle.rl_bus.specs.Standing.{Standing}
use Rattle.rl_desc.specs.Data.{DescData}
use Rattle.rl_log.specs.Events.{Happened}
use Rattle.rl_log.specs.Lines.{IsLogOf}
use Rattle.rl_log.specs.Recording.{no_counts}
use Rattle.rl_log.specs.declared.status.Status.{Status}
use Rattle.rl_log.specs.declared.status.Status.TheVariants.{SourceFault}
use Rattle.rl_session_run.specs.Output.{IsJudged}
use Rattle.rl_play.specs.Leaves.{Leaves}
use Rattle.rl_report.specs.declared.sink.Sink.{Ghosts as Sink}
use Rattle.rl_report.specs.declared.source.Source.{Ghosts as Source}
use Rattle.rl_session.specs.Judged.{Judged, first_world}
use Rattle.rl_weave_log.specs.WeaveLog.{closed_text, counting}

-- the log of the lines of a script whose accesses are woven, from the first state of a description on:
-- that of the groups that a blank line among these ends
abbrev pub woven_lines : (n : ℕ) → DescData → List Standing → List (List ℕ) → List ℕ
woven_lines n desc adapters lines = closed_text 1 (counting n no_counts (first_world desc adapters)) lines

-- A log was written that tells these events of these lines.
pub record WritesEvents (lines : List (List ℕ)) (events : List Happened) (old new : Option (List ℕ)) : Type 0 where
  pub text : List ℕ
  pub written : Appends old new text
  pub log : IsLogOf 1 no_counts lines events text

-- Bytes were taken from the front of a session, and exactly their log was written.
pub record BreaksOff (log : (taken : List ℕ) → List Standing → List ℕ) (bytes : List ℕ) (adapters : List Standing)
    (left old new : Option (List ℕ)) : Type 0 where
  pub taken : List ℕ
  pub others : List ℕ
  pub split : taken ++ others ≡ bytes
  pub is_left : left ≡ Some others
  pub text : Appends old new (log taken adapters)

-- A session was read from its first byte on and run, or ended before its script: from what the source,
-- the log and the adapters were before to what they are after. `judge` says what its bytes come to, and `log_of` what
-- is written of a front of them.
pub record RunsWhole {S K : Type 0} (source : Source S) (sink : Sink K) (is_out : K → Type 0)
    (judge : (bytes : List ℕ) → List Standing → Judged) (log_of : (taken : List ℕ) → List Standing → List ℕ)
    (before after : S) (old new : K) (adapters now : List Standing) (status : Status) : Type 0 where
  -- What is written is what is judged, with its status. After any fault, and where memory ran
  -- out, it is a front of that.
  pub tells : IfSome (source.left before) (λ bytes.
      IsJudged (judge bytes adapters) status (sink.written old) (sink.written new) now)
  -- After a source that failed, what is written is exactly the log of the bytes that were taken,
  -- and nothing of it is kept back.
  pub at_fault : status ≡ SourceFault → IfSome (source.left before) (λ bytes.
      BreaksOff log_of bytes adapters (source.left after) (sink.written old) (sink.written new))
  pub flushed : status ≡ SourceFault → is_out old → is_out new
  pub leaves : Leaves sink (source.faults before) (source.faults after) old new (Some status)
