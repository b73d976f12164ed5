-- What a call leaves of all that it works on: model, adapters and device, source and sink, and the reader of lines.
use Rattle.std.specs.Prelude.{◌≡◌, ◌≢◌, ℕ, ◌≤◌, List, true, false, Option, Some, None, IfSome, Result, Ok, Err}
use Rattle.std.specs.Io.KnownBytes.{Keeps}
use Rattle.rl_access.specs.Model.{ModelData, IsReady, IsSameChip}
use Rattle.rl_bus.specs.Standing.{Standing}
use Rattle.rl_bus.specs.State.{State}
use Rattle.rl_log.specs.declared.status.Status.{Status}
use Rattle.rl_log.specs.declared.status.Status.TheVariants.{Passed, Found, SourceFault}
use Rattle.rl_log.specs.Causes.{IsCaused}
use Rattle.rl_play.specs.declared.playing.Turn.{Turn}
use Rattle.rl_play.specs.declared.playing.Turn.TheVariants.{Next, Stop}
use Rattle.rl_report.specs.declared.sink.Sink.{Ghosts as Sink}
use Rattle.rl_report.specs.Lines.{first_line}
use Rattle.rl_report.specs.Reading.{Reading, input_of}

-- ---- the status with which a call ends the script, if it does

abbrev pub stop_of : Turn → Option Status
stop_of Next = None
stop_of (Stop status) = Some status

abbrev pub fault_of : {T : Type 0} → Result T Status → Option Status
fault_of (Ok x) = None
fault_of (Err status) = Some status

-- it isn't one that goes by the counts
abbrev pub NotByCounts : Option Status → Type 0
NotByCounts status = IfSome status (λ s. (s ≢ Passed) × (s ≢ Found))

-- ---- model, adapters and device

-- The next call may follow: adapters and device still belong to the model, whose chip and layout are the same.
pub record StaysReady (m new : ModelData) (adapters : List Standing) (state : Option State) : Type 0 where
  pub ready : IsReady new adapters state
  pub parts : IsSameChip m new

-- ---- source and sink

-- No count of faults falls, and the call ends the script by a fault only where the count of that stream rose:
-- the source's went from `source` to `source_now`. The sink isn't ended, and its bytes go where they went.
pub record Leaves {K : Type 0} (sink : Sink K) (source source_now : ℕ) (old new : K)
    (status : Option Status) : Type 0 where
  pub source_later : source ≤ source_now
  pub sink_later : sink.faults old ≤ sink.faults new
  pub ends_kept : sink.ends new ≡ sink.ends old
  pub same_target : sink.target new ≡ sink.target old
  pub cause : IfSome status (λ s. IsCaused s source source_now (sink.faults old) (sink.faults new))

-- ---- the reader

-- It is past the separator, may be asked for more where the script goes on, and keeps the end that it has met.
pub record ReadsOn (old new : Reading) (turn : Turn) : Type 0 where
  pub found : new.found ≡ true
  pub going : turn ≡ Next → new.refused ≡ false
  pub ended : old.ended ≡ true → new.ended ≡ true

-- After a source that failed the call can be made again: the source was still being read, the reader may be asked for
-- the line that was cut, and nothing is kept back of what was written.
pub record CanGoOn (old new : Reading) (is_out : Type 0) : Type 0 where
  pub unended : old.ended ≡ false
  pub again : new.refused ≡ false
  pub out : is_out

-- So it is where the source failed in the midst of a line: no byte is lost, and the reader holds no whole line.
pub record CutsLine (old : Reading) (left : Option (List ℕ)) (new : Reading) (rest : Option (List ℕ))
    (is_out : Type 0) : Type 0 where
  pub none_lost : Keeps (input_of old left) (input_of new rest)
  pub none_whole : first_line new.pending ≡ new.pending
  pub still : new.ended ≡ false
  pub goes_on : CanGoOn old new is_out

-- ---- the reader, the source and the sink, behind a line or a script

pub record LeavesLines {K : Type 0} (sink : Sink K) (is_out : Type 0) (old new : Reading) (source source_now : ℕ)
    (out now : K) (turn : Turn) : Type 0 where
  pub reads : ReadsOn old new turn
  pub goes_on : turn ≡ Stop SourceFault → CanGoOn old new is_out
  pub leaves : Leaves sink source source_now out now (stop_of turn)
