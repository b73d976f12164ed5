-- What becomes of a dump, event by event.
use Rattle.std.specs.Prelude.{◌≡◌, ◌≤◌, List, ◌++◌, Option, Some, IsNone, IsSome}
use Rattle.std.specs.Io.KnownBytes.{Appends, Keeps}
use Rattle.rl_bus.specs.Causes.{Rose}
use Rattle.rl_map.specs.Layout.{LayoutData}
use Rattle.rl_access.specs.declared.event.Event.{Event}
use Rattle.rl_access.specs.HandsOver.{Told}
use Rattle.rl_access.specs.Model.{ModelData}
use Rattle.rl_report.specs.Pieces.{AppendsFront}
use Rattle.rl_report.specs.declared.sink.Sink.{Ghosts as Sink}
use Rattle.rl_vcd.specs.declared.dump.Dump.{Dump}
use Rattle.rl_vcd.specs.declared.dump.Fault.{Fault}
use Rattle.rl_vcd.specs.declared.dump.Fault.TheVariants.{Full, Sink as SinkFailed}
use Rattle.rl_vcd.specs.Drawn.{EventsRunOut, RunsOut, cycle_behind_event, cycle_behind_events, dump_text, event_drawn}
use Rattle.rl_vcd.specs.Told.{told}

-- an event, with the model right after it
abbrev pub told_of : ModelData → Event → Told
told_of model event = record { model = model; event = event }

-- ---- one event

pub record Notes {K : Type 0} (sink : Sink K) (old : Dump K) (model : ModelData) (event : Event) (new : Dump K)
    : Type 0 where
  -- As long as nothing went wrong, its transfers are drawn from the next clock cycle on.
  pub drawn : IsNone new.fault
      → Appends (told sink.written old) (told sink.written new) (event_drawn (told_of model event) old.wave.cycle)
  pub cycle : IsNone new.fault → new.wave.cycle ≡ cycle_behind_event (told_of model event) old.wave.cycle
  -- Whatever went wrong, a front was written of what was kept back and of this.
  pub front : AppendsFront (sink.written old.sink) (sink.written new.sink)
      (old.wave.text.items ++ event_drawn (told_of model event) old.wave.cycle)
  -- Once something went wrong, nothing is done any more.
  pub silent : IsSome old.fault → new ≡ old
  -- It goes wrong for a cause.
  pub cause : IsNone old.fault → new.fault ≡ Some SinkFailed → Rose (sink.faults old.sink) (sink.faults new.sink)
  pub full : IsNone old.fault → new.fault ≡ Some Full → RunsOut model.layout event.trace old.wave.cycle
  pub later : sink.faults old.sink ≤ sink.faults new.sink
  pub ends_kept : sink.ends new.sink ≡ sink.ends old.sink

-- ---- all events

-- A dump over a layout has these events, and was begun when its sink was so.
pub record HasEvents {K : Type 0} (sink : Sink K) (before : K) (l : LayoutData) (events : List Told) (d : Dump K)
    : Type 0 where
  -- As long as nothing went wrong, exactly its text was told, and the next clock cycle is the one behind it.
  pub whole : IsNone d.fault → Appends (sink.written before) (told sink.written d) (dump_text l events)
  pub cycle : IsNone d.fault → d.wave.cycle ≡ cycle_behind_events events 1
  -- Whatever went wrong, a front of the text was written.
  pub front : AppendsFront (sink.written before) (sink.written d.sink) (dump_text l events)
  -- It ended early by the sink only where this has failed, and by its length only where no further cycle can be
  -- counted.
  pub cause : d.fault ≡ Some SinkFailed → Rose (sink.faults before) (sink.faults d.sink)
  pub full : d.fault ≡ Some Full → EventsRunOut events 1
  pub later : sink.faults before ≤ sink.faults d.sink
  pub ends_kept : sink.ends d.sink ≡ sink.ends before

-- It was ended from where it stood: as long as nothing went wrong, what was kept back was written, and its sink was
-- ended.
pub record Closes {K : Type 0} (sink : Sink K) (d : Dump K) (fault : Option Fault) (now : K) : Type 0 where
  pub whole : IsNone fault → Keeps (told sink.written d) (sink.written now)
  pub ended : IsNone fault → Rose (sink.ends d.sink) (sink.ends now)
  -- A front of what was kept back is written in any case, and only the sink can fail.
  pub front : AppendsFront (sink.written d.sink) (sink.written now) d.wave.text.items
  pub only : IsNone d.fault → IsSome fault → fault ≡ Some SinkFailed
  pub cause : IsNone d.fault → fault ≡ Some SinkFailed → Rose (sink.faults d.sink) (sink.faults now)
  -- Once something went wrong, nothing is done.
  pub silent : IsSome d.fault → (fault ≡ d.fault) × (now ≡ d.sink)

-- A dump over a layout has these events, from its first byte to its end, or up to a fault.
pub record IsDumpOf {K : Type 0} (sink : Sink K) (before : K) (l : LayoutData) (events : List Told)
    (fault : Option Fault)
    (now : K) : Type 0 where
  -- As long as nothing went wrong, exactly its text was written: the header, and behind it the transfers of these
  -- events in order. Its sink was ended then.
  pub whole : IsNone fault → Appends (sink.written before) (sink.written now) (dump_text l events)
  pub ended : IsNone fault → Rose (sink.ends before) (sink.ends now)
  -- Whatever went wrong, a front of the text was written.
  pub front : AppendsFront (sink.written before) (sink.written now) (dump_text l events)
  -- It ended early by the sink only where this has failed, and by its length only where no further cycle can be
  -- counted. Else memory ran out.
  pub cause : fault ≡ Some SinkFailed → Rose (sink.faults before) (sink.faults now)
  pub full : fault ≡ Some Full → EventsRunOut events 1
