-- What was drawn of lines, against what their log has.
use Rattle.std.specs.Prelude.{◌≡◌, ℕ, ◌+◌, List, Bool, false, Option, Some, None, IfSome, Result, Ok, Err}
use Rattle.rl_access.specs.declared.event.Tally.{Tally}
use Rattle.rl_access.specs.HandsOver.{TakesAll}
use Rattle.rl_bus.specs.declared.device.Failed.{Failed}
use Rattle.rl_log.specs.declared.refusal.LineRefusal.{LineRefusal}
use Rattle.rl_log.specs.declared.status.Status.{Status}
use Rattle.rl_log.specs.declared.status.Status.TheVariants.{SinkFault, SourceFault}
use Rattle.rl_play.specs.AnyDevice.{LogsTallied, Plays, Point, RanWhole, RunsTaken, StopsAt, told_at, told_by}
use Rattle.rl_play.specs.Work.{Work}
use Rattle.rl_play.specs.declared.playing.Turn.{Turn}
use Rattle.rl_play.specs.declared.playing.Turn.TheVariants.{Next, Stop}
use Rattle.rl_report.specs.Lines.{lines_of, whole_lines}
use Rattle.rl_report.specs.declared.sink.Sink.{Ghosts as Sink}
use Rattle.rl_vcd.specs.declared.dump.Dump.{Dump}
use Rattle.rl_vcd.specs.Noted.{Notes}

-- each event of some work was written and counted, and exactly these were drawn
pub record DrawsTallied {K E : Type 0} (sink : Sink K) (work : Work) (before after : Point) (old new : Dump K)
    (r : Result Tally E) : Type 0 where
  pub logs : LogsTallied work before after r
  pub drawn : TakesAll (Notes sink) old logs.logs.told new

-- ---- a line

-- it was run, written and counted, and exactly its events were drawn
pub record DrawsWhole {K : Type 0} (sink : Sink K) (given : Result Work LineRefusal) (before after : Point)
    (old new : Dump K) : Type 0 where
  pub ran : RanWhole given before after
  pub drawn : TakesAll (Notes sink) old ran.told new

-- the script ended at it, and exactly the events that it did there were drawn
pub record DrawsStop {K : Type 0} (sink : Sink K) (number : ℕ) (given : Result Work LineRefusal) (before after : Point)
    (status : Status) (old new : Dump K) : Type 0 where
  pub stops : StopsAt number given before after status
  pub drawn : TakesAll (Notes sink) old (told_at stops.close) new

-- a line that asks for this was run, or a name of it isn't there and nothing was done, or the log failed
abbrev pub DrawsOn : {K : Type 0} → Sink K → (given : Result Work LineRefusal) → (before after : Point)
    → (old new : Dump K) → Result (Option LineRefusal) Failed → Type 0
DrawsOn sink given before after old new (Ok None) = DrawsWhole sink given before after old new
DrawsOn sink given before after old new (Ok (Some why)) = (given ≡ Err why) × (after ≡ before) × (new ≡ old)
DrawsOn sink given before after old new (Err failed) =
    (number : ℕ) → DrawsStop sink number given before after SinkFault old new

-- a line of that number was run, or the script ended at it
abbrev pub DrawsTurn : {K : Type 0} → Sink K → (number : ℕ) → (given : Result Work LineRefusal) → (before after : Point)
    → (old new : Dump K) → Turn → Type 0
DrawsTurn sink number given before after old new Next = DrawsWhole sink given before after old new
DrawsTurn sink number given before after old new (Stop s) = DrawsStop sink number given before after s old new

-- ---- a script

-- The lines of some bytes were played, of which the source has this left: what was written is the text of their events,
-- or a front of it where the log failed; and what was drawn are exactly these events, in order.
pub record DrawsLines {K : Type 0} (sink : Sink K) (number : ℕ) (before : Point) (bytes : List ℕ)
    (left : Option (List ℕ)) (after : Point) (status : Status) (old new : Dump K) : Type 0 where
  pub plays : Plays number before (lines_of bytes) after status
  pub drawn : TakesAll (Notes sink) old (told_by plays.done plays.close) new
  -- after a source that failed these are exactly the lines that were taken whole
  pub at_fault : status ≡ SourceFault → RunsTaken whole_lines bytes left plays.done plays.close

-- the lines of an input, where the source tells its bytes
abbrev pub DrawsInput : {K : Type 0} → Sink K → (number : ℕ) → (before : Point) → (input left : Option (List ℕ))
    → (after : Point) → Status → (old new : Dump K) → Type 0
DrawsInput sink number before input left after s old new =
    IfSome input (λ bytes. DrawsLines sink number before bytes left after s old new)

-- As what is left of it behind a line is drawn, the whole is. Where the source fails later, it had not ended before.
abbrev pub DrawsWithRest : {K : Type 0} → Sink K → (number : ℕ) → (before : Point) → (input : Option (List ℕ))
    → (after : Point) → (rest : Option (List ℕ)) → (ended : Bool) → (old mid : Dump K) → Type 0
DrawsWithRest {K} sink number before input after rest ended old mid =
    (left : Option (List ℕ)) (last : Point) (status : Status) (new : Dump K) → (status ≡ SourceFault → ended ≡ false)
    → DrawsInput sink (number + 1) after rest left last status mid new
    → DrawsInput sink number before input left last status old new
