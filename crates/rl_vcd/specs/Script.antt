-- A script as its lines are read, run, drawn and written.
use Rattle.std.specs.Prelude.{◌≡◌, ℕ, List, Bool, Option}
use Rattle.rl_log.specs.declared.status.Status.{Status}
use Rattle.rl_log.specs.declared.status.Status.TheVariants.{SourceFault}
use Rattle.rl_play.specs.AnyDevice.{Point, moment_at}
use Rattle.rl_play.specs.Played.{BreaksFrom, Ends, PlaysLine}
use Rattle.rl_play.specs.declared.playing.Turn.{Turn}
use Rattle.rl_play.specs.declared.playing.Turn.TheVariants.{Next, Stop}
use Rattle.rl_report.specs.declared.sink.Sink.{Ghosts as Sink}
use Rattle.rl_vcd.specs.declared.dump.Dump.{Dump}
use Rattle.rl_vcd.specs.Lines.{DrawsInput, DrawsWithRest}

-- The next line was read and run, and its log written, as `play` of `rl_play` does; and exactly its events were drawn.
pub record DrawsLine {K : Type 0} (sink : Sink K) (number : ℕ) (before : Point) (input : Option (List ℕ))
    (after : Point)
    (rest left : Option (List ℕ)) (ended : Bool) (old new : Dump K) (turn : Turn) : Type 0 where
  pub plays : PlaysLine number before input after rest left ended turn
  pub draws_next : turn ≡ Next → DrawsWithRest sink number before input after rest ended old new
  pub draws_stop : (status : Status) → turn ≡ Stop status
      → DrawsInput sink number before input left after status old new

-- The lines that are left were run. `left` is what the source has then.
pub record DrawsScript {K : Type 0} (sink : Sink K) (before : Point) (input left : Option (List ℕ)) (after : Point)
    (old new : Dump K) (status : Status) : Type 0 where
  -- Exactly the events that the log tells were drawn; after a source that failed, those of the lines taken whole.
  pub draws : DrawsInput sink 1 before input left after status old new
  -- The log is the judged one, or a front of it.
  pub log : Ends 1 (moment_at before) input (moment_at after) status
  pub at_fault : status ≡ SourceFault → BreaksFrom 1 (moment_at before) input left after.text
