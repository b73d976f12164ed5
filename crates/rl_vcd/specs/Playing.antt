-- A session while its script is played.
use Rattle.std.specs.Prelude.{◌≡◌, ℕ, List, Option, Some, Result}
use Rattle.rl_access.specs.Call.{scene}
use Rattle.rl_access.specs.Model.{IsReady}
use Rattle.rl_bench.specs.State.{bench_state, failures_of}
use Rattle.rl_bus.specs.Account.{without_peer}
use Rattle.rl_bus.specs.Standing.{Standing}
use Rattle.rl_bus.specs.declared.device.Failed.{Failed}
use Rattle.rl_log.specs.declared.refusal.LineRefusal.{LineRefusal}
use Rattle.rl_play.specs.AnyDevice.{Point}
use Rattle.rl_play.specs.Leaves.{Leaves, NotByCounts, StaysReady, stop_of}
use Rattle.rl_play.specs.Work.{Work}
use Rattle.rl_play.specs.declared.playing.Turn.{Turn}
use Rattle.rl_report.specs.Pieces.{SinkStays}
use Rattle.rl_report.specs.declared.sink.Sink.{Ghosts as Sink}
use Rattle.rl_vcd.specs.Lines.{DrawsOn, DrawsTurn}
use Rattle.rl_vcd.specs.declared.recorder.Drawing.{Drawing}
use Rattle.rl_vcd.specs.declared.session.Session.{Session}

-- where a session stands on the device model, with the adapters as their callers see them
abbrev pub spot_of : {L K : Type 0} → Sink L → Session L K → (adapters : List Standing) → Point
spot_of log s adapters = record {
  scene = scene s.model.now adapters (without_peer (failures_of s.bench.now)) (Some (bench_state s.bench.now));
  text = log.written s.pen.log.now;
  counts = s.pen.counts;
}

-- adapters and device belong to the model
abbrev pub CanRun : {L K : Type 0} → (adapters : List Standing) → Session L K → Type 0
CanRun adapters s = IsReady s.model.now adapters (Some (bench_state s.bench.now))

-- its log and its dump are the same
pub record IsSamePen {L K : Type 0} (old new : Drawing L K) : Type 0 where
  pub log : new.log.ghost_name ≡ old.log.ghost_name
  pub dump : new.dump.ghost_name ≡ old.dump.ghost_name

-- A line that asks for this was run and drawn, or a name of it isn't there, or the log failed; and the next call may
-- follow, with the same log and dump. `adapters` stood before, and `now` do after.
pub record RunsLine {L K : Type 0} (log : Sink L) (sink : Sink K) (given : Result Work LineRefusal)
    (adapters now : List Standing) (old new : Session L K) (result : Result (Option LineRefusal) Failed) : Type 0 where
  pub draws : DrawsOn sink given (spot_of log old adapters) (spot_of log new now) old.pen.dump.now new.pen.dump.now result
  pub ready : StaysReady old.model.now new.model.now now (Some (bench_state new.bench.now))
  pub stays : SinkStays log old.pen.log.now new.pen.log.now result
  pub same : IsSamePen old.pen new.pen

-- A line of that number, which asks for this, was run and drawn, or the script ended at it; so the session is left.
pub record RunsTurn {L K : Type 0} (log : Sink L) (sink : Sink K) (number : ℕ) (given : Result Work LineRefusal)
    (adapters now : List Standing) (old new : Session L K) (turn : Turn) : Type 0 where
  pub draws : DrawsTurn sink number given (spot_of log old adapters) (spot_of log new now)
      old.pen.dump.now new.pen.dump.now turn
  pub counted : NotByCounts (stop_of turn)
  pub ready : StaysReady old.model.now new.model.now now (Some (bench_state new.bench.now))
  pub leaves : Leaves log 0 0 old.pen.log.now new.pen.log.now (stop_of turn)
  pub same : IsSamePen old.pen new.pen
