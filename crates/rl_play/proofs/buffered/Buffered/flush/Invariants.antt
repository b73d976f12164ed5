-- What the sink tells stays, and so do its counts.
use Rattle.std.proofs.Common.{◌≡◌, ◌-◌, ◌≤◌}
use Rattle.std.specs.Io.KnownBytes.{Keeps, append_known}
use Rattle.rl_play.specs.Told.{kept_back}
use Rattle.rl_play.proofs.buffered.Buffered.flush.Given as goal

abbrev pub invariant-loop-self : goal.invariant-loop-self
invariant-loop-self g l =
    let written = g.K.Sink.written in
    record {
      told : Keeps (append_known (written l.initial.self.sink.now) (kept_back l.initial.self))
          (append_known (written l.self.sink.now) (kept_back l.self));
      later : g.K.Sink.faults l.initial.self.sink.now ≤ g.K.Sink.faults l.self.sink.now;
      idle : l.initial.self.end ≡ 0 → l.self.end ≡ 0;
      ends_kept : g.K.Sink.ends l.self.sink.now ≡ g.K.Sink.ends l.initial.self.sink.now;
      same_sink : l.self.sink.ghost_name ≡ l.initial.self.sink.ghost_name;
    }

abbrev pub decreases-loop-self : goal.decreases-loop-self
decreases-loop-self g l = l.self.end - l.self.start
