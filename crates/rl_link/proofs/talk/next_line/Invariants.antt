-- What comes stays, and more of it is held.
use Rattle.std.proofs.Common.{◌≤◌, ◌-◌, length}
use Rattle.std.specs.Io.KnownBytes.{Keeps}
use Rattle.rl_link.specs.Coming.{coming}
use Rattle.rl_link.proofs.talk.next_line.Given as goal

abbrev pub invariant-loop-len : goal.invariant-loop-len
invariant-loop-len g l =
    let left = g.S.Source.left in
    record {
      kept : Keeps (coming l.initial.held (left l.initial.source)) (coming l.held (left l.source));
      later : g.S.Source.faults l.initial.source ≤ g.S.Source.faults l.source;
    }

abbrev pub decreases-loop-len : goal.decreases-loop-len
decreases-loop-len g l = 4098 - length l.held
