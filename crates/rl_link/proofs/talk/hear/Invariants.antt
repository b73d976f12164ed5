-- Only lines that say nothing were passed over, and each was counted.
use Rattle.std.proofs.Common.{◌≤◌, ◌+◌, ◌-◌, ◌^◌, min}
use Rattle.rl_link.specs.Coming.{coming, Skips, Takes}
use Rattle.rl_link.proofs.talk.hear.Given as goal

abbrev pub invariant-loop-passed : goal.invariant-loop-passed
invariant-loop-passed g l =
    let left = g.S.Source.left in
    record {
      skips : Skips (coming l.initial.held (left l.initial.source)) (coming l.held (left l.source));
      lines : Takes l.initial.lines l.lines (coming l.initial.held (left l.initial.source)) (coming l.held (left l.source));
      counted : min (l.initial.lines + l.passed) (2 ^ 64 - 1) ≤ l.lines;
      later : g.S.Source.faults l.initial.source ≤ g.S.Source.faults l.source;
    }
