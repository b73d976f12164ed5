-- Only lines that say nothing were passed over, and each was counted.
use Rattle.std.proofs.Common.{ℕ, ◌≤◌, ◌-◌, ◌^◌, min, List, length}
use Rattle.std.specs.declared.option.Option.{Option}
use Rattle.rl_link.specs.Coming.{coming, Skips, Takes}
use Rattle.rl_link.proofs.talk.skim.Given as goal

abbrev pub invariant-loop-len : goal.invariant-loop-len
invariant-loop-len g l = record {
  skips : (left : Option (List ℕ)) → Skips (coming l.initial.held left) (coming l.held left);
  lines : (left : Option (List ℕ)) → Takes l.initial.lines l.lines (coming l.initial.held left) (coming l.held left);
  later : min l.initial.lines (2 ^ 64 - 1) ≤ l.lines;
}

abbrev pub decreases-loop-len : goal.decreases-loop-len
decreases-loop-len g l = length l.held
