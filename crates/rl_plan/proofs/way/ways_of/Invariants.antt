-- The item's places before this one were appended.
use Rattle.std.proofs.Common.{◌≡◌}
use Rattle.rl_plan.specs.Plan.{ways_of}
use Rattle.rl_plan.proofs.way.ways_of.Given as goal

abbrev pub invariant-loop-place : goal.invariant-loop-place
invariant-loop-place l = l.ways.items ≡ ways_of l.layout l.item l.place
