-- The description stays, and each answer that is known is that of its flaw alone.
use Rattle.std.proofs.Common.{◌≡◌}
use Rattle.rl_grade.specs.Batch.{AreKnown}
use Rattle.rl_grade.proofs.together.try_rounds.Given as goal

abbrev pub invariant-loop : goal.invariant-loop
invariant-loop g l = record {
  same : l.rounds.desc ≡ l.fn.desc;
  known : AreKnown l.fn.desc l.tasks l.shown.seen.items l.flaws l.rounds.known.items;
}
