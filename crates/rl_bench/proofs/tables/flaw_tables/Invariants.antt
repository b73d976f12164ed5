use Rattle.std.proofs.Common.{◌≡◌, drop}
use Rattle.rl_flaw.specs.Flaws.{flaws_of}
use Rattle.rl_bench.specs.FlawTables.{flaws_held}
use Rattle.rl_bench.proofs.FlawLemmas.{both}
use Rattle.rl_bench.proofs.tables.flaw_tables.Given as goal

abbrev pub invariant-loop-flaw : goal.invariant-loop-flaw
invariant-loop-flaw l = both (flaws_held l.tables) (flaws_of (drop l.flaw-index l.flaws)) ≡ flaws_of l.flaws
