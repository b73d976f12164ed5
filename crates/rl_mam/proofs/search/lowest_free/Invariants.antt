use Rattle.std.proofs.Common.{◌≡◌, ◌≤◌, drop}
use Rattle.rl_mam.specs.Regions.{AreApart}
use Rattle.rl_mam.proofs.FreeRuns.{search_from}
use Rattle.rl_mam.proofs.search.lowest_free.Given as goal

abbrev pub invariant-loop-region : goal.invariant-loop-region
invariant-loop-region l = record {
  rest : AreApart l.from l.size (drop l.region-index l.regions);
  inside : l.from ≤ l.size;
  same : search_from l.len l.size l.from l.longest (drop l.region-index l.regions) ≡ search_from l.len l.size 0 0 l.regions;
}
