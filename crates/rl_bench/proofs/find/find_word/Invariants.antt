use Rattle.std.proofs.Common.{◌≡◌, length, take, ◌≤◌}
use Rattle.std.specs.Prelude.{slice_get, filter, option_copied}
use Rattle.rl_bus.specs.Setup.{stands_for}
use Rattle.rl_bench.proofs.find.find_word.Given as goal

abbrev pub invariant-loop-k : goal.invariant-loop-k
invariant-loop-k l = record {
  found : option_copied l.found ≡ slice_get (filter (stands_for l.port l.address l.write) (take l.k l.words)) l.beat;
  count : l.count ≡ length (filter (stands_for l.port l.address l.write) (take l.k l.words));
  behind : l.count ≤ l.k;
}
