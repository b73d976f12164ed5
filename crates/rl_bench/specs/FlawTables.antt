-- What the tables of flaws say, as plain data.
use Rattle.rl_bus.specs.Setup.{Flaws}
use Rattle.rl_bench.specs.declared.tables.FlawTables.{FlawTables}

abbrev pub flaws_held : FlawTables → Flaws
flaws_held t = record {
  policies = t.policies.items;
  resets = t.resets.items;
  stuck = t.stuck.items;
  ranges = t.ranges.items;
  nths = t.nths.items;
  deaf = t.deaf.items;
}
