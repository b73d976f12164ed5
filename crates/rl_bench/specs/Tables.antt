-- What the tables of a device say, as plain data.
use Rattle.rl_bus.specs.Setup.{Setup}
use Rattle.rl_bench.specs.declared.tables.Tables.{Tables}

abbrev pub setup_held : Tables → Setup
setup_held t = record {
  regs = t.regs.items;
  fields = t.fields.items;
  resets = t.resets.items;
  mems = t.mems.items;
  ports = t.ports.items;
  words = t.words.value.items;
  flaws = record {
    policies = t.other_policies.items;
    resets = t.other_resets.items;
    stuck = t.stuck.items;
    ranges = t.ranges.items;
    nths = t.nths.items;
    deaf = t.deaf.items;
  };
}
