-- The kind of the Wishbone adapter.
use Rattle.std.specs.Prelude.{true, codes}
use Rattle.rl_bus.specs.declared.op.AdapterKind.{AdapterKind}

abbrev pub wishbone_kind : AdapterKind
wishbone_kind = record {
  name = codes "wishbone";
  most_bytes = 8;
  most_address = 0xffff_ffff;
  aligned = true;
  write_lanes = true;
  read_lanes = true;
}
