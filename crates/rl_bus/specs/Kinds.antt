-- The kind of the plain adapter.
use Rattle.std.specs.Prelude.{true, codes, false}
use Rattle.rl_bus.specs.declared.op.AdapterKind.{AdapterKind}

-- It carries byte enables in both directions (uvm_reg_adapter::supports_byte_enable, IEEE 1800.2-2017, 19.2). Its bus
-- is this project's own.
abbrev pub plain_kind : AdapterKind
plain_kind = record {
  name = codes "plain";
  most_bytes = 8;
  most_address = 0xffff_ffff_ffff_ffff;
  aligned = false;
  write_lanes = true;
  read_lanes = true;
}
