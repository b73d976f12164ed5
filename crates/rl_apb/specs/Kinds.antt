-- The kind of the APB adapter.
use Rattle.std.specs.Prelude.{true, false, codes}
use Rattle.rl_bus.specs.declared.op.AdapterKind.{AdapterKind}

-- PSTRB of ARM IHI 0024 enables the bytes of a write, and a read has no enables. The limits are this project's own.
abbrev pub apb_kind : AdapterKind
apb_kind = record {
  name = codes "apb";
  most_bytes = 4;
  most_address = 0xffff_ffff;
  aligned = true;
  write_lanes = true;
  read_lanes = false;
}
