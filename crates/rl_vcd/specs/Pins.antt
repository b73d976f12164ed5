-- The pins of a transfer by cycle, and their changes.
use Rattle.std.specs.Prelude.{ℕ, List, [], ◌∷◌, ◌+◌, ◌*◌, ◌==◌, ◌&&◌, nat_lt, true, false, if◌then◌else◌}
use Rattle.rl_bus.specs.declared.transfer.ApbTransfer.{ApbTransfer}
use Rattle.rl_bus.specs.declared.transfer.ApbResponse.{ApbResponse}
use Rattle.rl_apb.specs.declared.pins.Pins.{Pins}
use Rattle.rl_vcd.specs.declared.pins.Bus.{Bus}
use Rattle.rl_vcd.specs.Signals.{joined, bit_change, word_change}

-- between transfers each pin is low
abbrev pub idle : Pins
idle = record {
  psel = false;
  penable = false;
  pwrite = false;
  pprot = 0;
  paddr = 0;
  pwdata = 0;
  pstrb = 0;
  pready = false;
  prdata = 0;
  pslverr = false;
}

-- in cycle `k` of a transfer: the setup phase is cycle 0, and the last one is `waits + 1`
abbrev pub pins_at : ApbTransfer → ApbResponse → (k : ℕ) → Pins
pins_at t r k = record {
  psel = true;
  penable = nat_lt 0 k;
  pwrite = t.write;
  pprot = 0;
  paddr = t.paddr;
  pwdata = if t.write then t.pwdata else 0;
  pstrb = if t.write then t.pstrb else 0;
  pready = k == r.waits + 1;
  prdata = if k == r.waits + 1 then r.prdata else 0;
  pslverr = k == r.waits + 1 && r.pslverr;
}

-- the pins that change, in the order of their declaration; PPROT is always 0
abbrev pub changes : Bus → (before after : Pins) → List ℕ
changes b p q = joined (
    bit_change 115 b.number p.psel q.psel
    ∷ bit_change 101 b.number p.penable q.penable
    ∷ word_change 97 b.number 32 p.paddr q.paddr
    ∷ bit_change 119 b.number p.pwrite q.pwrite
    ∷ word_change 100 b.number (8 * b.bytes) p.pwdata q.pwdata
    ∷ word_change 98 b.number b.bytes p.pstrb q.pstrb
    ∷ bit_change 114 b.number p.pready q.pready
    ∷ word_change 113 b.number (8 * b.bytes) p.prdata q.prdata
    ∷ bit_change 120 b.number p.pslverr q.pslverr
    ∷ [])
