-- The items of an event as APB transfers.
use Rattle.std.specs.Prelude.{ℕ, List, [], ◌∷◌, ◌++◌, ◌+◌, ◌%◌, ◌^◌, min, Bool, if◌then◌else◌, bytes_eq, codes}
use Rattle.rl_map.specs.declared.rows.PortRow.{PortRow}
use Rattle.rl_map.specs.Layout.{LayoutData, port_at, map_at}
use Rattle.rl_access.specs.declared.trace.TraceItem.{TraceItem}
use Rattle.rl_bus.specs.declared.transfer.ApbTransfer.{ApbTransfer}
use Rattle.rl_bus.specs.declared.transfer.ApbResponse.{ApbResponse}
use Rattle.rl_vcd.specs.declared.pins.Bus.{Bus}
use Rattle.rl_vcd.specs.Dump.{BusData, transfer_text}

-- the port goes through the APB adapter
abbrev pub is_apb : LayoutData → (port : ℕ) → Bool
is_apb l port = bytes_eq (port_at l port).kind.name (codes "apb")

abbrev pub bus_of : LayoutData → (port : ℕ) → Bus
bus_of l port = record { number = port; bytes = min (port_at l port).bytes 4 }

-- what the APB adapter makes of an item: pins have 32 bits at most
abbrev pub transfer_of : TraceItem → ApbTransfer
transfer_of item = record {
  write = item.op.write;
  paddr = item.op.address % 2 ^ 32;
  pwdata = item.op.word % 2 ^ 32;
  pstrb = item.op.lanes;
  bytes = item.op.bytes;
  serial = item.tag;
}

-- the response with its answer, without wait cycles
abbrev pub response_of : TraceItem → ApbResponse
response_of item =
    record { prdata = item.answer.word % 2 ^ 32; pslverr = item.answer.failed; waits = 0; serial = item.tag }

-- an item that goes on in clock cycle `n`, and the cycle behind it
abbrev pub item_text : LayoutData → (label : List ℕ) → TraceItem → (n : ℕ) → List ℕ
item_text l label item n =
    if is_apb l item.port then transfer_text (bus_of l item.port) label (transfer_of item) (response_of item) n else []

abbrev pub cycle_behind : LayoutData → TraceItem → (n : ℕ) → ℕ
cycle_behind l item n = if is_apb l item.port then n + 3 else n

-- the items of an event, one after another
abbrev pub items_text : LayoutData → (label : List ℕ) → (items : List TraceItem) → (n : ℕ) → List ℕ
items_text l label [] n = []
items_text l label (item ∷ items) n = item_text l label item n ++ items_text l label items (cycle_behind l item n)

abbrev pub cycle_after : LayoutData → (items : List TraceItem) → (n : ℕ) → ℕ
cycle_after l [] n = n
cycle_after l (item ∷ items) n = cycle_after l items (cycle_behind l item n)

-- ---- the buses of a layout

-- those of its ports from number `k` on that go through the APB adapter, each by the name of its root map
abbrev pub buses_from : LayoutData → List PortRow → (k : ℕ) → List BusData
buses_from l [] k = []
buses_from l (port ∷ ports) k =
    if bytes_eq port.kind.name (codes "apb")
    then record { name = (map_at l port.map).name; bus = record { number = k; bytes = min port.bytes 4 } }
    ∷ buses_from l ports (k + 1)
    else buses_from l ports (k + 1)

abbrev pub buses_of : LayoutData → List BusData
buses_of l = buses_from l l.ports 0
