-- An item, and what the APB adapter made of it.
use Rattle.std.specs.Prelude.{◌≡◌, ℕ, ◌<◌, ◌^◌, List}
use Rattle.rl_access.specs.declared.trace.TraceItem.{TraceItem}
use Rattle.rl_bus.specs.Wire.{IsAtOnce, IsReplyTo, answered_by, carried_by, tag_of}
use Rattle.rl_bus.specs.declared.transfer.ApbResponse.{ApbResponse}
use Rattle.rl_bus.specs.declared.transfer.ApbTransfer.{ApbTransfer}
use Rattle.rl_bus.specs.declared.transfer.Response.TheVariants as reply
use Rattle.rl_bus.specs.declared.transfer.Transfer.TheVariants as form
use Rattle.rl_vcd.specs.Dump.{transfer_text}
use Rattle.rl_vcd.specs.Items.{response_of, transfer_of}
use Rattle.rl_vcd.specs.declared.pins.Bus.{Bus}

-- The item went over APB as this transfer, with this response, as `reg2bus` and `bus2reg` of an adapter promise and the
-- device answers. Addresses and words have 32 bits there.
pub record WentAs (item : TraceItem) (t : ApbTransfer) (r : ApbResponse) : Type 0 where
  pub carries : carried_by (form.Apb t) ≡ item.op
  pub tag : tag_of (form.Apb t) ≡ item.tag
  pub replies : IsReplyTo (form.Apb t) (reply.Apb r)
  pub answers : answered_by (reply.Apb r) ≡ item.answer
  pub at_once : IsAtOnce (reply.Apb r)
  pub address : t.paddr < 2 ^ 32
  pub written : t.pwdata < 2 ^ 32
  pub read : r.prdata < 2 ^ 32

-- What is drawn for an item is the text of the transfer and the response as which it went.
abbrev pub TransferIsDrawn : Type 0
TransferIsDrawn =
    (item : TraceItem) (t : ApbTransfer) (r : ApbResponse) → WentAs item t r → (bus : Bus) (label : List ℕ) (n : ℕ)
    → transfer_text bus label (transfer_of item) (response_of item) n ≡ transfer_text bus label t r n
