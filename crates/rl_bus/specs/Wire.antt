-- What the transfers and responses of each form stand for.
use Rattle.std.specs.Prelude.{◌≡◌, ℕ, ◌≤◌, ◌%◌, if◌then◌else◌, IsTrue, IsFalse}
use Rattle.rl_bus.specs.declared.op.AdapterKind.{AdapterKind}
use Rattle.rl_bus.specs.declared.op.Answer.{Answer}
use Rattle.rl_bus.specs.declared.op.BusOp.{BusOp}
use Rattle.rl_bus.specs.declared.transfer.Transfer.{Transfer}
use Rattle.rl_bus.specs.declared.transfer.Transfer.TheVariants as form
use Rattle.rl_bus.specs.declared.transfer.Response.{Response}
use Rattle.rl_bus.specs.declared.transfer.Response.TheVariants as reply
use Rattle.rl_bus.specs.Lanes.{all_lanes, IsWord}

-- The operation in a transfer (uvm_reg_adapter::reg2bus, IEEE 1800.2-2017, 19.2). Over APB it is by PWRITE, PADDR,
-- PWDATA and PSTRB of ARM IHI 0024.
abbrev pub carried_by : Transfer → BusOp
carried_by (form.Plain plain) = plain.op
carried_by (form.Apb apb) = record {
  write = apb.write;
  address = apb.paddr;
  word = apb.pwdata;
  lanes = if apb.write then apb.pstrb else all_lanes apb.bytes;
  bytes = apb.bytes;
}

-- the tag or serial of a transfer
abbrev pub tag_of : Transfer → ℕ
tag_of (form.Plain plain) = plain.tag
tag_of (form.Apb apb) = apb.serial

-- the widths, lanes and words that a bus has
abbrev pub IsWellFormed : Transfer → Type 0
IsWellFormed (form.Plain plain) = IsWord plain.op.bytes plain.op.lanes plain.op.word
IsWellFormed (form.Apb apb) = IsWord apb.bytes apb.pstrb apb.pwdata × (apb.bytes ≤ 4)

-- a response has the form and the tag of a transfer
abbrev pub IsReplyTo : Transfer → Response → Type 0
IsReplyTo (form.Plain plain) (reply.Plain response) = response.tag ≡ plain.tag
IsReplyTo (form.Plain plain) (reply.Apb response) = ⊥
IsReplyTo (form.Apb apb) (reply.Plain response) = ⊥
IsReplyTo (form.Apb apb) (reply.Apb response) = response.serial ≡ apb.serial

-- A response without wait cycles: PREADY is high in the first cycle of the access phase (ARM IHI 0024).
abbrev pub IsAtOnce : Response → Type 0
IsAtOnce (reply.Plain response) = Unit {0}
IsAtOnce (reply.Apb response) = response.waits ≡ 0

-- What a response answers (uvm_reg_adapter::bus2reg, IEEE 1800.2-2017, 19.2). Over APB it is by PRDATA and PSLVERR of
-- ARM IHI 0024.
abbrev pub answered_by : Response → Answer
answered_by (reply.Plain response) = record { word = response.word; failed = response.failed }
answered_by (reply.Apb response) = record { word = response.prdata; failed = response.pslverr }

-- An operation that a kind carries. Whether it has byte enables is uvm_reg_adapter::supports_byte_enable (IEEE
-- 1800.2-2017, 19.2), here one answer for writes and one for reads; the limits are this project's own.
pub record Fits (kind : AdapterKind) (op : BusOp) : Type 0 where
  pub word : IsWord op.bytes op.lanes op.word
  pub wide : op.bytes ≤ kind.most_bytes
  pub address : op.address ≤ kind.most_address
  pub aligned : IsTrue kind.aligned → op.address % op.bytes ≡ 0
  pub write_lanes : IsTrue op.write → IsFalse kind.write_lanes → op.lanes ≡ all_lanes op.bytes
  pub read_lanes : IsFalse op.write → IsFalse kind.read_lanes → op.lanes ≡ all_lanes op.bytes
  pub read_word : IsFalse op.write → op.word ≡ 0
