-- What an adapter is to its callers: its kind, its next tag and its trail.
use Rattle.std.specs.Prelude.{ℕ, ◌+◌, ◌*◌, ◌%◌, ◌^◌, Bool, false, if◌then◌else◌, List, [], get_or, slice_set, map}
use Rattle.rl_bus.specs.declared.op.AdapterKind.{AdapterKind}
use Rattle.rl_bus.specs.declared.op.Answer.{Answer}
use Rattle.rl_bus.specs.declared.op.BusOp.{BusOp}

-- An adapter as its callers see it (uvm_reg_adapter, IEEE 1800.2-2017, 19.2). The tag and the trail are this project's
-- own.
pub record Standing : Type 0 where
  pub kind : AdapterKind
  pub tag : ℕ
  pub trail : ℕ

-- ---- the trail

-- the trail takes a number
abbrev pub taken : ℕ → ℕ → ℕ
taken trail x = (trail * 31 + x) % 2 ^ 64

abbrev pub bit_of : Bool → ℕ
bit_of b = if b then 1 else 0

-- the trail takes an operation
unfoldable pub op_taken : ℕ → BusOp → ℕ
op_taken trail op = taken (taken (taken (taken (taken trail (bit_of op.write)) op.address) op.word) op.lanes) op.bytes

-- the trail takes an answer
unfoldable pub answer_taken : ℕ → Answer → ℕ
answer_taken trail answer = taken (taken trail answer.word) (bit_of answer.failed)

-- ---- one adapter

-- After an operation went out (uvm_reg_adapter::reg2bus, IEEE 1800.2-2017, 19.2).
abbrev pub asked : Standing → BusOp → Standing
asked s op = record s { tag = (s.tag + 1) % 2 ^ 64; trail = op_taken s.trail op }

-- After its answer came in (uvm_reg_adapter::bus2reg, IEEE 1800.2-2017, 19.2).
abbrev pub told : Standing → Answer → Standing
told s answer = record s { trail = answer_taken s.trail answer }

-- after an operation and its answer
abbrev pub took : Standing → BusOp → Answer → Standing
took s op answer = told (asked s op) answer

-- ---- a list of adapters

-- past the end of the list
abbrev pub no_kind : AdapterKind
no_kind = record {
  name = [];
  most_bytes = 0;
  most_address = 0;
  aligned = false;
  write_lanes = false;
  read_lanes = false;
}

abbrev pub nobody : Standing
nobody = record { kind = no_kind; tag = 0; trail = 0 }

-- the adapter of that number
abbrev pub standing_at : List Standing → ℕ → Standing
standing_at all which = get_or all which nobody

-- the adapters after one of them took an operation and its answer: every other one is as it was
abbrev pub moved_on : List Standing → ℕ → BusOp → Answer → List Standing
moved_on all which op answer = slice_set all which (took (standing_at all which) op answer)

abbrev pub kind_in : Standing → AdapterKind
kind_in s = s.kind

-- the kinds in order
abbrev pub kinds_of : List Standing → List AdapterKind
kinds_of all = map kind_in all

-- the kind of that number
abbrev pub kind_at : List AdapterKind → ℕ → AdapterKind
kind_at kinds which = get_or kinds which no_kind
