-- When an item and an event fit a model.
use Rattle.std.specs.Prelude.{◌≡◌, true, ℕ, ◌^◌, ◌*◌, ◌<◌, ◌≤◌, Option, None, Some, length, All}
use Rattle.rl_map.specs.Layout.{LayoutData, port_at}
use Rattle.rl_model.specs.Rows.{ChipData}
use Rattle.rl_model.specs.Fields.{size_of, count_of}
use Rattle.rl_access.specs.declared.event.Event.{Event}
use Rattle.rl_access.specs.declared.event.Op.{Op}
use Rattle.rl_access.specs.declared.event.End.{End}
use Rattle.rl_access.specs.declared.event.End.TheVariants as end
use Rattle.rl_access.specs.declared.trace.TraceItem.{TraceItem}
use Rattle.rl_access.specs.Model.{ModelData}
use Rattle.rl_access.specs.Operation.{register_of, HasNumbers, digits_of, has_end}

-- an item has its port's bytes, and lanes and words that these hold
pub record ItemFits (l : LayoutData) (item : TraceItem) : Type 0 where
  pub port : item.port < length l.ports
  pub bytes : item.op.bytes ≡ (port_at l item.port).bytes
  pub lanes : item.op.lanes < 2 ^ item.op.bytes
  pub word : item.op.word < 256 ^ item.op.bytes
  pub answer : item.answer.word < 256 ^ item.op.bytes

-- a value read, or a word sent, has so many digits
abbrev pub IsEndWithin : ℕ → End → Type 0
IsEndWithin digits end.Done = Unit {0}
IsEndWithin digits (end.Value value) = value < 16 ^ digits
IsEndWithin digits (end.Sent word) = word < 16 ^ digits
IsEndWithin digits end.Nothing = Unit {0}
IsEndWithin digits (end.BusError word) = Unit {0}
IsEndWithin digits (end.Refused why) = Unit {0}

-- the values of a register have its digits, and each differing field is one of its fields;
-- of a memory the mark is 0 or 1
abbrev pub HasValues : ChipData → Option ℕ → Event → Type 0
HasValues c (Some reg) e =
    (e.mirrored < 16 ^ (2 * size_of c reg)) × (e.desired < 16 ^ (2 * size_of c reg)) × (e.differ < 2 ^ count_of c reg)
HasValues c None e = e.differ ≤ 1

-- an event that can be told of the model
pub record EventFits (m : ModelData) (e : Event) : Type 0 where
  pub ends : has_end e.op e.end ≡ true
  pub numbers : HasNumbers m.chip (length m.layout.maps) e.op
  pub values : HasValues m.chip (register_of m.chip e.op) e
  pub within : IsEndWithin (digits_of m.chip e.op) e.end
  pub items : All (ItemFits m.layout) e.trace

-- an operation on this register, which may end by a bus error
pub record IsToldFor (c : ChipData) (maps : ℕ) (op : Op) (reg : ℕ) : Type 0 where
  pub reg_in : reg < length c.regs
  pub register : register_of c op ≡ Some reg
  pub numbers : HasNumbers c maps op
  pub errors : (k : ℕ) → has_end op (end.BusError k) ≡ true

abbrev pub IsTold : ModelData → Op → ℕ → Type 0
IsTold m op reg = IsToldFor m.chip (length m.layout.maps) op reg
