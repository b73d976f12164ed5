-- What an access may reach.
use Rattle.std.specs.Prelude.{◌≡◌, ℕ, ◌+◌, ◌*◌, ◌^◌, ◌<◌, ◌≤◌, List, length, All, None, Bool, if◌then◌else◌}
use Rattle.rl_bus.specs.declared.op.BusOp.{BusOp}
use Rattle.rl_model.specs.declared.rows.Field.{Field}
use Rattle.rl_model.specs.declared.rows.Item.{Item}
use Rattle.rl_model.specs.Rows.{ChipData}
use Rattle.rl_map.specs.Layout.{LayoutData, place_at, IsLocation}
use Rattle.rl_split.specs.Access.{IsChoice, joined}
use Rattle.rl_split.specs.declared.access.Outgoing.{Outgoing}
use Rattle.rl_access.specs.declared.access.Access.{Access}
use Rattle.rl_access.specs.declared.event.End.{End}
use Rattle.rl_access.specs.declared.event.End.TheVariants as end
use Rattle.rl_access.specs.declared.trace.TraceItem.{TraceItem}
use Rattle.rl_access.specs.Items.{failed_at, words_answered}
use Rattle.rl_access.specs.Model.{ModelData}

-- a register, a place with a location 0, some of its bytes, and a value that these hold
pub record IsAccessFor (c : ChipData) (l : LayoutData) (a : Access) : Type 0 where
  pub reg : a.reg < length c.regs
  pub location : IsLocation l a.place 0
  pub chosen : IsChoice (place_at l a.place).bytes a.chosen
  pub value : a.value < 256 ^ (place_at l a.place).bytes

abbrev pub IsAccessOn : ModelData → Access → Type 0
IsAccessOn m a = IsAccessFor m.chip m.layout a

abbrev pub HasBytes : ℕ → List BusOp → Type 0
HasBytes bytes ops = All (λ op. op.bytes ≡ bytes) ops

-- a write of an access, or a read, word by word
abbrev pub outgoing_of : Access → Bool → Outgoing
outgoing_of a write = record {
  place = a.place;
  index = 0;
  chosen = a.chosen;
  value = if write then a.value else 0;
  write = write;
}

-- what the answers to a read bring, where no item failed
abbrev pub IsBrought : LayoutData → Outgoing → List TraceItem → ℕ → Type 0
IsBrought l s items value = failed_at items ≡ None → value ≡ joined l s.place s.index s.chosen (words_answered items)

-- a value read is below a limit
abbrev pub IsValueWithin : ℕ → End → Type 0
IsValueWithin limit end.Done = ⊥
IsValueWithin limit (end.Value value) = value < limit
IsValueWithin limit (end.Sent word) = ⊥
IsValueWithin limit end.Nothing = ⊥
IsValueWithin limit (end.BusError word) = Unit {0}
IsValueWithin limit (end.Refused why) = ⊥

-- a place of the item
pub record IsPlaceIn (l : LayoutData) (item : Item) (place : ℕ) : Type 0 where
  pub inside : place < length l.places
  pub item_is : (place_at l place).item ≡ item

abbrev pub IsPlaceFor : ModelData → Item → ℕ → Type 0
IsPlaceFor m item place = IsPlaceIn m.layout item place

-- a field of a register of so many bytes
pub record IsFieldIn (bytes : ℕ) (f : Field) : Type 0 where
  pub some : 1 ≤ f.width
  pub inside : f.lsb + f.width ≤ 8 * bytes
  pub most : bytes ≤ 8
