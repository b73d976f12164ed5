-- A bank as data: the entries behind a window, in the device and in the model.
use Rattle.std.specs.Prelude.{◌≡◌, ℕ, ◌<◌, ◌≤◌, ◌==◌, nat_lt, not, ◌&&◌, Bool, if◌then◌else◌, List, length, replicate, slice_index}
use Rattle.std.specs.Prelude.{slice_set, Option, None, Some, option_map, Result, Err, MatchOption, MatchResult}
use Rattle.std.specs.Option.{option_map_or}
use Rattle.rl_bus.specs.State.{State, peeked, poked}
use Rattle.rl_bus.specs.declared.table.Cell.TheVariants as cell
use Rattle.rl_model.specs.Fields.{size_of}
use Rattle.rl_model.specs.Rows.{ChipData}
use Rattle.rl_model.specs.Rules.{or_else}
use Rattle.rl_mirror.specs.Mirror.{mirrored_of}
use Rattle.rl_access.specs.Model.{ModelData}
use Rattle.rl_access.specs.Rules.{taking_raw}
use Rattle.rl_indirect.specs.declared.window.Window.{Window}
use Rattle.rl_indirect.specs.declared.window.WindowFault.{WindowFault}
use Rattle.rl_indirect.specs.declared.window.WindowFault.TheVariants.{Memory}
use Rattle.rl_indirect.specs.Window.{window_fault, outside_fault}

-- ---- the entries of one side

-- what is kept of each entry, and which one is selected: that one stands in the data register
pub record EntryData : Type 0 where
  pub kept : List ℕ
  pub selected : ℕ

pub record AreEntries (e : EntryData) : Type 0 where
  pub few : length e.kept ≤ 65536
  pub selected : e.selected < length e.kept

-- the entries in order, where the data register holds `held`
abbrev pub entries_of : EntryData → (held : ℕ) → List ℕ
entries_of e held = slice_set e.kept e.selected held

-- so many entries that are all alike
abbrev pub all_entries : (value size selected : ℕ) → EntryData
all_entries value size selected = record { kept = replicate size value; selected = selected }

-- what the data register held is kept, and entry k is selected
abbrev pub selecting : EntryData → (held k : ℕ) → EntryData
selecting e held k = record { kept = slice_set e.kept e.selected held; selected = k }

-- the index is that of another entry than the selected one
abbrev pub selects_other : EntryData → (index : ℕ) → Bool
selects_other e index = nat_lt index (length e.kept) && not (index == e.selected)

-- the entries once they follow the index
abbrev pub settled : EntryData → (held index : ℕ) → EntryData
settled e held index = if selects_other e index then selecting e held index else e

-- the entry that goes into the data register then
abbrev pub moved : EntryData → (index : ℕ) → Option ℕ
moved e index = if selects_other e index then Some (slice_index e.kept index) else None

-- ---- a bank

-- Its window, how many entries there are behind it (uvm_reg_indirect_data, IEEE 1800.2-2017, 18.7), the bytes of the
-- data register, and the entries of either side. What is kept of them is this project's own.
pub record BankData : Type 0 where
  pub window : Window
  pub size : ℕ
  pub bytes : ℕ
  pub device : EntryData
  pub model : EntryData

-- so many entries, of which one is selected
pub record IsSide (size : ℕ) (e : EntryData) : Type 0 where
  pub many : length e.kept ≡ size
  pub selected : e.selected < size

pub record IsBank (b : BankData) : Type 0 where
  pub few : b.size ≤ 65536
  pub device : IsSide b.size b.device
  pub model : IsSide b.size b.model

-- the same window to as many entries
pub record IsSameBank (b new : BankData) : Type 0 where
  pub window : new.window ≡ b.window
  pub size : new.size ≡ b.size
  pub bytes : new.bytes ≡ b.bytes

-- The chip has both registers, the data register with the bytes that the bank keeps,
-- and they are a window to its entries.
pub record IsBankOf (c : ChipData) (b : BankData) : Type 0 where
  pub index_reg : b.window.index_reg < length c.regs
  pub data_reg : b.window.data_reg < length c.regs
  pub bytes : size_of c b.window.data_reg ≡ b.bytes
  pub window : window_fault c b.window b.size ≡ None

-- a device that tells its state has the data register, with the bytes that the bank keeps
pub record HasData (s : State) (b : BankData) : Type 0 where
  pub inside : b.window.data_reg < length s.setup.regs
  pub bytes : slice_index s.setup.regs b.window.data_reg ≡ b.bytes

abbrev pub IsOverData : Option State → BankData → Type 0
IsOverData told b = (s : State) → told ≡ Some s → HasData s b

-- ---- the two lists of values that it stands for

-- the entries of the model, and those of a device that tells its state
abbrev pub entries_believed : BankData → ModelData → List ℕ
entries_believed b m = entries_of b.model (mirrored_of m.mirror b.window.data_reg)

abbrev pub entries_there : BankData → State → List ℕ
entries_there b d = entries_of b.device (peeked d (cell.Reg b.window.data_reg))

-- ---- a new bank

-- what is found in a register of a device, where that tells its state
abbrev pub IsFound : Option State → (reg bits : ℕ) → Type 0
IsFound told reg bits = (s : State) → told ≡ Some s → bits ≡ peeked s (cell.Reg reg)

-- each entry is what the data register has, and the selected one is that of the index register
abbrev pub new_bank : ModelData → Window → (size index held : ℕ) → BankData
new_bank m w size index held = record {
  window = w;
  size = size;
  bytes = size_of m.chip w.data_reg;
  device = all_entries held size index;
  model = all_entries (mirrored_of m.mirror w.data_reg) size (mirrored_of m.mirror w.index_reg);
}

-- the first condition that fails, where the device has this index
abbrev pub bank_fault : ModelData → Window → (size index : ℕ) → Option WindowFault
bank_fault m w size index =
    or_else (window_fault m.chip w size) (outside_fault size index (mirrored_of m.mirror w.index_reg))

-- a bank is built, or refused by its first cause; only want of memory comes later
pub record IsBuilt (m : ModelData) (told : Option State) (w : Window) (size : ℕ)
    (r : Result BankData WindowFault) : Type 0 where
  -- what the device was found to have in the two registers
  pub index : ℕ
  pub held : ℕ
  pub index_found : IsFound told w.index_reg index
  pub held_found : IsFound told w.data_reg held
  pub answer : MatchOption (bank_fault m w size index)
      (MatchResult r (λ b. b ≡ new_bank m w size index held) (λ why. why ≡ Memory))
      (λ why. r ≡ Err why)

-- ---- either side follows its index

-- the data register of the device takes the entry that its index selects
abbrev pub device_settled : BankData → (index : ℕ) → State → State
device_settled b index s = option_map_or (λ value. poked s (cell.Reg b.window.data_reg) value) (moved b.device index) s

-- the device follows its index register
pub record SettlesDevice (b new : BankData) (told after : Option State) : Type 0 where
  pub index : ℕ
  pub held : ℕ
  pub index_found : IsFound told b.window.index_reg index
  pub held_found : IsFound told b.window.data_reg held
  pub bank : new ≡ record b { device = settled b.device held index }
  pub goes : after ≡ option_map (device_settled b index) told

-- and the model the index that it was told of
abbrev pub bank_believed : BankData → ModelData → (k : ℕ) → BankData
bank_believed b m k = record b { model = settled b.model (mirrored_of m.mirror b.window.data_reg) k }

abbrev pub model_believed : BankData → ModelData → (k : ℕ) → ModelData
model_believed b m k = option_map_or (λ value. taking_raw m b.window.data_reg value) (moved b.model k) m
