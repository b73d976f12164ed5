-- When tables, masks and cells belong together.
use Rattle.std.specs.Prelude.{◌≡◌, ℕ, ◌+◌, ◌<◌, ◌≤◌, ◌^◌, List, length, get_or}
use Rattle.std.specs.List.Sorted.{IsNonDecreasingBy}
use Rattle.rl_map.specs.Layout.{key_of}
use Rattle.rl_bus.specs.declared.table.WordRow.{WordRow}
use Rattle.rl_bus.specs.declared.table.FieldRow.{FieldRow}
use Rattle.rl_bus.specs.declared.table.MemRow.{MemRow}
use Rattle.rl_bus.specs.Device.{IsCellIn}
use Rattle.rl_bus.specs.declared.table.StuckRow.{StuckRow}
use Rattle.rl_bus.specs.Setup.{Setup, field_of}
use Rattle.rl_bus.specs.Reached.{HasEvenWords}
use Rattle.rl_bus.specs.Spread.{AreInCell}
use Rattle.rl_bus.specs.State.{State}
use Rattle.rl_bench.specs.declared.shape.Shape.{Shape}
use Rattle.rl_bench.specs.declared.cells.Cells.{Cells}
use Rattle.rl_bench.specs.Shape.{IsShapeOf}

-- a word names a cell that is there
pub record IsWordIn (t : Setup) (w : WordRow) : Type 0 where
  pub cell : IsCellIn t w.cell
  pub lanes : AreInCell w.lanes

-- a field has bits, all of them in a register that is there
pub record IsFieldIn (t : Setup) (f : FieldRow) : Type 0 where
  pub reg : f.reg < length t.regs
  pub some : 1 ≤ f.width
  pub most : f.lsb + f.width ≤ 64

-- a location has bytes
pub record IsMemIn (m : MemRow) : Type 0 where
  pub some : 1 ≤ m.bytes
  pub most : m.bytes ≤ 8

-- a stuck bit is one of a field
pub record IsStuckIn (t : Setup) (s : StuckRow) : Type 0 where
  pub field : s.field < length t.fields
  pub bit : s.bit < (field_of t s.field).width

-- the tables name what is there
pub record IsSetup (t : Setup) : Type 0 where
  pub words : (k : ℕ) (d : WordRow) → k < length t.words → IsWordIn t (get_or t.words k d)
  pub fields : (k : ℕ) (d : FieldRow) → k < length t.fields → IsFieldIn t (get_or t.fields k d)
  pub mems : (m : ℕ) (d : MemRow) → m < length t.mems → IsMemIn (get_or t.mems m d)
  pub stuck : (k : ℕ) (d : StuckRow) → k < length t.flaws.stuck → IsStuckIn t (get_or t.flaws.stuck k d)
  pub few_regs : length t.regs < 2 ^ 32
  pub few_fields : length t.fields < 2 ^ 32
  pub few_words : length t.words < 2 ^ 32
  -- the words stand by port and address, the fields by register and the reset values by field
  pub words_rise : IsNonDecreasingBy key_of t.words
  pub fields_rise : IsNonDecreasingBy (λ f. f.reg) t.fields
  pub resets_rise : IsNonDecreasingBy (λ r. r.field) t.resets
  -- where words of both directions stand at an address, there are as many of each
  pub even : HasEvenWords t

-- each register has its masks
pub record AreShapesOf (t : Setup) (shapes : List Shape) : Type 0 where
  pub count : length shapes ≡ length t.regs
  pub each : (r : ℕ) (d : Shape) → r < length t.regs → IsShapeOf (record { setup = t; reg = r }) (get_or shapes r d)

-- so many locations are enough for the memories
abbrev pub HasRoom : Setup → ℕ → Type 0
HasRoom t count =
    (m : ℕ) (d : MemRow) → m < length t.mems → (get_or t.mems m d).first + (get_or t.mems m d).size ≤ count

-- each register has its words, and each memory its locations
pub record FitCells (t : Setup) (c : Cells) : Type 0 where
  pub bits : length c.bits.items ≡ length t.regs
  pub marks : length c.marks.items ≡ length t.regs
  pub mems : HasRoom t (length c.locations.items)

-- the state with these cells
abbrev pub state_of : Setup → Cells → (ℕ → ℕ → ℕ) → ℕ → State
state_of t c beats items = record {
  setup = t;
  bits = c.bits.items;
  marks = c.marks.items;
  locations = c.locations.items;
  beats = beats;
  items = items;
}
