-- Which device a chip and a layout have.
use Rattle.std.specs.Prelude.{ℕ, ◌+◌, List, [], ◌∷◌, ◌++◌, map}
use Rattle.rl_model.specs.declared.rows.MemRow.{MemRow as Mem}
use Rattle.rl_model.specs.Rows.{FieldSeen, ChipData}
use Rattle.rl_bus.specs.declared.table.FieldRow.{FieldRow}
use Rattle.rl_bus.specs.declared.table.ResetRow.{ResetRow}
use Rattle.rl_bus.specs.declared.table.MemRow.{MemRow}
use Rattle.rl_bus.specs.Setup.{Setup, Flaws}
use Rattle.rl_map.specs.Layout.{LayoutData}

abbrev pub field_row : FieldSeen → FieldRow
field_row f = record { reg = f.shape.reg; lsb = f.shape.lsb; width = f.shape.width; policy = f.shape.policy }

-- the reset values of fields that are numbered from `field` on
abbrev pub reset_rows : ℕ → List FieldSeen → List ResetRow
reset_rows field [] = []
reset_rows field (f ∷ fs) =
    map (λ r. record { field = field; kind = r.kind; value = r.value }) f.resets ++ reset_rows (field + 1) fs

-- memories, of which each stands behind the locations of those before
abbrev pub mem_rows : ℕ → List Mem → List MemRow
mem_rows first [] = []
mem_rows first (m ∷ ms) =
    record { first = first; bytes = m.bytes; size = m.size; writable = m.writable } ∷ mem_rows (first + m.size) ms

-- the device with these flaws
unfoldable pub setup_of : ChipData → LayoutData → Flaws → Setup
setup_of chip l flaws = record {
  regs = map (λ r. r.bytes) chip.regs;
  fields = map field_row chip.fields;
  resets = reset_rows 0 chip.fields;
  mems = mem_rows 0 chip.mems;
  ports = map (λ p. p.bytes) l.ports;
  words = l.rows;
  flaws = flaws;
}
