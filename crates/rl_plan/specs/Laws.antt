-- What holds of the lines of every plan.
use Rattle.std.specs.Prelude.{◌≡◌, ℕ, ◌+◌, ◌*◌, ◌<◌, ◌≤◌, length, All, Some, Ok}
use Rattle.rl_access.specs.declared.event.Op.{Op}
use Rattle.rl_access.specs.Model.{IsModel, ModelData}
use Rattle.rl_report.specs.Operation.{line_of, op_text}
use Rattle.rl_report.specs.WithoutItems.{HasNames}
use Rattle.rl_script.specs.declared.line.Line.{Line}
use Rattle.rl_script.specs.Reading.{read_of}
use Rattle.rl_plan.specs.declared.asked.Asked.{Asked}
use Rattle.rl_plan.specs.Text.{planned_for, planned_further, planned_in, reg_ways}

-- the text of an operation reads as the line of a script that asks for it
pub record ReadsBack (m : ModelData) (o : Op) : Type 0 where
  pub line : Line
  pub line_is : line_of m o ≡ Some line
  pub reads : read_of (op_text m o) ≡ Ok line

-- so does each of a plan, where maps and reset kinds have names
pub record LinesReadBack : Type 0 where
  pub registers : (m : ModelData) (asked : Asked) (reg : ℕ) → IsModel m → HasNames m.chip m.layout
      → reg < length m.chip.regs → All (ReadsBack m) (planned_for m asked reg)
  pub further : (m : ModelData) (asked : Asked) (reg : ℕ) → IsModel m → HasNames m.chip m.layout
      → reg < length m.chip.regs → All (ReadsBack m) (planned_further m asked reg)
  pub memories : (m : ModelData) (mem : ℕ) → IsModel m → HasNames m.chip m.layout → mem < length m.chip.mems
      → All (ReadsBack m) (planned_in m mem)

-- A register has at most 30 lines, one more for each place, and 8 for each kind of reset; of a chip with the kinds HARD
-- and SOFT alone at most 40, where it has at most 8 places.
pub record LinesAreFew : Type 0 where
  pub first : (m : ModelData) (asked : Asked) (reg : ℕ)
      → length (planned_for m asked reg) ≤ 30 + length (reg_ways m reg)
  pub further : (m : ModelData) (asked : Asked) (reg : ℕ)
      → length (planned_further m asked reg) ≤ 8 * length m.chip.kinds
  pub forty : (m : ModelData) (asked : Asked) (reg : ℕ) → length m.chip.kinds ≡ 2 → length (reg_ways m reg) ≤ 8
      → length (planned_for m asked reg) + length (planned_further m asked reg) ≤ 40
