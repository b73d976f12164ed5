-- The text of a plan.
use Rattle.std.specs.Prelude.{◌≡◌, ℕ, ◌==◌, Bool, true, false, if◌then◌else◌, List, [], ◌++◌, length, map, flat_map, codes, Option}
use Rattle.std.specs.List.{list_any, range_with_len}
use Rattle.rl_model.specs.declared.rows.Item.{Item}
use Rattle.rl_model.specs.declared.rows.Item.TheVariants as item
use Rattle.rl_model.specs.Chip.{path_of_item}
use Rattle.rl_model.specs.Rows.{ChipData}
use Rattle.rl_access.specs.declared.event.Op.{Op}
use Rattle.rl_access.specs.declared.event.Op.TheVariants as op
use Rattle.rl_access.specs.Model.{ModelData}
use Rattle.rl_access.specs.Operation.{HasNumbers, is_on_memory}
use Rattle.rl_report.specs.Operation.{map_text, number_text, op_text}
use Rattle.rl_plan.specs.declared.asked.Asked.{Asked}
use Rattle.rl_plan.specs.declared.lines.Part.{Part}
use Rattle.rl_plan.specs.declared.lines.Part.TheVariants.{First, Further, Memory}
use Rattle.rl_plan.specs.declared.target.Target.{Target}
use Rattle.rl_plan.specs.declared.way.Way.{Way}
use Rattle.rl_plan.specs.Plan.{further_ops, mem_ops, reg_ops, sort_of, target_of, ways_of}
use Rattle.rl_plan.specs.Steps.{purpose_of}

-- ---- a line

-- the operations that a plan has
abbrev pub is_planned : Op → Bool
is_planned (op.Reset kind) = true
is_planned (op.Check reg map) = true
is_planned (op.BackCheck reg) = true
is_planned (op.Write reg map value) = true
is_planned (op.Poke reg value) = true
is_planned o = is_on_memory o

-- it is one of these, and its numbers are in range
abbrev pub HasLine : ModelData → Op → Type 0
HasLine m o = (is_planned o ≡ true) × HasNumbers m.chip (length m.layout.maps) o

-- the line of an operation, in its canonical spelling
abbrev pub op_line : ModelData → Op → List ℕ
op_line m o = op_text m o ++ codes "\n"

-- that line in pieces: a command, its item, its numbers, and its map
abbrev pub item_text : ModelData → (command : List ℕ) → Item → (numbers : List ℕ) → Option ℕ → List ℕ
item_text m command item numbers map =
    command ++ codes " " ++ path_of_item m.chip item ++ flat_map number_text numbers
    ++ map_text m.layout map ++ codes "\n"

abbrev pub comment_text : (path purpose : List ℕ) → List ℕ
comment_text path purpose = codes "# " ++ path ++ codes ": " ++ purpose ++ codes "\n"

-- a comment on an item, and the lines of operations
abbrev pub block_text : ModelData → Item → (purpose : List ℕ) → List Op → List ℕ
block_text m item purpose ops = comment_text (path_of_item m.chip item) purpose ++ flat_map (op_line m) ops

-- such a block, where there are operations
abbrev pub some_block_text : ModelData → Item → (purpose : List ℕ) → List Op → List ℕ
some_block_text m item purpose ops = if length ops == 0 then [] else block_text m item purpose ops

-- ---- a register

abbrev pub reg_ways : ModelData → (reg : ℕ) → List Way
reg_ways m reg = ways_of m.layout (item.Reg reg) (length m.layout.places)

abbrev pub reg_target : ModelData → Asked → (reg : ℕ) → Target
reg_target m asked reg = target_of m.chip asked reg (reg_ways m reg)

-- the operations for a register
abbrev pub planned_for : ModelData → Asked → (reg : ℕ) → List Op
planned_for m asked reg = reg_ops m.chip (reg_target m asked reg) (reg_ways m reg)

-- what its lines are for, and its lines
abbrev pub reg_text : ModelData → Asked → (reg : ℕ) → List ℕ
reg_text m asked reg =
    block_text m (item.Reg reg) (purpose_of (sort_of m.chip (reg_target m asked reg))) (planned_for m asked reg)

-- ---- a register and its other resets

abbrev pub planned_further : ModelData → Asked → (reg : ℕ) → List Op
planned_further m asked reg = further_ops m.chip (reg_target m asked reg)

-- nothing where no field has a value for one
abbrev pub further_text : ModelData → Asked → (reg : ℕ) → List ℕ
further_text m asked reg = some_block_text m (item.Reg reg) (codes "its other resets") (planned_further m asked reg)

-- ---- a memory

abbrev pub mem_ways : ModelData → (mem : ℕ) → List Way
mem_ways m mem = ways_of m.layout (item.Mem mem) (length m.layout.places)

abbrev pub planned_in : ModelData → (mem : ℕ) → List Op
planned_in m mem = mem_ops m.chip mem (mem_ways m mem)

abbrev pub mem_text : ModelData → (mem : ℕ) → List ℕ
mem_text m mem = block_text m (item.Mem mem) (codes "its first and its last location at each place") (planned_in m mem)

-- ---- items, which are registers and memories

-- the lines of an item in a part of all lines: of a register in two, of a memory in the last
abbrev pub part_text : ModelData → Asked → Part → Item → List ℕ
part_text m asked First (item.Reg reg) = reg_text m asked reg
part_text m asked Further (item.Reg reg) = further_text m asked reg
part_text m asked Memory (item.Reg reg) = []
part_text m asked First (item.Mem mem) = []
part_text m asked Further (item.Mem mem) = []
part_text m asked Memory (item.Mem mem) = mem_text m mem

abbrev pub is_memory : Item → Bool
is_memory (item.Reg reg) = false
is_memory (item.Mem mem) = true

-- the walk over all memories, where one of the items is a memory
abbrev pub walked_text : List Item → List ℕ
walked_text items =
    if list_any is_memory items
    then codes "# the memories: each location beside its neighbours\nseq mem-walk *\n"
    else []

-- The lines for some items: the registers; then those with further kinds of reset, which leave other registers' first
-- values behind; the walk, and the memories.
unfoldable pub lines_text : ModelData → Asked → List Item → List ℕ
lines_text m asked items =
    flat_map (part_text m asked First) items ++ flat_map (part_text m asked Further) items
    ++ walked_text items ++ flat_map (part_text m asked Memory) items

-- ---- a chip

-- its registers, and its memories
abbrev pub items_of : ChipData → List Item
items_of c = map item.Reg (range_with_len 0 (length c.regs)) ++ map item.Mem (range_with_len 0 (length c.mems))

-- the lines for all of them
abbrev pub plan_text : ModelData → Asked → List ℕ
plan_text m asked = lines_text m asked (items_of m.chip)
