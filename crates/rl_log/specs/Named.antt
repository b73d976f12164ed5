-- The numbers of the names in a line, and the operation that a line names.
use Rattle.std.specs.Prelude.{ℕ, ◌+◌, List, length, map as each, take, drop, position, bytes_eq, if◌then◌else◌, Option, Some, None, option_map, option_and_then}
use Rattle.rl_model.specs.Rows.{ChipData}
use Rattle.rl_model.specs.Chip.{field_path}
use Rattle.rl_map.specs.Layout.{LayoutData, map_named}
use Rattle.rl_access.specs.declared.event.Op.{Op}
use Rattle.rl_access.specs.declared.event.Op.TheVariants as op
use Rattle.rl_access.specs.Model.{ModelData}
use Rattle.rl_script.specs.declared.command.Item.{Item}
use Rattle.rl_script.specs.declared.command.Item.TheVariants as item
use Rattle.rl_script.specs.declared.command.Kind.{Kind}
use Rattle.rl_script.specs.declared.command.Kind.TheVariants as kind
use Rattle.rl_script.specs.declared.line_ref.ItemLine.{ItemLine}
use Rattle.rl_script.specs.declared.line.Line.{Line}
use Rattle.rl_script.specs.declared.line.Line.TheVariants as line
use Rattle.rl_script.specs.Commands.{row_of, kind_of, said}

-- ---- names

-- the first that is this name
abbrev pub number_of : List (List ℕ) → List ℕ → Option ℕ
number_of names name = position (bytes_eq name) names

-- paths are those of the blocks and files, then of the registers, then of the memories
abbrev pub block_named : ChipData → List ℕ → Option ℕ
block_named c path = number_of (take c.blocks c.paths) path

abbrev pub reg_named : ChipData → List ℕ → Option ℕ
reg_named c path = number_of (take (length c.regs) (drop c.scopes c.paths)) path

abbrev pub mem_named : ChipData → List ℕ → Option ℕ
mem_named c path = number_of (take (length c.mems) (drop (c.scopes + length c.regs) c.paths)) path

abbrev pub field_named : ChipData → List ℕ → Option ℕ
field_named c path = number_of (each (field_path c) c.fields) path

abbrev pub kind_named : ChipData → List ℕ → Option ℕ
kind_named c name = number_of c.kinds name

-- what a command of this kind is on
abbrev pub number_on : ChipData → Kind → List ℕ → Option ℕ
number_on c kind.Register path = reg_named c path
number_on c kind.Field path = field_named c path
number_on c kind.Memory path = mem_named c path

-- the map that a line asks for, if it names one; none where the one that it names isn't there
abbrev pub map_asked : LayoutData → Option (List ℕ) → Option (Option ℕ)
map_asked l None = Some None
map_asked l (Some name) = option_map Some (map_named l name)

-- the block that a sequence goes over, if the line names one
abbrev pub block_asked : ChipData → Option (List ℕ) → Option (Option ℕ)
block_asked c None = Some None
block_asked c (Some path) = option_map Some (block_named c path)

-- ---- operations

-- with a number, if there is one
abbrev pub with_number : Option ℕ → (ℕ → Op) → Option Op
with_number number make = option_map make number

-- with a number and a map, if both are there
abbrev pub with_map : Option ℕ → Option (Option ℕ) → (ℕ → Option ℕ → Op) → Option Op
with_map None map make = None
with_map (Some number) map make = option_map (make number) map

-- of a command on an item, by the numbers of the item and of the map
abbrev pub op_with : Item → (number : ℕ) → (map : Option ℕ) → (first second : ℕ) → Op
op_with item.Write reg map value _ = op.Write reg map value
op_with item.Read reg map _ _ = op.Read reg map
op_with item.Mirror reg map _ _ = op.Mirror reg map
op_with item.Check reg map _ _ = op.Check reg map
op_with item.Update reg map _ _ = op.Update reg map
op_with item.OtherWrite reg map value _ = op.OtherWrite reg map value
op_with item.OtherRead reg map _ _ = op.OtherRead reg map
op_with item.FieldWrite field map value _ = op.FieldWrite field map value
op_with item.FieldRead field map _ _ = op.FieldRead field map
op_with item.Set field _ value _ = op.Set field value
op_with item.Hw field _ value _ = op.Hw field value
op_with item.Show reg _ _ _ = op.Show reg
op_with item.BackRead reg _ _ _ = op.BackRead reg
op_with item.BackCheck reg _ _ _ = op.BackCheck reg
op_with item.Peek reg _ _ _ = op.Peek reg
op_with item.BackWrite reg _ value _ = op.BackWrite reg value
op_with item.Poke reg _ value _ = op.Poke reg value
op_with item.MemWrite mem map index value = op.MemWrite mem map index value
op_with item.MemCheck mem map index value = op.MemCheck mem map index value
op_with item.MemRead mem map index _ = op.MemRead mem map index
op_with item.BurstRead mem map first count = op.BurstRead mem map first count
op_with item.MemPeek mem _ index _ = op.MemPeek mem index
op_with item.MemPoke mem _ index value = op.MemPoke mem index value

-- the map is looked for where the command takes one
abbrev pub item_op : ModelData → ItemLine → Option Op
item_op m s =
    let number = number_on m.chip (kind_of s.item) s.path in
    if (row_of s.item).map then with_map number (map_asked m.layout s.map) (λ n t. op_with s.item n t s.first s.second)
    else with_number number (λ n. op_with s.item n None s.first s.second)

-- a blank line, a burst and a sequence are no single operation
abbrev pub op_named : ModelData → Line → Option Op
op_named m (line.Reset kind) = with_number (kind_named m.chip kind) (λ k. op.Reset k)
op_named m (line.BurstRead mem first count map) = None
op_named m l = option_and_then (item_op m) (said l)
