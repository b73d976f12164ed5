-- The lines of some items as tasks, behind those of a script.
use Rattle.std.specs.Prelude.{ℕ, if◌then◌else◌, List, [], ◌∷◌, ◌++◌, map, flat_map, None}
use Rattle.std.specs.List.{list_any}
use Rattle.rl_model.specs.declared.rows.Item.{Item}
use Rattle.rl_model.specs.declared.rows.Item.TheVariants as item
use Rattle.rl_access.specs.declared.event.Op.{Op}
use Rattle.rl_access.specs.Model.{ModelData}
use Rattle.rl_desc.specs.Data.{DescData}
use Rattle.rl_script.specs.declared.line.Sequence.TheVariants.{MemWalk}
use Rattle.rl_grade.specs.declared.job.Job.TheVariants as job
use Rattle.rl_grade.specs.declared.job.Task.{Task}
use Rattle.rl_plan.specs.declared.asked.Asked.{Asked}
use Rattle.rl_plan.specs.declared.lines.Part.{Part}
use Rattle.rl_plan.specs.declared.lines.Part.TheVariants.{First, Further, Memory}
use Rattle.rl_plan.specs.Run.{model_of}
use Rattle.rl_plan.specs.Text.{is_memory, planned_for, planned_further, planned_in}

-- ---- tasks

-- the number of a line that is none of the script's, which count from 1
abbrev pub added : ℕ
added = 0

abbrev pub added_task : Op → Task
added_task o = record { line = added; job = job.One o }

abbrev pub added_walk : Task
added_walk = record { line = added; job = job.Sequence MemWalk None }

-- ---- the lines of items

-- the operations of an item in a part of the lines
abbrev pub part_ops : ModelData → Asked → Part → Item → List Op
part_ops m asked First (item.Reg reg) = planned_for m asked reg
part_ops m asked Further (item.Reg reg) = planned_further m asked reg
part_ops m asked Memory (item.Reg reg) = []
part_ops m asked First (item.Mem mem) = []
part_ops m asked Further (item.Mem mem) = []
part_ops m asked Memory (item.Mem mem) = planned_in m mem

abbrev pub part_tasks : ModelData → Asked → Part → Item → List Task
part_tasks m asked part i = map added_task (part_ops m asked part i)

-- the walk over all memories, where one of the items is a memory
abbrev pub walk_tasks : List Item → List Task
walk_tasks items = if list_any is_memory items then added_walk ∷ [] else []

-- What the lines for some items ask for, in the order of their text.
unfoldable pub lines_tasks : ModelData → Asked → List Item → List Task
lines_tasks m asked items =
    flat_map (part_tasks m asked First) items ++ flat_map (part_tasks m asked Further) items
    ++ walk_tasks items ++ flat_map (part_tasks m asked Memory) items

-- a script with the lines of these items behind it
abbrev pub behind : DescData → Asked → (script : List Task) → List Item → List Task
behind d asked script items = script ++ lines_tasks (model_of d) asked items
