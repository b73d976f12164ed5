-- The access that a line adds to its group, or why the line is refused.
use Rattle.std.specs.Prelude.{ℕ, Bool, true, ◌&&◌, if◌then◌else◌, Option, None, Some, is_some, Result, Ok, Err}
use Rattle.rl_access.specs.declared.event.Op.{Op}
use Rattle.rl_access.specs.declared.event.Op.TheVariants as op
use Rattle.rl_access.specs.Model.{ModelData}
use Rattle.rl_log.specs.declared.refusal.LineRefusal.TheVariants.{NoSuchName}
use Rattle.rl_log.specs.Named.{mem_named, map_asked, block_asked, op_named}
use Rattle.rl_script.specs.declared.line.Line.{Line}
use Rattle.rl_script.specs.declared.line.Line.TheVariants as line
use Rattle.rl_weave.specs.declared.access.Access.{Access}
use Rattle.rl_weave.specs.declared.access.WeaveFault.{WeaveFault}
use Rattle.rl_weave.specs.Weave.{WeaveData, adding, number_of}
use Rattle.rl_weave_log.specs.declared.refusal.WovenRefusal.{WovenRefusal}
use Rattle.rl_weave_log.specs.declared.refusal.WovenRefusal.TheVariants as refusal

-- all names of a line are there
abbrev pub is_named : ModelData → Line → Bool
is_named m line.Blank = true
is_named m (line.BurstWrite mem first values map) = is_some (mem_named m.chip mem) && is_some (map_asked m.layout map)
is_named m (line.BurstRead mem first count map) = is_some (mem_named m.chip mem) && is_some (map_asked m.layout map)
is_named m (line.Seq which over) = is_some (block_asked m.chip over)
is_named m line = is_some (op_named m line)

-- the access of another master's operation
abbrev pub access_in : Op → Option Access
access_in (op.OtherWrite reg map value) = Some (record { reg = reg; map = map; value = Some value })
access_in (op.OtherRead reg map) = Some (record { reg = reg; map = map; value = None })
access_in _ = None

abbrev pub woven_only : Option Access → Result Access WovenRefusal
woven_only (Some access) = Ok access
woven_only None = Err refusal.NotWoven

abbrev pub access_named : Option Op → Result Access WovenRefusal
access_named (Some op) = woven_only (access_in op)
access_named None = Err refusal.NotWoven

-- the access that a line says: its names are looked up first
abbrev pub access_said : ModelData → Line → Result Access WovenRefusal
access_said m line =
    if is_named m line then access_named (op_named m line) else Err (refusal.Line NoSuchName)

abbrev pub with_number : WeaveData → ModelData → Access → Result ℕ WeaveFault → Result WeaveData WovenRefusal
with_number w m access (Ok number) = Ok (adding w m access)
with_number w m access (Err fault) = Err (refusal.Access fault)

abbrev pub with_access : WeaveData → ModelData → Result Access WovenRefusal → Result WeaveData WovenRefusal
with_access w m (Ok access) = with_number w m access (number_of w m access)
with_access w m (Err why) = Err why

-- the group with the access of a line that isn't blank
abbrev pub adding_line : WeaveData → ModelData → Line → Result WeaveData WovenRefusal
adding_line w m line = with_access w m (access_said m line)
