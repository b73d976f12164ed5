-- What an operation asks for, and of which kind it is.
use Rattle.std.specs.Prelude.{◌≡◌, ◌<◌, ℕ, [], ◌||◌, Bool, true, false, length, IfSome, Ok}
use Rattle.rl_access.specs.declared.asking.Asked.{Asked}
use Rattle.rl_access.specs.declared.event.Event.{Event}
use Rattle.rl_access.specs.declared.event.Op.{Op}
use Rattle.rl_access.specs.declared.event.Op.TheVariants as op
use Rattle.rl_access.specs.Model.{ModelData}
use Rattle.rl_access.specs.Operation.{HasNumbers, is_on_memory, register_of}
use Rattle.rl_access.specs.Rules.{grant, named}

-- its name in the log, its register, and whether it is granted
pub record IsAskedOf (m : ModelData) (op : Op) (a : Asked) : Type 0 where
  pub named : a.op ≡ named m op
  pub numbers : HasNumbers m.chip (length m.layout.maps) a.op
  pub register : register_of m.chip a.op ≡ a.reg
  pub reg_in : IfSome a.reg (λ reg. reg < length m.chip.regs)
  pub grant : a.grant ≡ grant m op

-- it was granted at this place, and its event names it and has no items yet
pub record IsBegun (m : ModelData) (op : Op) (place : ℕ) (event : Event) : Type 0 where
  pub numbers : HasNumbers m.chip (length m.layout.maps) op
  pub granted : grant m op ≡ Ok place
  pub named : event.op ≡ named m op
  pub told : HasNumbers m.chip (length m.layout.maps) event.op
  pub empty : event.trace ≡ []

-- it writes a register, or a part of it, over the bus
abbrev pub writes_register : Op → Bool
writes_register (op.Write reg map value) = true
writes_register (op.FieldWrite field map value) = true
writes_register (op.Update reg map) = true
writes_register (op.OtherWrite reg map value) = true
writes_register _ = false

-- it reads a register, or a part of it, over the bus
abbrev pub reads_register : Op → Bool
reads_register (op.Read reg map) = true
reads_register (op.Mirror reg map) = true
reads_register (op.Check reg map) = true
reads_register (op.FieldRead field map) = true
reads_register (op.OtherRead reg map) = true
reads_register _ = false

-- it goes to a register or to a location of a memory, over the bus
abbrev pub is_over_bus : Op → Bool
is_over_bus op = writes_register op || reads_register op || is_on_memory op
