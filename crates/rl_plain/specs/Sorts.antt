-- The sort of an operation: what reaches the device, and how.
use Rattle.rl_access.specs.declared.event.Op.{Op}
use Rattle.rl_access.specs.declared.event.Op.TheVariants as op

pub data Sort : Type 0 where
  -- over the bus to a register, whole or by a field of it
  access : Sort
  -- on desired values alone, or nothing
  wish : Sort
  -- by the backdoor to a register
  backdoor : Sort
  -- over the bus to a location of a memory
  memory_access : Sort
  -- by the backdoor to one
  memory_backdoor : Sort
  -- a burst, by its name alone
  burst : Sort
  reset : Sort
  -- a change by the hardware
  hardware : Sort

abbrev pub sort_of : Op → Sort
sort_of (op.Write reg map value) = access
sort_of (op.Read reg map) = access
sort_of (op.Mirror reg map) = access
sort_of (op.Check reg map) = access
sort_of (op.FieldWrite field map value) = access
sort_of (op.FieldRead field map) = access
sort_of (op.Set field value) = wish
sort_of (op.Show reg) = wish
sort_of (op.Update reg map) = access
sort_of (op.BackWrite reg value) = backdoor
sort_of (op.BackRead reg) = backdoor
sort_of (op.BackCheck reg) = backdoor
sort_of (op.Peek reg) = backdoor
sort_of (op.Poke reg value) = backdoor
sort_of (op.MemWrite mem map index value) = memory_access
sort_of (op.MemRead mem map index) = memory_access
sort_of (op.MemCheck mem map index value) = memory_access
sort_of (op.BurstWrite mem map first count) = burst
sort_of (op.BurstRead mem map first count) = burst
sort_of (op.MemPeek mem index) = memory_backdoor
sort_of (op.MemPoke mem index value) = memory_backdoor
sort_of (op.OtherWrite reg map value) = access
sort_of (op.OtherRead reg map) = access
sort_of (op.Hw field value) = hardware
sort_of (op.Reset kind) = reset

-- both are the same sort
abbrev pub IsSort : Sort → Sort → Type 0
IsSort access access = Unit {0}
IsSort wish wish = Unit {0}
IsSort backdoor backdoor = Unit {0}
IsSort memory_access memory_access = Unit {0}
IsSort memory_backdoor memory_backdoor = Unit {0}
IsSort burst burst = Unit {0}
IsSort reset reset = Unit {0}
IsSort hardware hardware = Unit {0}
IsSort _ _ = ⊥

-- an operation of this sort
abbrev pub IsOf : Sort → Op → Type 0
IsOf sort o = IsSort sort (sort_of o)

-- no location of a memory is reached
abbrev pub LeavesMemories : Sort → Type 0
LeavesMemories memory_access = ⊥
LeavesMemories memory_backdoor = ⊥
LeavesMemories _ = Unit {0}
