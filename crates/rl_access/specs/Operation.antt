-- What an operation concerns.
use Rattle.std.specs.Prelude.{ℕ, ◌*◌, ◌<◌, Option, None, Some, Bool, true, false, slice_get, length}
use Rattle.std.specs.Int.{div_ceil}
use Rattle.std.specs.Option.{option_map_or}
use Rattle.rl_model.specs.Rows.{ChipData}
use Rattle.rl_model.specs.Fields.{field_of, size_of}
use Rattle.rl_access.specs.declared.event.Op.{Op}
use Rattle.rl_access.specs.declared.event.Op.TheVariants as op
use Rattle.rl_access.specs.declared.event.End.{End}
use Rattle.rl_access.specs.declared.event.End.TheVariants as end

-- the register of a field
abbrev pub reg_of : ChipData → ℕ → ℕ
reg_of c field = (field_of c field).shape.reg

-- the bytes of a memory's locations
abbrev pub location_size : ChipData → ℕ → ℕ
location_size c mem = option_map_or (λ m. m.bytes) (slice_get c.mems mem) 0

-- ---- the register that an operation concerns: none where it concerns a memory or all registers

abbrev pub register_of : ChipData → Op → Option ℕ
register_of c (op.Write reg map value) = Some reg
register_of c (op.Read reg map) = Some reg
register_of c (op.Mirror reg map) = Some reg
register_of c (op.Check reg map) = Some reg
register_of c (op.FieldWrite field map value) = Some (reg_of c field)
register_of c (op.FieldRead field map) = Some (reg_of c field)
register_of c (op.Set field value) = Some (reg_of c field)
register_of c (op.Show reg) = Some reg
register_of c (op.Update reg map) = Some reg
register_of c (op.BackWrite reg value) = Some reg
register_of c (op.BackRead reg) = Some reg
register_of c (op.BackCheck reg) = Some reg
register_of c (op.Peek reg) = Some reg
register_of c (op.Poke reg value) = Some reg
register_of c (op.MemWrite mem map index value) = None
register_of c (op.MemRead mem map index) = None
register_of c (op.MemCheck mem map index value) = None
register_of c (op.BurstWrite mem map first count) = None
register_of c (op.BurstRead mem map first count) = None
register_of c (op.MemPeek mem index) = None
register_of c (op.MemPoke mem index value) = None
register_of c (op.OtherWrite reg map value) = Some reg
register_of c (op.OtherRead reg map) = Some reg
register_of c (op.Hw field value) = Some (reg_of c field)
register_of c (op.Reset kind) = None

-- ---- the numbers in it are in range

abbrev pub IsMapIn : ℕ → Option ℕ → Type 0
IsMapIn maps None = Unit {0}
IsMapIn maps (Some map) = map < maps

abbrev pub HasNumbers : ChipData → (maps : ℕ) → Op → Type 0
HasNumbers c maps (op.Write reg map value) = (reg < length c.regs) × IsMapIn maps map
HasNumbers c maps (op.Read reg map) = (reg < length c.regs) × IsMapIn maps map
HasNumbers c maps (op.Mirror reg map) = (reg < length c.regs) × IsMapIn maps map
HasNumbers c maps (op.Check reg map) = (reg < length c.regs) × IsMapIn maps map
HasNumbers c maps (op.FieldWrite field map value) = (field < length c.fields) × IsMapIn maps map
HasNumbers c maps (op.FieldRead field map) = (field < length c.fields) × IsMapIn maps map
HasNumbers c maps (op.Set field value) = field < length c.fields
HasNumbers c maps (op.Show reg) = reg < length c.regs
HasNumbers c maps (op.Update reg map) = (reg < length c.regs) × IsMapIn maps map
HasNumbers c maps (op.BackWrite reg value) = reg < length c.regs
HasNumbers c maps (op.BackRead reg) = reg < length c.regs
HasNumbers c maps (op.BackCheck reg) = reg < length c.regs
HasNumbers c maps (op.Peek reg) = reg < length c.regs
HasNumbers c maps (op.Poke reg value) = reg < length c.regs
HasNumbers c maps (op.MemWrite mem map index value) = (mem < length c.mems) × IsMapIn maps map
HasNumbers c maps (op.MemRead mem map index) = (mem < length c.mems) × IsMapIn maps map
HasNumbers c maps (op.MemCheck mem map index value) = (mem < length c.mems) × IsMapIn maps map
HasNumbers c maps (op.BurstWrite mem map first count) = (mem < length c.mems) × IsMapIn maps map
HasNumbers c maps (op.BurstRead mem map first count) = (mem < length c.mems) × IsMapIn maps map
HasNumbers c maps (op.MemPeek mem index) = mem < length c.mems
HasNumbers c maps (op.MemPoke mem index value) = mem < length c.mems
HasNumbers c maps (op.OtherWrite reg map value) = (reg < length c.regs) × IsMapIn maps map
HasNumbers c maps (op.OtherRead reg map) = (reg < length c.regs) × IsMapIn maps map
HasNumbers c maps (op.Hw field value) = field < length c.fields
HasNumbers c maps (op.Reset kind) = kind < length c.kinds

-- ---- the digits of a value that it reads or sends

-- the least number of digits that hold a field's bits
abbrev pub field_digits : ℕ → ℕ
field_digits width = div_ceil width 4

abbrev pub digits_of : ChipData → Op → ℕ
digits_of c (op.Write reg map value) = 2 * size_of c reg
digits_of c (op.Read reg map) = 2 * size_of c reg
digits_of c (op.Mirror reg map) = 2 * size_of c reg
digits_of c (op.Check reg map) = 2 * size_of c reg
digits_of c (op.FieldWrite field map value) = 2 * size_of c (reg_of c field)
digits_of c (op.FieldRead field map) = field_digits (field_of c field).shape.width
digits_of c (op.Set field value) = 2 * size_of c (reg_of c field)
digits_of c (op.Show reg) = 2 * size_of c reg
digits_of c (op.Update reg map) = 2 * size_of c reg
digits_of c (op.BackWrite reg value) = 2 * size_of c reg
digits_of c (op.BackRead reg) = 2 * size_of c reg
digits_of c (op.BackCheck reg) = 2 * size_of c reg
digits_of c (op.Peek reg) = 2 * size_of c reg
digits_of c (op.Poke reg value) = 2 * size_of c reg
digits_of c (op.MemWrite mem map index value) = 2 * location_size c mem
digits_of c (op.MemRead mem map index) = 2 * location_size c mem
digits_of c (op.MemCheck mem map index value) = 2 * location_size c mem
digits_of c (op.BurstWrite mem map first count) = 2 * location_size c mem
digits_of c (op.BurstRead mem map first count) = 2 * location_size c mem
digits_of c (op.MemPeek mem index) = 2 * location_size c mem
digits_of c (op.MemPoke mem index value) = 2 * location_size c mem
digits_of c (op.OtherWrite reg map value) = 2 * size_of c reg
digits_of c (op.OtherRead reg map) = 2 * size_of c reg
digits_of c (op.Hw field value) = 2 * size_of c (reg_of c field)
digits_of c (op.Reset kind) = 0

-- ---- which calls do it

-- it is no burst, and so one access at most
abbrev pub is_single : Op → Bool
is_single (op.BurstWrite mem map first count) = false
is_single (op.BurstRead mem map first count) = false
is_single _ = true

-- it goes to one location of a memory over the bus
abbrev pub is_on_memory : Op → Bool
is_on_memory (op.MemWrite mem map index value) = true
is_on_memory (op.MemRead mem map index) = true
is_on_memory (op.MemCheck mem map index value) = true
is_on_memory _ = false

-- it sends nothing over the bus
abbrev pub is_off_bus : Op → Bool
is_off_bus (op.Set field value) = true
is_off_bus (op.Show reg) = true
is_off_bus (op.BackWrite reg value) = true
is_off_bus (op.BackRead reg) = true
is_off_bus (op.BackCheck reg) = true
is_off_bus (op.Peek reg) = true
is_off_bus (op.Poke reg value) = true
is_off_bus (op.MemPeek mem index) = true
is_off_bus (op.MemPoke mem index value) = true
is_off_bus (op.Hw field value) = true
is_off_bus (op.Reset kind) = true
is_off_bus _ = false

-- ---- how it may end

-- refused, before anything was sent
abbrev pub ends_refused : End → Bool
ends_refused (end.Refused why) = true
ends_refused _ = false

-- by a bus error, or refused
abbrev pub ends_short : End → Bool
ends_short (end.BusError word) = true
ends_short e = ends_refused e

abbrev pub ends_done : End → Bool
ends_done end.Done = true
ends_done e = ends_short e

abbrev pub ends_with_value : End → Bool
ends_with_value (end.Value value) = true
ends_with_value e = ends_short e

abbrev pub ends_as_update : End → Bool
ends_as_update (end.Sent word) = true
ends_as_update end.Nothing = true
ends_as_update e = ends_short e

abbrev pub ends_as_reset : End → Bool
ends_as_reset end.Done = true
ends_as_reset e = ends_refused e

abbrev pub has_end : Op → End → Bool
has_end (op.Write reg map value) e = ends_done e
has_end (op.Read reg map) e = ends_with_value e
has_end (op.Mirror reg map) e = ends_with_value e
has_end (op.Check reg map) e = ends_with_value e
has_end (op.FieldWrite field map value) e = ends_done e
has_end (op.FieldRead field map) e = ends_with_value e
has_end (op.Set field value) e = ends_done e
has_end (op.Show reg) e = ends_done e
has_end (op.Update reg map) e = ends_as_update e
has_end (op.BackWrite reg value) e = ends_done e
has_end (op.BackRead reg) e = ends_with_value e
has_end (op.BackCheck reg) e = ends_with_value e
has_end (op.Peek reg) e = ends_with_value e
has_end (op.Poke reg value) e = ends_done e
has_end (op.MemWrite mem map index value) e = ends_done e
has_end (op.MemRead mem map index) e = ends_with_value e
has_end (op.MemCheck mem map index value) e = ends_with_value e
has_end (op.BurstWrite mem map first count) e = ends_refused e
has_end (op.BurstRead mem map first count) e = ends_refused e
has_end (op.MemPeek mem index) e = ends_with_value e
has_end (op.MemPoke mem index value) e = ends_done e
has_end (op.OtherWrite reg map value) e = ends_done e
has_end (op.OtherRead reg map) e = ends_with_value e
has_end (op.Hw field value) e = ends_done e
has_end (op.Reset kind) e = ends_as_reset e
