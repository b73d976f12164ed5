-- The text of what came of an operation: how it ended, what the register holds afterwards, and which fields differ.
use Rattle.std.specs.Prelude.{ℕ, ◌*◌, ◌==◌, List, [], ◌∷◌, codes, decimal, flat_map, Bool, true, false, not, ◌&&◌, if◌then◌else◌, Option, Some, None}
use Rattle.std.specs.List.{range_with_len}
use Rattle.rl_policy.specs.Bits.{bit}
use Rattle.rl_model.specs.declared.rows.Item.{Item}
use Rattle.rl_model.specs.declared.rows.Item.TheVariants.{Reg, Mem}
use Rattle.rl_model.specs.Rows.{ChipData}
use Rattle.rl_model.specs.Fields.{fields_of, field_in, count_of, size_of}
use Rattle.rl_access.specs.declared.event.Event.{Event}
use Rattle.rl_access.specs.declared.event.End.{End}
use Rattle.rl_access.specs.declared.event.End.TheVariants as end
use Rattle.rl_access.specs.declared.event.Op.{Op}
use Rattle.rl_access.specs.declared.event.Op.TheVariants as op
use Rattle.rl_access.specs.declared.event.Refused.{Refused}
use Rattle.rl_access.specs.declared.event.Refused.TheVariants.{NotPlaced, NotObserved, NoRight, NoBackdoor, NotVolatile, NotWritable, OutOfRange, TooWide}
use Rattle.rl_access.specs.Operation.{register_of, digits_of, location_size}
use Rattle.rl_report.specs.Numbers.{padded}
use Rattle.rl_report.specs.Pieces.{joined}

abbrev pub why_text : Refused → List ℕ
why_text NotPlaced = codes "not placed"
why_text NotObserved = codes "not observed"
why_text NoRight = codes "no right"
why_text NoBackdoor = codes "no backdoor"
why_text NotVolatile = codes "not volatile"
why_text NotWritable = codes "not writable"
why_text OutOfRange = codes "out of range"
why_text TooWide = codes "too wide"

-- how many bytes the value of a register or of a location has
abbrev pub item_size : ChipData → Item → ℕ
item_size c (Reg reg) = size_of c reg
item_size c (Mem mem) = location_size c mem

-- how it ended: a value or a word has so many digits, and the failed item is counted from 0
abbrev pub end_text : ℕ → End → List ℕ
end_text digits end.Done = codes ": ok"
end_text digits (end.Value value) = joined (codes ": ok 0x" ∷ padded digits value ∷ [])
end_text digits (end.Sent word) = joined (codes ": ok sent 0x" ∷ padded digits word ∷ [])
end_text digits end.Nothing = codes ": ok none"
end_text digits (end.BusError word) = joined (codes ": bus error at word " ∷ decimal word ∷ [])
end_text digits (end.Refused why) = joined (codes ": refused " ∷ why_text why ∷ [])

abbrev pub is_done : End → Bool
is_done end.Done = true
is_done _ = false

-- an operation that shows the desired value
abbrev pub is_show : Op → Bool
is_show (op.Set field value) = true
is_show (op.Show reg) = true
is_show _ = false

-- an operation that compares
abbrev pub is_check : Op → Bool
is_check (op.Check reg map) = true
is_check (op.BackCheck reg) = true
is_check (op.MemCheck mem map index value) = true
is_check _ = false

-- a field whose bit is set
abbrev pub name_text : ChipData → (reg differ place : ℕ) → List ℕ
name_text c reg differ place =
    if bit differ place then joined (codes " " ∷ (field_in (fields_of c reg) place).name ∷ [])
    else []

-- the differing fields of a register, in field order
abbrev pub names_text : ChipData → (reg differ : ℕ) → List ℕ
names_text c reg differ = flat_map (name_text c reg differ) (range_with_len 0 (count_of c reg))

-- something differs
abbrev pub has_differ : Event → Bool
has_differ e = is_check e.op && not (e.differ == 0)

abbrev pub desired_text : ChipData → Event → (reg : ℕ) → List ℕ
desired_text c e reg =
    if is_show e.op && is_done e.end then joined (codes " desired 0x" ∷ padded (2 * size_of c reg) e.desired ∷ [])
    else []

abbrev pub differ_text : ChipData → Event → (reg : ℕ) → List ℕ
differ_text c e reg = if has_differ e then joined (codes " differ" ∷ names_text c reg e.differ ∷ []) else []

-- the register afterwards, if the operation concerns one
abbrev pub after_text : ChipData → Event → Option ℕ → List ℕ
after_text c e (Some reg) =
    joined (desired_text c e reg ∷ codes " mirror 0x" ∷ padded (2 * size_of c reg) e.mirrored
    ∷ differ_text c e reg ∷ [])
after_text c e None = if has_differ e then codes " differ" else []

abbrev pub is_refused : End → Bool
is_refused (end.Refused why) = true
is_refused _ = false

-- of a refused operation only the reason is told
abbrev pub rest_text : ChipData → Event → List ℕ
rest_text c e = if is_refused e.end then [] else after_text c e (register_of c e.op)

abbrev pub result_text : ChipData → Event → List ℕ
result_text c e = joined (end_text (digits_of c e.op) e.end ∷ rest_text c e ∷ [])

-- the operation is a reset, which has no value
abbrev pub is_reset : Op → Bool
is_reset (op.Reset kind) = true
is_reset _ = false
