-- The text of an operation: the canonical spelling of the line of a script that asks for it.
use Rattle.std.specs.Prelude.{◌≡◌, ℕ, ◌^◌, ◌<◌, List, [], ◌∷◌, codes, decimal, map, take, slice_get, length, unwrap_or, Bool, true, false, IfSome, Option, Some, None, option_map}
use Rattle.rl_model.specs.declared.rows.Item.TheVariants as item
use Rattle.rl_model.specs.Rows.{ChipData}
use Rattle.rl_model.specs.Chip.{path_of_item, field_path}
use Rattle.rl_model.specs.Fields.{field_of}
use Rattle.rl_map.specs.Layout.{LayoutData, map_at}
use Rattle.rl_access.specs.declared.event.Op.{Op}
use Rattle.rl_access.specs.declared.event.Op.TheVariants as op
use Rattle.rl_access.specs.Model.{ModelData}
use Rattle.rl_access.specs.Operation.{IsMapIn}
use Rattle.rl_script.specs.declared.command.Command.TheVariants as command
use Rattle.rl_script.specs.declared.command.Item.{Item}
use Rattle.rl_script.specs.declared.command.Item.TheVariants as verb
use Rattle.rl_script.specs.declared.line.Line.{Line}
use Rattle.rl_script.specs.declared.line.Line.TheVariants as line
use Rattle.rl_script.specs.Commands.{row_of, line_of as line_with, command_name, item_name}
use Rattle.rl_script.specs.Spelling.{joined as in_words, spaced, map_words, spelling}
use Rattle.rl_policy.specs.Numbers.{spelled}
use Rattle.rl_report.specs.declared.operation.Spoken.{Spoken}
use Rattle.rl_report.specs.declared.operation.Subject.{Subject}
use Rattle.rl_report.specs.declared.operation.Subject.TheVariants.{Reg, Field, Mem}

-- ---- an operation as a command on one item

abbrev pub spoken : Item → Subject → (first second : ℕ) → (map : Option ℕ) → Spoken
spoken command subject first second map =
    record { command = command; subject = subject; first = first; second = second; map = map }

-- none for a burst and a reset, which are no such command
abbrev pub spoken_of : Op → Option Spoken
spoken_of (op.Write reg map value) = Some (spoken verb.Write (Reg reg) value 0 map)
spoken_of (op.Read reg map) = Some (spoken verb.Read (Reg reg) 0 0 map)
spoken_of (op.Mirror reg map) = Some (spoken verb.Mirror (Reg reg) 0 0 map)
spoken_of (op.Check reg map) = Some (spoken verb.Check (Reg reg) 0 0 map)
spoken_of (op.FieldWrite field map value) = Some (spoken verb.FieldWrite (Field field) value 0 map)
spoken_of (op.FieldRead field map) = Some (spoken verb.FieldRead (Field field) 0 0 map)
spoken_of (op.Set field value) = Some (spoken verb.Set (Field field) value 0 None)
spoken_of (op.Show reg) = Some (spoken verb.Show (Reg reg) 0 0 None)
spoken_of (op.Update reg map) = Some (spoken verb.Update (Reg reg) 0 0 map)
spoken_of (op.BackWrite reg value) = Some (spoken verb.BackWrite (Reg reg) value 0 None)
spoken_of (op.BackRead reg) = Some (spoken verb.BackRead (Reg reg) 0 0 None)
spoken_of (op.BackCheck reg) = Some (spoken verb.BackCheck (Reg reg) 0 0 None)
spoken_of (op.Peek reg) = Some (spoken verb.Peek (Reg reg) 0 0 None)
spoken_of (op.Poke reg value) = Some (spoken verb.Poke (Reg reg) value 0 None)
spoken_of (op.MemWrite mem map index value) = Some (spoken verb.MemWrite (Mem mem) index value map)
spoken_of (op.MemRead mem map index) = Some (spoken verb.MemRead (Mem mem) index 0 map)
spoken_of (op.MemCheck mem map index value) = Some (spoken verb.MemCheck (Mem mem) index value map)
spoken_of (op.BurstWrite mem map first count) = None
spoken_of (op.BurstRead mem map first count) = None
spoken_of (op.MemPeek mem index) = Some (spoken verb.MemPeek (Mem mem) index 0 None)
spoken_of (op.MemPoke mem index value) = Some (spoken verb.MemPoke (Mem mem) index value None)
spoken_of (op.OtherWrite reg map value) = Some (spoken verb.OtherWrite (Reg reg) value 0 map)
spoken_of (op.OtherRead reg map) = Some (spoken verb.OtherRead (Reg reg) 0 0 map)
spoken_of (op.Hw field value) = Some (spoken verb.Hw (Field field) value 0 None)
spoken_of (op.Reset kind) = None

-- what an operation is on: none for a reset
abbrev pub subject_of : Op → Option Subject
subject_of (op.BurstWrite mem map first count) = Some (Mem mem)
subject_of (op.BurstRead mem map first count) = Some (Mem mem)
subject_of o = option_map (λ s. s.subject) (spoken_of o)

-- ---- the names of its numbers

abbrev pub subject_path : ChipData → Subject → List ℕ
subject_path c (Reg reg) = path_of_item c (item.Reg reg)
subject_path c (Field field) = field_path c (field_of c field)
subject_path c (Mem mem) = path_of_item c (item.Mem mem)

abbrev pub map_name : LayoutData → Option ℕ → Option (List ℕ)
map_name l map = option_map (λ m. (map_at l m).name) map

-- the name of a reset kind
abbrev pub kind_text : ChipData → ℕ → List ℕ
kind_text c kind = unwrap_or (slice_get c.kinds kind) []

-- ---- its line and its text

-- a number behind a space
abbrev pub number_text : ℕ → List ℕ
number_text n = spaced (spelled n ∷ [])

-- as many of two numbers as a command has, each behind a space
abbrev pub numbers_text : (count first second : ℕ) → List ℕ
numbers_text count first second = spaced (map spelled (take count (first ∷ second ∷ [])))

abbrev pub map_text : LayoutData → Option ℕ → List ℕ
map_text l map = spaced (map_words (map_name l map))

abbrev pub spoken_line : ModelData → Spoken → Line
spoken_line m s = line_with s.command (subject_path m.chip s.subject) s.first s.second (map_name m.layout s.map)

abbrev pub spoken_text : ModelData → Spoken → List ℕ
spoken_text m s = spelling (spoken_line m s)

abbrev pub reset_text : ChipData → ℕ → List ℕ
reset_text c kind = spelling (line.Reset (kind_text c kind))

-- the line of a script that asks for an operation: none for a burst, since its values aren't in it
abbrev pub line_of : ModelData → Op → Option Line
line_of m (op.Reset kind) = Some (line.Reset (kind_text m.chip kind))
line_of m o = option_map (spoken_line m) (spoken_of o)

-- a burst, with its count in decimal
abbrev pub counted_text : ModelData → (name : List ℕ) → (mem first count : ℕ) → (map : Option ℕ) → List ℕ
counted_text m name mem first count map =
    in_words (name ∷ path_of_item m.chip (item.Mem mem) ∷ spelled first
    ∷ codes "count" ∷ decimal count ∷ map_words (map_name m.layout map))

abbrev pub burst_text : ModelData → Op → List ℕ
burst_text m (op.BurstWrite mem map first count) = counted_text m (command_name command.BurstWrite) mem first count map
burst_text m (op.BurstRead mem map first count) = counted_text m (item_name verb.BurstRead) mem first count map
burst_text m _ = []

abbrev pub op_text : ModelData → Op → List ℕ
op_text m o = unwrap_or (option_map spelling (line_of m o)) (burst_text m o)

-- ---- what is in range

abbrev pub IsSubjectIn : ChipData → Subject → Type 0
IsSubjectIn c (Reg reg) = reg < length c.regs
IsSubjectIn c (Field field) = field < length c.fields
IsSubjectIn c (Mem mem) = mem < length c.mems

pub record IsSpokenIn (m : ModelData) (s : Spoken) : Type 0 where
  pub subject : IsSubjectIn m.chip s.subject
  pub through : IsMapIn (length m.layout.maps) s.map
  -- a command that takes no map has none
  pub on_bus : (row_of s.command).map ≡ false → s.map ≡ None

-- its numbers fit 64 bits, as those of each `Op` of the program do
abbrev pub FitsWords : Op → Type 0
FitsWords o = IfSome (spoken_of o) (λ s. (s.first < 2 ^ 64) × (s.second < 2 ^ 64))

-- ---- what it is on

abbrev pub is_on_field : Op → Bool
is_on_field (op.FieldWrite field map value) = true
is_on_field (op.FieldRead field map) = true
is_on_field (op.Set field value) = true
is_on_field (op.Hw field value) = true
is_on_field _ = false

-- on one location of a memory
abbrev pub is_on_location : Op → Bool
is_on_location (op.MemWrite mem map index value) = true
is_on_location (op.MemRead mem map index) = true
is_on_location (op.MemCheck mem map index value) = true
is_on_location (op.MemPeek mem index) = true
is_on_location (op.MemPoke mem index value) = true
is_on_location _ = false
