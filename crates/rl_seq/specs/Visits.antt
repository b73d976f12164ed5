-- A sequence at a place, as the walk goes about it: turn by turn, and part by part. A part is one operation, or none.
use Rattle.std.specs.Prelude.{◌≡◌, ℕ, zero, suc, ◌+◌, ◌*◌, ◌^◌, ◌<◌, ◌==◌, ◌%◌, bit_xor, not, ◌&&◌, if◌then◌else◌, length, true, Bool, Option, None, Some}
use Rattle.rl_map.specs.Layout.{LayoutData}
use Rattle.rl_model.specs.Fields.{size_of}
use Rattle.rl_model.specs.Rows.{ChipData}
use Rattle.rl_model.specs.declared.rows.Item.TheVariants.{Reg, Mem}
use Rattle.rl_mirror.specs.Mirror.{MirrorData, mirrored_of}
use Rattle.rl_access.specs.declared.event.Op.{Op}
use Rattle.rl_access.specs.declared.event.Op.TheVariants as op
use Rattle.rl_access.specs.Model.{ModelData}
use Rattle.rl_access.specs.Operation.{HasNumbers, is_single}
use Rattle.rl_access.specs.Rules.{memory_size}
use Rattle.rl_seq.specs.declared.sequence.Sequence.{Sequence}
use Rattle.rl_seq.specs.declared.sequence.Sequence.TheVariants as sequence
use Rattle.rl_seq.specs.declared.visit.Visit.{Visit}
use Rattle.rl_seq.specs.declared.visit.Visit.TheVariants.{Check, Bash, Access, Share, Walk}
use Rattle.rl_seq.specs.Choice.{is_bit_compared, is_of, may_read, low_bits, turned_round}
use Rattle.rl_seq.specs.Plan.{Plan, stop, step, each_below}
use Rattle.rl_seq.specs.Sequences.{map_at, bash_bit, access_with, write_turned, check_other, walk_location}

-- what the sequence does at a place, with what is mirrored as it comes there
abbrev pub visit_of : Sequence → ModelData → (number place : ℕ) → Visit
visit_of sequence.HwReset m reg place = Check reg (map_at m.layout place)
visit_of sequence.BitBash m reg place = Bash reg (map_at m.layout place)
visit_of sequence.Access m reg place = Access reg (map_at m.layout place) (mirrored_of m.mirror reg)
visit_of sequence.Shared m reg place = Share reg place (mirrored_of m.mirror reg)
visit_of sequence.MemWalk m mem place = Walk mem (map_at m.layout place)

-- its numbers are in range
abbrev pub IsVisit : ChipData → LayoutData → Visit → Type 0
IsVisit c l (Check reg map) = (reg < length c.regs) × (map < length l.maps)
IsVisit c l (Bash reg map) = (reg < length c.regs) × (map < length l.maps)
IsVisit c l (Access reg map value) = (reg < length c.regs) × (map < length l.maps)
IsVisit c l (Share reg place value) = (reg < length c.regs) × (place < length l.places)
IsVisit c l (Walk mem map) = (mem < length c.mems) × (map < length l.maps)

-- one turn for each bit, for the write and each place, or for each location
abbrev pub turns_of : ChipData → LayoutData → Visit → ℕ
turns_of c l (Check reg map) = 1
turns_of c l (Bash reg map) = 8 * size_of c reg
turns_of c l (Access reg map value) = 1
turns_of c l (Share reg place value) = length l.places + 1
turns_of c l (Walk mem map) = memory_size c mem

abbrev pub turn_of : ChipData → LayoutData → Visit → ℕ → Plan
turn_of c l (Check reg map) turn = step (op.Check reg (Some map)) stop
turn_of c l (Bash reg map) bit = bash_bit c reg map bit
turn_of c l (Access reg map value) turn = access_with c reg map value
turn_of c l (Share reg place value) zero = write_turned c l reg place value stop
turn_of c l (Share reg place value) (suc other) = check_other l reg place other
turn_of c l (Walk mem map) k = walk_location c mem map k

abbrev pub turns : ChipData → LayoutData → Visit → Plan
turns c l v = each_below (turns_of c l v) (turn_of c l v)

-- the parts of a turn
abbrev pub parts_of : ChipData → Visit → ℕ → ℕ
parts_of c (Check reg map) turn = 1
parts_of c (Bash reg map) bit = if is_bit_compared c reg bit then 4 else 0
parts_of c (Access reg map value) turn = 4
parts_of c (Share reg place value) turn = 1
parts_of c (Walk mem map) k = 4

-- a write, and then a check
abbrev pub bash_part : MirrorData → (reg map bit part : ℕ) → Op
bash_part mirror reg map bit part =
    if part % 2 == 0 then op.Write reg (Some map) (bit_xor (mirrored_of mirror reg) (2 ^ bit))
    else op.Check reg (Some map)

abbrev pub access_part : ChipData → (reg map value part : ℕ) → Op
access_part c reg map value part =
    if part == 0 then op.Write reg (Some map) (turned_round c (Reg reg) value)
    else if part == 1 then op.BackCheck reg
    else if part == 2 then op.BackWrite reg value
    else op.Check reg (Some map)

abbrev pub some_if : Bool → Op → Option Op
some_if b op = if b then Some op else None

-- the write, and then a check at each place but the one that was written
abbrev pub share_part : ChipData → LayoutData → (reg place value turn : ℕ) → Option Op
share_part c l reg place value zero = Some (op.Write reg (Some (map_at l place)) (turned_round c (Reg reg) value))
share_part c l reg place value (suc other) =
    some_if (not (other == place) && (is_of l other (Reg reg) && may_read l other))
    (op.Check reg (Some (map_at l other)))

-- of the location before, if there is one
abbrev pub of_before : (ℕ → Op) → ℕ → Option Op
of_before op zero = None
of_before op (suc k) = Some (op k)

abbrev pub check_filled_op : ChipData → (mem map k : ℕ) → Op
check_filled_op c mem map k = op.MemCheck mem (Some map) k (turned_round c (Mem mem) k)

abbrev pub write_number_op : ChipData → (mem map k : ℕ) → Op
write_number_op c mem map k = op.MemWrite mem (Some map) k (low_bits c (Mem mem) k)

-- the location takes its number turned round; the one before it is checked and takes its number; the last is checked
abbrev pub walk_part : ChipData → (mem map k part : ℕ) → Option Op
walk_part c mem map k part =
    if part == 0 then Some (op.MemWrite mem (Some map) k (turned_round c (Mem mem) k))
    else if part == 1 then of_before (check_filled_op c mem map) k
    else if part == 2 then of_before (write_number_op c mem map) k
    else some_if (k + 1 == memory_size c mem) (check_filled_op c mem map k)

-- the operation at a part, from what is mirrored then
abbrev pub part_of : ChipData → LayoutData → MirrorData → Visit → (turn part : ℕ) → Option Op
part_of c l mirror (Check reg map) turn part = Some (op.Check reg (Some map))
part_of c l mirror (Bash reg map) bit part = Some (bash_part mirror reg map bit part)
part_of c l mirror (Access reg map value) turn part = Some (access_part c reg map value part)
part_of c l mirror (Share reg place value) turn part = share_part c l reg place value turn
part_of c l mirror (Walk mem map) k part = walk_part c mem map k part

-- a part can be performed: its numbers are in range, and it is no burst
pub record IsStep (c : ChipData) (l : LayoutData) (op : Op) : Type 0 where
  pub numbers : HasNumbers c (length l.maps) op
  pub single : is_single op ≡ true
