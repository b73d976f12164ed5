-- The five sequences, each as its operations. Each goes over the registers or the memories
-- that it chooses, and over the places of each that have the rights it needs. It follows the description alone,
-- and what is mirrored at each moment.
use Rattle.std.specs.Prelude.{ℕ, zero, suc, ◌+◌, ◌*◌, ◌^◌, ◌==◌, bit_xor, not, ◌&&◌, Bool, length, Option, Some}
use Rattle.rl_map.specs.Layout.{LayoutData, place_at}
use Rattle.rl_model.specs.Fields.{size_of}
use Rattle.rl_model.specs.Rows.{ChipData}
use Rattle.rl_model.specs.declared.rows.Item.{Item}
use Rattle.rl_model.specs.declared.rows.Item.TheVariants.{Reg, Mem}
use Rattle.rl_mirror.specs.Mirror.{mirrored_of}
use Rattle.rl_access.specs.declared.event.Op.TheVariants as op
use Rattle.rl_access.specs.Rules.{memory_size}
use Rattle.rl_seq.specs.declared.sequence.Sequence.{Sequence}
use Rattle.rl_seq.specs.declared.sequence.Sequence.TheVariants.{HwReset, BitBash, Access, Shared, MemWalk}
use Rattle.rl_seq.specs.Choice.{is_reg_tested, is_accessed, is_shared, is_walked, is_of, may_read, may_write, is_bit_compared, low_bits, turned_round, exclusion_from}
use Rattle.rl_seq.specs.Plan.{Plan, stop, step, look, followed_by, only_if, each_below}

abbrev pub map_at : LayoutData → ℕ → ℕ
map_at l place = (place_at l place).map

-- ---- hardware reset: a check at each place that may be read

-- uvm_reg_hw_reset_seq (IEEE 1800.2-2017, Annex E) checks a register at a place. The steps are this project's own.
abbrev pub check_at : LayoutData → (reg place : ℕ) → Plan
check_at l reg place = step (op.Check reg (Some (map_at l place))) stop

-- ---- bit bash: each compared bit is turned round twice, and checked each time

abbrev pub bash_once : (reg map bit : ℕ) → Plan
bash_once reg map bit = look (λ m.
    step (op.Write reg (Some map) (bit_xor (mirrored_of m.mirror reg) (2 ^ bit)))
    (step (op.Check reg (Some map)) stop))

-- uvm_reg_bit_bash_seq (IEEE 1800.2-2017, Annex E) turns a compared bit round twice. The steps are this project's own.
abbrev pub bash_bit : ChipData → (reg map bit : ℕ) → Plan
bash_bit c reg map bit =
    only_if (is_bit_compared c reg bit) (followed_by (bash_once reg map bit) (bash_once reg map bit))

-- ---- access: over the bus and checked by the backdoor, and then the other way round

abbrev pub access_with : ChipData → (reg map value : ℕ) → Plan
access_with c reg map value =
    step (op.Write reg (Some map) (turned_round c (Reg reg) value))
    (step (op.BackCheck reg)
    (step (op.BackWrite reg value)
    (step (op.Check reg (Some map)) stop)))

-- uvm_reg_access_seq (IEEE 1800.2-2017, Annex E) writes and checks a register over the bus and by the backdoor. The
-- steps are this project's own.
abbrev pub access_at : ChipData → (reg map : ℕ) → Plan
access_at c reg map = look (λ m. access_with c reg map (mirrored_of m.mirror reg))

-- ---- shared access: a write, and then a check at each other place that may be read

abbrev pub write_turned : ChipData → LayoutData → (reg place value : ℕ) → Plan → Plan
write_turned c l reg place value rest =
    step (op.Write reg (Some (map_at l place)) (turned_round c (Reg reg) value)) rest

abbrev pub check_other : LayoutData → (reg written place : ℕ) → Plan
check_other l reg written place =
    only_if (not (place == written) && (is_of l place (Reg reg) && may_read l place)) (check_at l reg place)

-- uvm_reg_shared_access_seq (IEEE 1800.2-2017, Annex E) writes a register at a place and checks it at each other one.
-- The steps are this project's own.
abbrev pub share_at : ChipData → LayoutData → (reg place : ℕ) → Plan
share_at c l reg place = look (λ m.
    write_turned c l reg place (mirrored_of m.mirror reg) (each_below (length l.places) (check_other l reg place)))

-- ---- memory walk: each location takes its number turned round;
-- then the one before it is checked, and takes its own number

abbrev pub fill : ChipData → (mem map k : ℕ) → Plan
fill c mem map k = step (op.MemWrite mem (Some map) k (turned_round c (Mem mem) k)) stop

abbrev pub check_filled : ChipData → (mem map k : ℕ) → Plan
check_filled c mem map k = step (op.MemCheck mem (Some map) k (turned_round c (Mem mem) k)) stop

abbrev pub write_number : ChipData → (mem map k : ℕ) → Plan
write_number c mem map k = step (op.MemWrite mem (Some map) k (low_bits c (Mem mem) k)) stop

abbrev pub settle_before : ChipData → (mem map k : ℕ) → Plan
settle_before c mem map zero = stop
settle_before c mem map (suc k) = followed_by (check_filled c mem map k) (write_number c mem map k)

-- the last location is checked
abbrev pub check_last : ChipData → (mem map k : ℕ) → Plan
check_last c mem map k = only_if (k + 1 == memory_size c mem) (check_filled c mem map k)

-- uvm_mem_walk_seq (IEEE 1800.2-2017, Annex E) fills a location of a memory and goes back to the one before it. The
-- steps are this project's own.
abbrev pub walk_location : ChipData → (mem map k : ℕ) → Plan
walk_location c mem map k =
    followed_by (fill c mem map k) (followed_by (settle_before c mem map k) (check_last c mem map k))

-- ---- what each goes over

abbrev pub items_of : Sequence → ChipData → ℕ
items_of MemWalk c = length c.mems
items_of _ c = length c.regs

abbrev pub item_of : Sequence → ℕ → Item
item_of MemWalk n = Mem n
item_of _ n = Reg n

-- the sequence chooses the register or memory
abbrev pub is_chosen : Sequence → ChipData → LayoutData → Option ℕ → ℕ → Bool
is_chosen HwReset c l block reg = is_reg_tested c reg block (exclusion_from HwReset)
is_chosen BitBash c l block reg = is_reg_tested c reg block (exclusion_from BitBash)
is_chosen Access c l block reg = is_accessed c reg block
is_chosen Shared c l block reg = is_shared c l reg block
is_chosen MemWalk c l block mem = is_walked c mem block

-- the place has the rights that the sequence needs
abbrev pub has_rights : Sequence → LayoutData → ℕ → Bool
has_rights HwReset l place = may_read l place
has_rights Shared l place = may_write l place
has_rights _ l place = may_read l place && may_write l place

-- the place is one of the item's, and has these rights
abbrev pub is_visited : Sequence → LayoutData → (number place : ℕ) → Bool
is_visited which l number place = is_of l place (item_of which number) && has_rights which l place

-- what it does at a place
abbrev pub at_place : Sequence → ChipData → LayoutData → (number place : ℕ) → Plan
at_place HwReset c l reg place = check_at l reg place
at_place BitBash c l reg place = each_below (8 * size_of c reg) (bash_bit c reg (map_at l place))
at_place Access c l reg place = access_at c reg (map_at l place)
at_place Shared c l reg place = share_at c l reg place
at_place MemWalk c l mem place = each_below (memory_size c mem) (walk_location c mem (map_at l place))

-- ---- the sequences

abbrev pub visit : Sequence → ChipData → LayoutData → (number place : ℕ) → Plan
visit which c l number place = only_if (is_visited which l number place) (at_place which c l number place)

abbrev pub visit_all : Sequence → ChipData → LayoutData → Option ℕ → (number : ℕ) → Plan
visit_all which c l block number =
    only_if (is_chosen which c l block number) (each_below (length l.places) (visit which c l number))

abbrev pub walk : Sequence → ChipData → LayoutData → Option ℕ → Plan
walk which c l block = each_below (items_of which c) (visit_all which c l block)

-- a hardware reset begins with a hard reset, and no other sequence with anything
abbrev pub beginning_of : Sequence → Plan
beginning_of HwReset = step (op.Reset 0) stop
beginning_of _ = stop

-- the plan of a sequence, by its name
abbrev pub plan_of : Sequence → ChipData → LayoutData → Option ℕ → Plan
plan_of which c l block = followed_by (beginning_of which) (walk which c l block)
