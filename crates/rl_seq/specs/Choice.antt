-- Which registers, memories, places and bits a sequence goes over.
use Rattle.std.specs.Prelude.{ℕ, zero, suc, ◌+◌, ◌-◌, ◌*◌, ◌^◌, ◌%◌, ◌==◌, nat_le, bit_and, Bool, true, false, not, if◌then◌else◌, ◌&&◌, ◌||◌, length, unwrap_or, Option, None, Some}
use Rattle.std.specs.Option.{option_map_or}
use Rattle.rl_map.specs.Layout.{LayoutData, place_at, has_right, same_item}
use Rattle.rl_model.specs.Chip.{backdoor_of, skip_of, is_inside, path_at, path_of_item}
use Rattle.rl_model.specs.Rows.{ChipData}
use Rattle.rl_model.specs.declared.rows.Item.{Item}
use Rattle.rl_model.specs.declared.rows.Item.TheVariants.{Reg, Mem}
use Rattle.rl_mirror.specs.Compared.{is_compared}
use Rattle.rl_model.specs.Fields.{field_of, first_of, count_of}
use Rattle.rl_policy.specs.Bits.{is_within}
use Rattle.rl_policy.specs.declared.policy.Policy.{Policy}
use Rattle.rl_policy.specs.declared.policy.Policy.TheVariants.{Ro}
use Rattle.rl_access.specs.Rules.{is_writable, item_size}
use Rattle.rl_seq.specs.declared.sequence.Sequence.{Sequence}
use Rattle.rl_seq.specs.declared.sequence.Sequence.TheVariants.{HwReset, BitBash, Access, Shared, MemWalk}

-- The exclusion from every sequence of registers, as a bit (the resource NO_REG_TESTS, IEEE 1800.2-2017, Annex E).
abbrev pub no_reg_tests : ℕ
no_reg_tests = 1

-- The exclusion from each sequence, as a bit, by the name of its resource (IEEE 1800.2-2017, Annex E).
abbrev pub exclusion_from : Sequence → ℕ
exclusion_from HwReset = 2
exclusion_from BitBash = 4
exclusion_from Access = 8
exclusion_from Shared = 16
exclusion_from MemWalk = 32

-- an exclusion names the item
abbrev pub is_excluded : ChipData → Item → ℕ → Bool
is_excluded c item skip = option_map_or (λ s. bit_and s.bits skip == skip) (skip_of c item) false

-- the item stands in the block, or no block is named
abbrev pub is_in_block : ChipData → Item → Option ℕ → Bool
is_in_block c item None = true
is_in_block c item (Some block) = is_inside (path_at c block) (path_of_item c item)

abbrev pub is_tested : ChipData → Item → Option ℕ → ℕ → Bool
is_tested c item block skip = is_in_block c item block && not (is_excluded c item skip)

abbrev pub is_reg_tested : ChipData → ℕ → Option ℕ → ℕ → Bool
is_reg_tested c reg block skip =
    is_tested c (Reg reg) block skip && is_tested c (Reg reg) block no_reg_tests

-- the place is the item's
abbrev pub is_of : LayoutData → ℕ → Item → Bool
is_of l place item = same_item (place_at l place).item item

abbrev pub may_read : LayoutData → ℕ → Bool
may_read l place = has_right (place_at l place).rights false

abbrev pub may_write : LayoutData → ℕ → Bool
may_write l place = has_right (place_at l place).rights true

-- for some number below the count
abbrev pub any_below : ℕ → (ℕ → Bool) → Bool
any_below zero p = false
any_below (suc n) p = any_below n p || p n

-- the bit belongs to a field that checks compare
abbrev pub is_bit_compared : ChipData → (reg bit : ℕ) → Bool
is_bit_compared c reg bit = any_below (count_of c reg) (λ k.
    let f = (field_of c (first_of c reg + k)).shape in
    is_within f.lsb f.width bit && is_compared f)

-- ---- access, shared access and memory walk

-- the low bits, as many as the item's bytes have
abbrev pub low_bits : ChipData → Item → ℕ → ℕ
low_bits c item v = v % 2 ^ (8 * item_size c item)

-- all of these bits turned round
abbrev pub turned_round : ChipData → Item → ℕ → ℕ
turned_round c item v = 2 ^ (8 * item_size c item) - 1 - low_bits c item v

abbrev pub is_read_only : Policy → Bool
is_read_only Ro = true
is_read_only _ = false

-- a field of the register isn't RO
abbrev pub has_writable_field : ChipData → ℕ → Bool
has_writable_field c reg =
    any_below (count_of c reg) (λ k. not (is_read_only (field_of c (first_of c reg + k)).shape.policy))

abbrev pub is_accessed : ChipData → ℕ → Option ℕ → Bool
is_accessed c reg block =
    (is_reg_tested c reg block (exclusion_from Access) && unwrap_or (backdoor_of c (Reg reg)) false)
    && has_writable_field c reg

-- how many numbers below the count
abbrev pub count_below : ℕ → (ℕ → Bool) → ℕ
count_below zero p = 0
count_below (suc n) p = count_below n p + (if p n then 1 else 0)

abbrev pub places_of : LayoutData → Item → ℕ
places_of l item = count_below (length l.places) (λ k. is_of l k item)

abbrev pub is_shared : ChipData → LayoutData → ℕ → Option ℕ → Bool
is_shared c l reg block =
    is_reg_tested c reg block (exclusion_from Shared) && nat_le 2 (places_of l (Reg reg))

abbrev pub is_walked : ChipData → ℕ → Option ℕ → Bool
is_walked c mem block = is_tested c (Mem mem) block (exclusion_from MemWalk) && is_writable c mem
