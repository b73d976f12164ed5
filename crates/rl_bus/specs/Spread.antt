-- The bytes of a cell in the lanes of a bus word.
use Rattle.std.specs.Prelude.{ℕ, zero, suc, ◌+◌, ◌*◌, ◌/◌, ◌%◌, ◌<◌, ◌==◌, Bool, false, ◌&&◌, if◌then◌else◌, Option, Some, None, is_some, slice_index, bit_and}
use Rattle.rl_policy.specs.Bits.{bit}
use Rattle.rl_bus.specs.declared.table.Lanes.{Lanes}

-- each lane carries one of the eight bytes
abbrev pub AreInCell : Lanes → Type 0
AreInCell s = (l : ℕ) → l < 8 → slice_index s.bytes l < 8

-- the lane below n that carries this byte
unfoldable pub lane_below : ℕ → Lanes → ℕ → Option ℕ
lane_below zero s byte = None
lane_below (suc l) s byte =
    if bit s.enabled l && (slice_index s.bytes l == byte) then Some l else lane_below l s byte

-- the bit of a word that a lane brings to place i of its byte
abbrev pub bit_in : Option ℕ → (ℕ → Bool) → ℕ → Bool
bit_in None word i = false
bit_in (Some l) word i = word (8 * l + i)

-- bit b of what a word brings to the cell
abbrev pub spread_bit : Lanes → (ℕ → Bool) → ℕ → Bool
spread_bit s word b = bit_in (lane_below 8 s (b / 8)) word (b % 8)

-- some lane carries the byte of bit b
abbrev pub lane_bit : Lanes → ℕ → Bool
lane_bit s b = is_some (lane_below 8 s (b / 8))

-- bit b of the word that carries these bits of a cell in its lanes, and 0 in the others
abbrev pub gathered_bit : Lanes → (ℕ → Bool) → ℕ → Bool
gathered_bit s bits b = bit s.enabled (b / 8) && bits (8 * slice_index s.bytes (b / 8) + b % 8)

-- those lanes that an item enables as well
abbrev pub lanes_in : Lanes → ℕ → Lanes
lanes_in s lanes = record s { enabled = bit_and lanes s.enabled }
