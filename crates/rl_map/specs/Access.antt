-- One byte on its way up a path of maps.
use Rattle.std.specs.Prelude.{◌≡◌, ℕ, ◌+◌, ◌-◌, ◌*◌, ◌/◌, ◌%◌, ◌<◌, ◌≤◌, List, [], ◌∷◌, fold, true, false, if◌then◌else◌}
use Rattle.std.specs.Int.{div_ceil}
use Rattle.rl_map.specs.declared.path.Kind.{Kind}
use Rattle.rl_map.specs.declared.path.Kind.TheVariants.{Little, Big, LittleFifo, BigFifo}
use Rattle.rl_map.specs.declared.path.Level.{Level}
use Rattle.rl_map.specs.declared.seat.Access.{Access}
use Rattle.rl_map.specs.Level.{stride_of}

-- How many of the `count` chunks go before chunk `i`. The order in time is this project's own.
abbrev pub place_in_time : Kind → ℕ → ℕ → ℕ
place_in_time Little count i = i
place_in_time Big count i = count - 1 - i
place_in_time LittleFifo count i = i
place_in_time BigFifo count i = count - 1 - i

-- The address of chunk `i` of `count`, where words are `stride` apart: UVM_LITTLE_ENDIAN, UVM_BIG_ENDIAN,
-- UVM_LITTLE_FIFO and UVM_BIG_FIFO (uvm_reg_map, IEEE 1800.2-2017, 18.2).
abbrev pub address_of : Kind → ℕ → ℕ → ℕ → ℕ → ℕ
address_of Little start stride count i = start + stride * i
address_of Big start stride count i = start + stride * (count - 1 - i)
address_of LittleFifo start stride count i = start
address_of BigFifo start stride count i = start

-- Where the words of an access start in the map above it, before the offset. The scale between byte and word addresses
-- is this project's own.
abbrev pub carried : Access → Level → ℕ
carried access level =
    let count = div_ceil access.bytes level.bytes in
    if access.word then access.address * count * stride_of level
    else if level.word then access.address / access.bytes * count
    else access.address

-- one byte of an access goes through a map: it is a byte of one chunk, which is the access of the map above
abbrev pub through : Access → Level → Access
through access level =
    let count = div_ceil access.bytes level.bytes in
    let chunk = access.byte / level.bytes in
    record {
      bytes = level.bytes;
      word = level.word;
      offset = level.offset;
      address = address_of level.kind (access.offset + carried access level) (stride_of level) count chunk;
      byte = access.byte % level.bytes;
      order = access.order * count + place_in_time level.kind count chunk;
    }

-- up the whole path
abbrev pub climb : Access → List Level → Access
climb access path = fold through access path

-- a byte of an access of 1 to 8 bytes
pub record IsAccess (access : Access) : Type 0 where
  pub within : access.byte < access.bytes
  pub most : access.bytes ≤ 8

-- where a byte-addressed map stands in a word-addressed one, its word stands at a multiple of its width
abbrev pub IsAligned : Access → List Level → Type 0
IsAligned access [] = Unit {0}
IsAligned access (level ∷ up) =
    (access.word ≡ false → level.word ≡ true → access.address % access.bytes ≡ 0) × IsAligned (through access level) up
