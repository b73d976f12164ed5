-- What holds of every path and every item.
use Rattle.std.specs.Prelude.{◌≡◌, ℕ, zero, suc, ◌+◌, ◌*◌, ◌/◌, ◌%◌, ◌<◌, ◌≤◌, ◌==◌, if◌then◌else◌, List, [], ◌∷◌, All, false}
use Rattle.std.specs.Int.{div_ceil}
use Rattle.rl_map.specs.declared.path.Level.{Level}
use Rattle.rl_map.specs.declared.seat.Access.{Access}
use Rattle.rl_map.specs.declared.seat.Location.{Location}
use Rattle.rl_map.specs.declared.seat.Seat.{Seat}
use Rattle.rl_map.specs.Level.{IsPath, stride_of}
use Rattle.rl_map.specs.Access.{carried, place_in_time, address_of}
use Rattle.rl_map.specs.Seat.{seat_of, SeatsApart, AddressesApart}
use Rattle.rl_map.specs.Words.{seats_of, item_words}
use Rattle.rl_map.specs.Partition.{IsPartition}

-- by every path the bytes of an item stand apart
abbrev pub EverySeatApart : Type 0
EverySeatApart =
    (path : List Level) (base : ℕ) (item : Location) → IsPath path → item.bytes ≤ 8 → SeatsApart path base item

-- by every path without a FIFO kind an address is that of one word of one location
abbrev pub EveryAddressApart : Type 0
EveryAddressApart =
    (path : List Level) (base : ℕ) (item : Location) → IsPath path → item.bytes ≤ 8 → AddressesApart path base item

-- by every path the words of an item are a partition of its bytes
abbrev pub EveryItemPartitioned : Type 0
EveryItemPartitioned =
    (path : List Level) (base : ℕ) (item : Location)
    → IsPath path → item.bytes ≤ 8
    → IsPartition (seats_of path base item) (item_words path base item)

-- ---- byte addresses

-- a seat by byte addresses alone: `offset` is that of the child, and nothing is scaled between two maps
abbrev pub byte_climb : ℕ → List Level → ℕ → ℕ → ℕ → ℕ → ℕ → Seat
byte_climb base [] offset address bytes byte order = record { order = order; address = base + address; lane = byte }
byte_climb base (level ∷ up) offset address bytes byte order =
    let count = div_ceil bytes level.bytes in
    let chunk = byte / level.bytes in
    byte_climb base up level.offset (address_of level.kind (offset + address) level.bytes count chunk)
    level.bytes (byte % level.bytes)
    (order * count + place_in_time level.kind count chunk)

-- location `index` of an item stands that many items further, in whole words of its own map
abbrev pub byte_seat_of : List Level → ℕ → Location → ℕ → Seat
byte_seat_of [] base item byte = record { order = 0; address = base + item.index; lane = byte }
byte_seat_of (level ∷ up) base item byte =
    byte_climb base (level ∷ up) item.offset (item.index * level.bytes * div_ceil item.bytes level.bytes)
    item.bytes byte 0

-- where no map counts words, the seats are those by byte addresses
abbrev pub ByteAddressedAlike : Type 0
ByteAddressedAlike = (path : List Level) (base : ℕ) (item : Location) (byte : ℕ)
    → All (λ level. level.word ≡ false) path → seat_of path base item byte ≡ byte_seat_of path base item byte

-- ---- addresses by counting

-- What unit number `unit` of a child's addresses takes of its parent's: a word as many words as its bytes fill,
-- and a byte a byte. Where the child counts bytes and the parent words, the last byte of each word of the child
-- takes that word's.
abbrev pub units_of : Access → Level → ℕ → ℕ
units_of access level unit =
    let count = div_ceil access.bytes level.bytes in
    if access.word then count * stride_of level
    else if level.word then (if (unit + 1) % access.bytes == 0 then count else 0)
    else 1

-- the units of the parent that go before an address of the child
abbrev pub units_before : Access → Level → (address : ℕ) → ℕ
units_before access level zero = 0
units_before access level (suc unit) = units_before access level unit + units_of access level unit

-- an access starts in the map above it behind the units that go before its address
abbrev pub EveryAddressCounted : Type 0
EveryAddressCounted =
    (access : Access) (level : Level)
    → 0 < access.bytes
    → carried access level ≡ units_before access level access.address
