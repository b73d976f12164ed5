-- Where each byte of an item is on the bus.
use Rattle.std.specs.Prelude.{◌≡◌, ℕ, ◌+◌, ◌*◌, ◌^◌, ◌<◌, List, [], ◌∷◌, true, false}
use Rattle.std.specs.Int.{div_ceil}
use Rattle.rl_map.specs.declared.path.Level.{Level}
use Rattle.rl_map.specs.declared.seat.Access.{Access}
use Rattle.rl_map.specs.declared.seat.Location.{Location}
use Rattle.rl_map.specs.declared.seat.Seat.{Seat}
use Rattle.rl_map.specs.Level.{has_fifo}
use Rattle.rl_map.specs.Access.{climb, IsAligned}

-- an item is a word-addressed child of its own map: location `index` is its word number `index`
abbrev pub access_of : Location → ℕ → Access
access_of item byte = record {
  bytes = item.bytes;
  word = true;
  offset = item.offset;
  address = item.index;
  byte = byte;
  order = 0;
}

-- The order, the bus address and the lane of a byte. That a narrower child map is right-justified is this project's
-- own.
abbrev pub seat_of : List Level → ℕ → Location → ℕ → Seat
seat_of path base item byte =
    let top = climb (access_of item byte) path in
    record { order = top.order; address = base + top.address; lane = top.byte }

-- each byte of the item has a bus address of 64 bits
abbrev pub AddressesFit : List Level → ℕ → Location → Type 0
AddressesFit path base item = (byte : ℕ) → byte < item.bytes → (seat_of path base item byte).address < 2 ^ 64

-- how many orders an access of `bytes` bytes may have: the product of the counts of chunks up the path
abbrev pub slots : ℕ → List Level → ℕ
slots bytes [] = 1
slots bytes (level ∷ up) = div_ceil bytes level.bytes * slots level.bytes up

-- the bytes of an item stand apart: those of one order share an address, and no two share a lane there
pub record SeatsApart (path : List Level) (base : ℕ) (item : Location) : Type 0 where
  pub distinct : (i j : ℕ) → i < item.bytes → j < item.bytes
      → (seat_of path base item i).order ≡ (seat_of path base item j).order
      → (seat_of path base item i).lane ≡ (seat_of path base item j).lane → i ≡ j
  pub one_address : (i j : ℕ) → i < item.bytes → j < item.bytes
      → (seat_of path base item i).order ≡ (seat_of path base item j).order
      → (seat_of path base item i).address ≡ (seat_of path base item j).address
  pub order_in : (i : ℕ) → i < item.bytes → (seat_of path base item i).order < slots item.bytes path
  pub lane_in : (i : ℕ) → i < item.bytes → (seat_of path base item i).lane < 8

-- Outside FIFO paths two words of an item, or of two locations of it, stand at two addresses: one address is that of
-- one location and one order.
abbrev pub AddressesApart : List Level → ℕ → Location → Type 0
AddressesApart path base item = (m n i j : ℕ) → i < item.bytes → j < item.bytes
    → has_fifo path ≡ false
    → IsAligned (access_of (record item { index = m }) i) path
    → IsAligned (access_of (record item { index = n }) j) path
    → (seat_of path base (record item { index = m }) i).address
    ≡ (seat_of path base (record item { index = n }) j).address
    → (m ≡ n)
    × ((seat_of path base (record item { index = m }) i).order
    ≡ (seat_of path base (record item { index = n }) j).order)
