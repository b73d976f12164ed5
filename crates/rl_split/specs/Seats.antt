-- The operations and the value of an access by the seats of the item's bytes.
use Rattle.std.specs.Prelude.{◌≡◌, ℕ, ◌+◌, ◌*◌, ◌<◌, Bool, ◌&&◌, ◌==◌, List, length, slice_index, true, false, get_or}
use Rattle.std.specs.List.{position_or_len}
use Rattle.rl_policy.specs.Bits.{bit}
use Rattle.rl_bus.specs.declared.op.BusOp.{BusOp}
use Rattle.rl_map.specs.Layout.{LayoutData, place_at, seat_at, IsSound, IsLocation}
use Rattle.rl_split.specs.Access.{IsChoice, ops_of, orders_of, joined}

-- the number of the operation that carries a byte: its word has the order of the byte's seat
abbrev pub number_at : LayoutData → (place index chosen byte : ℕ) → ℕ
number_at l place index chosen byte =
    position_or_len (λ o. o == (seat_at l place index byte).order) (orders_of l place index chosen)

-- each chosen byte of the value is that of its answer at the lane of its seat, and any other byte is 0
abbrev pub ValueIsBySeats : Type 0
ValueIsBySeats =
    (l : LayoutData) (place index chosen : ℕ) (answers : List ℕ)
    → IsSound l → IsLocation l place index → IsChoice (place_at l place).bytes chosen
    → length answers ≡ length (orders_of l place index chosen)
    → (byte i : ℕ) → byte < 8 → i < 8
    → let seat = seat_at l place index byte in
    bit (joined l place index chosen answers) (8 * byte + i)
    ≡ (bit chosen byte && bit (slice_index answers (number_at l place index chosen byte)) (8 * seat.lane + i))

-- past the end of a list of operations
abbrev pub no_op : BusOp
no_op = record { write = false; address = 0; word = 0; lanes = 0; bytes = 0 }

-- the operation that carries a byte
abbrev pub op_at : LayoutData → (place index chosen value : ℕ) → (write : Bool) → (byte : ℕ) → BusOp
op_at l place index chosen value write byte =
    get_or (ops_of l place index chosen value write) (number_at l place index chosen byte) no_op

-- it is one of the access's, it goes to the address of the byte's seat, and a write has the byte in the seat's lane
pub record IsCarried (l : LayoutData) (place index chosen value : ℕ) (write : Bool) (byte : ℕ) : Type 0 where
  pub number_in : number_at l place index chosen byte < length (ops_of l place index chosen value write)
  pub address : (op_at l place index chosen value write byte).address ≡ (seat_at l place index byte).address
  pub lane : bit (op_at l place index chosen value write byte).lanes (seat_at l place index byte).lane ≡ true
  pub bits : (i : ℕ) → i < 8
      → bit (op_at l place index chosen value write byte).word (8 * (seat_at l place index byte).lane + i)
      ≡ (write && bit value (8 * byte + i))

-- so it is with each chosen byte
abbrev pub OperationsAreBySeats : Type 0
OperationsAreBySeats =
    (l : LayoutData) (place index chosen value : ℕ) (write : Bool)
    → IsSound l → IsLocation l place index → IsChoice (place_at l place).bytes chosen
    → (byte : ℕ) → bit chosen byte ≡ true → IsCarried l place index chosen value write byte
