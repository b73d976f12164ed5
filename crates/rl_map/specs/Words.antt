-- The words of an item: the bytes that one bus item carries.
use Rattle.std.specs.Prelude.{ℕ, ◌+◌, ◌^◌, Bool, ◌==◌, ◌&&◌, if◌then◌else◌, Option, zero, suc, List, [], ◌∷◌, ◌++◌, map, filter, None, Some, is_some, unwrap_or}
use Rattle.std.specs.List.{list_any, range_with_len}
use Rattle.rl_bus.specs.declared.table.Lanes.{Lanes}
use Rattle.rl_map.specs.declared.path.Level.{Level}
use Rattle.rl_map.specs.declared.seat.Location.{Location}
use Rattle.rl_map.specs.declared.seat.Seat.{Seat}
use Rattle.rl_map.specs.declared.word.Word.{Word}
use Rattle.rl_map.specs.Seat.{seat_of, slots}

-- the number whose bit `k` is set where `test k`, for each `k` below `n`
abbrev pub mask_of : (ℕ → Bool) → ℕ → ℕ
mask_of test zero = 0
mask_of test (suc n) = mask_of test n + (if test n then 2 ^ n else 0)

-- the byte of an item at a lane of the word with an order, where the seats are those of byte `first` and up
abbrev pub byte_from : ℕ → List Seat → ℕ → ℕ → Option ℕ
byte_from first [] order lane = None
byte_from first (seat ∷ seats) order lane =
    if (seat.order == order) && (seat.lane == lane) then Some first else byte_from (first + 1) seats order lane

abbrev pub byte_at : List Seat → ℕ → ℕ → Option ℕ
byte_at seats order lane = byte_from 0 seats order lane

-- the address of the first byte with an order
abbrev pub address_at : List Seat → ℕ → ℕ
address_at [] order = 0
address_at (seat ∷ seats) order = if seat.order == order then seat.address else address_at seats order

-- the word of the bytes with an order
abbrev pub word_of : List Seat → ℕ → Word
word_of seats order = record {
  order = order;
  address = address_at seats order;
  lanes = mask_of (λ lane. is_some (byte_at seats order lane)) 8;
  bytes = map (λ lane. unwrap_or (byte_at seats order lane) 0) (range_with_len 0 8);
}

-- the numbers below `n` that are the order of a byte, in ascending order
abbrev pub orders_below : List Seat → ℕ → List ℕ
orders_below seats zero = []
orders_below seats (suc n) =
    if list_any (λ seat. seat.order == n) seats then orders_below seats n ++ n ∷ [] else orders_below seats n

abbrev pub words_below : List Seat → ℕ → List Word
words_below seats n = map (word_of seats) (orders_below seats n)

-- the seats of an item's bytes
abbrev pub seats_of : List Level → ℕ → Location → List Seat
seats_of path base item = map (seat_of path base item) (range_with_len 0 item.bytes)

-- the words of an item, in the order in which they are sent
abbrev pub item_words : List Level → ℕ → Location → List Word
item_words path base item = words_below (seats_of path base item) (slots item.bytes path)

-- those that stand at an address
abbrev pub words_with : ℕ → List Word → List Word
words_with address words = filter (λ w. w.address == address) words

-- which byte of the item each lane of a word carries
abbrev pub lanes_of : Word → Lanes
lanes_of w = record { enabled = w.lanes; bytes = w.bytes }

abbrev pub no_seat : Seat
no_seat = record { order = 0; address = 0; lane = 0 }

abbrev pub no_word : Word
no_word = record { order = 0; address = 0; lanes = 0; bytes = [] }
