-- The words of an item are a partition of its bytes.
use Rattle.std.specs.Prelude.{◌≡◌, ℕ, ◌%◌, ◌^◌, ◌<◌, ◌≤◌, IsTrue, IsBitSet, Bool, true, false, ◌||◌, List, [], ◌∷◌, length, slice_index, slice_index_or}
use Rattle.rl_bus.specs.Spread.{lane_bit, AreInCell}
use Rattle.rl_bus.specs.declared.op.AdapterKind.{AdapterKind}
use Rattle.rl_map.specs.declared.seat.Seat.{Seat}
use Rattle.rl_map.specs.declared.word.Word.{Word}
use Rattle.rl_map.specs.Words.{orders_below, no_seat, no_word, lanes_of}

-- ---- by bits

-- a word carries the byte of bit b
abbrev pub has_bit : Word → ℕ → Bool
has_bit w b = lane_bit (lanes_of w) b

-- some word does
abbrev pub have_bit : List Word → ℕ → Bool
have_bit [] b = false
have_bit (w ∷ ws) b = has_bit w b || have_bit ws b

-- no byte stands in two words
abbrev pub AreParts : List Word → Type 0
AreParts [] = Unit {0}
AreParts (w ∷ ws) = ((b : ℕ) → has_bit w b ≡ true → have_bit ws b ≡ false) × AreParts ws

-- ---- by numbers

-- the seats of bytes that share no lane of a word, at orders below `n`
pub record AreApart (seats : List Seat) (n : ℕ) : Type 0 where
  pub distinct : (i j : ℕ) → i < length seats → j < length seats
      → (slice_index_or seats i no_seat).order ≡ (slice_index_or seats j no_seat).order
      → (slice_index_or seats i no_seat).lane ≡ (slice_index_or seats j no_seat).lane → i ≡ j
  pub one_address : (i j : ℕ) → i < length seats → j < length seats
      → (slice_index_or seats i no_seat).order ≡ (slice_index_or seats j no_seat).order
      → (slice_index_or seats i no_seat).address ≡ (slice_index_or seats j no_seat).address
  pub order_in : (i : ℕ) → i < length seats → (slice_index_or seats i no_seat).order < n
  pub lane_in : (i : ℕ) → i < length seats → (slice_index_or seats i no_seat).lane < 8

-- the number of the word that has an order
abbrev pub number_of : List Seat → ℕ → ℕ
number_of seats order = length (orders_below seats order)

-- a byte is at a lane of a word: the lane is enabled, and names the byte
pub record Carries (word : Word) (lane byte : ℕ) : Type 0 where
  pub enabled : IsBitSet word.lanes lane
  pub byte_is : slice_index word.bytes lane ≡ byte

-- each byte stands at one lane of one word, and each enabled lane has a byte
pub record IsPartition (seats : List Seat) (words : List Word) : Type 0 where
  -- each byte is at one lane of one word, and that is where its seat says
  pub placed : (j : ℕ) → j < length seats
      → (number_of seats (slice_index_or seats j no_seat).order < length words)
      × Carries (slice_index_or words (number_of seats (slice_index_or seats j no_seat).order) no_word)
      (slice_index_or seats j no_seat).lane j
  pub lane_in : (j : ℕ) → j < length seats → (slice_index_or seats j no_seat).lane < 8
  -- each enabled lane of each word has a byte of the item, whose seat is that word and that lane
  pub sound : (k lane : ℕ) → k < length words → lane < 8 → IsBitSet (slice_index_or words k no_word).lanes lane
      → let byte = slice_index (slice_index_or words k no_word).bytes lane in
      (byte < length seats) × (number_of seats (slice_index_or seats byte no_seat).order ≡ k)
      × (slice_index_or seats byte no_seat
      ≡ record {
        order = (slice_index_or words k no_word).order;
        address = (slice_index_or words k no_word).address;
        lane = lane;
      })
  -- the words stand by ascending order
  pub ascending : (i k : ℕ)
      → i < k → k < length words
      → (slice_index_or words i no_word).order < (slice_index_or words k no_word).order

-- ---- what an adapter carries

-- a word that fits a port of this width under this kind of adapter
pub record IsWordOn (kind : AdapterKind) (port_bytes : ℕ) (w : Word) : Type 0 where
  pub some : 0 < w.lanes
  pub enabled : w.lanes < 2 ^ port_bytes
  pub eight : length w.bytes ≡ 8
  pub bytes : AreInCell (lanes_of w)
  pub address : w.address ≤ kind.most_address
  pub aligned : IsTrue kind.aligned → w.address % port_bytes ≡ 0
