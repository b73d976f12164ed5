-- The operations of an access, and the value that their answers bring.
use Rattle.std.specs.Prelude.{ℕ, ◌-◌, ◌^◌, ◌<◌, Bool, false, not, ◌&&◌, ◌||◌, ◌==◌, if◌then◌else◌, List, [], ◌∷◌, map, filter, slice_index}
use Rattle.rl_policy.specs.Bits.{bit, from_bits}
use Rattle.rl_bus.specs.declared.op.AdapterKind.{AdapterKind}
use Rattle.rl_bus.specs.declared.op.BusOp.{BusOp}
use Rattle.rl_bus.specs.declared.table.Lanes.{Lanes}
use Rattle.rl_bus.specs.Lanes.{all_lanes}
use Rattle.rl_bus.specs.Spread.{spread_bit, gathered_bit}
use Rattle.rl_map.specs.declared.word.Word.{Word}
use Rattle.rl_map.specs.Layout.{LayoutData, port_at, place_at, words_of}

-- ---- the words of an access

-- bit j of a choice stands for byte j of the item: some byte is chosen, and none past the last one
pub record IsChoice (bytes chosen : ℕ) : Type 0 where
  pub some : 0 < chosen
  pub within : chosen < 2 ^ bytes

abbrev pub all_bytes : ℕ → ℕ
all_bytes bytes = 2 ^ bytes - 1

-- the lanes of a word whose bytes are chosen
abbrev pub chosen_lanes : ℕ → Word → ℕ
chosen_lanes chosen w = from_bits 8 (λ l. bit w.lanes l && bit chosen (slice_index w.bytes l))

-- and which byte each of them carries
abbrev pub lanes_for : ℕ → Word → Lanes
lanes_for chosen w = record { enabled = chosen_lanes chosen w; bytes = w.bytes }

abbrev pub has_chosen : ℕ → Word → Bool
has_chosen chosen w = not (chosen_lanes chosen w == 0)

-- The words with a chosen byte, in order. Their order in time is this project's own.
abbrev pub sent_words : ℕ → List Word → List Word
sent_words chosen words = filter (has_chosen chosen) words

-- ---- the operation of a word

-- Without byte enables in its direction an operation has all lanes (uvm_reg_adapter::supports_byte_enable, IEEE
-- 1800.2-2017, 19.2).
abbrev pub enabled_lanes : Bool → (bus_bytes chosen : ℕ) → Word → ℕ
enabled_lanes carried bus_bytes chosen w = if carried then chosen_lanes chosen w else all_lanes bus_bytes

-- each chosen byte of the value in its lane, and 0 elsewhere
abbrev pub word_of : (chosen value : ℕ) → Word → ℕ
word_of chosen value w = from_bits 64 (gathered_bit (lanes_for chosen w) (bit value))

abbrev pub carries_lanes : AdapterKind → Bool → Bool
carries_lanes kind write = if write then kind.write_lanes else kind.read_lanes

-- The operation of a word: kind, address, data and byte enables (uvm_reg_bus_op, IEEE 1800.2-2017, 19.1).
abbrev pub op_for : AdapterKind → (bus_bytes chosen value : ℕ) → (write : Bool) → Word → BusOp
op_for kind bus_bytes chosen value write w = record {
  write = write;
  address = w.address;
  word = if write then word_of chosen value w else 0;
  lanes = enabled_lanes (carries_lanes kind write) bus_bytes chosen w;
  bytes = bus_bytes;
}

-- ---- the value read: each chosen byte from the answer to its word, at its lane there, and 0 elsewhere

abbrev pub joined_bit : (chosen : ℕ) → List Word → (answers : List ℕ) → ℕ → Bool
joined_bit chosen [] answers b = false
joined_bit chosen (w ∷ ws) [] b = false
joined_bit chosen (w ∷ ws) (answer ∷ answers) b =
    spread_bit (lanes_for chosen w) (bit answer) b || joined_bit chosen ws answers b

-- ---- over a layout: a location of a place, which for a register is 0

abbrev pub kind_of : LayoutData → (place : ℕ) → AdapterKind
kind_of l place = (port_at l (place_at l place).port).kind

abbrev pub bus_bytes_of : LayoutData → (place : ℕ) → ℕ
bus_bytes_of l place = (port_at l (place_at l place).port).bytes

-- the words that an access sends
unfoldable pub sent_of : LayoutData → (place index chosen : ℕ) → List Word
sent_of l place index chosen = sent_words chosen (words_of l place index)

abbrev pub op_of : LayoutData → (place chosen value : ℕ) → (write : Bool) → Word → BusOp
op_of l place chosen value write w = op_for (kind_of l place) (bus_bytes_of l place) chosen value write w

-- its operations, in order
unfoldable pub ops_of : LayoutData → (place index chosen value : ℕ) → (write : Bool) → List BusOp
ops_of l place index chosen value write = map (op_of l place chosen value write) (sent_of l place index chosen)

-- and the orders of their words
unfoldable pub orders_of : LayoutData → (place index chosen : ℕ) → List ℕ
orders_of l place index chosen = map (λ w. w.order) (sent_of l place index chosen)

-- the value that the answers to a read bring, one word for each operation
unfoldable pub joined : LayoutData → (place index chosen : ℕ) → (answers : List ℕ) → ℕ
joined l place index chosen answers = from_bits 64 (joined_bit chosen (sent_of l place index chosen) answers)
