-- Small devices, item by item.
use Rattle.std.proofs.Common.{◌≡◌, ℕ, true, false, [], ◌∷◌, refl}
use Rattle.rl_policy.specs.Bits.{bit, from_bits}
use Rattle.rl_policy.specs.declared.policy.Policy.{Policy}
use Rattle.rl_policy.specs.declared.policy.Policy.TheVariants.{Rw, Rc, W1}
use Rattle.rl_bus.specs.declared.op.BusOp.{BusOp}
use Rattle.rl_bus.specs.declared.table.Cell.TheVariants.{Reg}
use Rattle.rl_bus.specs.declared.table.ItemRow.TheVariants as item
use Rattle.rl_bus.specs.declared.table.WordRow.{WordRow}
use Rattle.rl_bus.specs.Setup.{Setup, Flaws, held}
use Rattle.rl_bus.specs.Spread.{lane_below}
use Rattle.rl_bus.specs.State.{State, state_after, answer_of, first_state, reset_by}

abbrev no_flaws : Flaws
no_flaws = record { policies = []; resets = []; stuck = []; ranges = []; nths = []; deaf = [] }

-- byte `byte` of register 0, alone in lane 0 of a word at this address of a port of one byte
abbrev byte_at : (address byte : ℕ) → WordRow
byte_at address byte = record { port = 0; address = address; reads = true; writes = true; cell = Reg 0; place = 0; lanes = record { enabled = 1; bytes = byte ∷ 0 ∷ 0 ∷ 0 ∷ 0 ∷ 0 ∷ 0 ∷ 0 ∷ [] } }

-- a register of two bytes with one field, in two words of one byte
abbrev two_bytes : Policy → ℕ → Flaws → (first second : ℕ) → Setup
two_bytes policy value flaws first second = record {
  regs = 2 ∷ [];
  fields = record { reg = 0; lsb = 0; width = 16; policy = policy } ∷ [];
  resets = record { field = 0; kind = 0; value = value } ∷ [];
  mems = [];
  ports = 1 ∷ [];
  words = byte_at first 0 ∷ byte_at second 1 ∷ [];
  flaws = flaws;
}

abbrev read : ℕ → BusOp
read address = record { write = false; address = address; word = 0; lanes = 1; bytes = 1 }

abbrev write : ℕ → ℕ → BusOp
write address word = record { write = true; address = address; word = word; lanes = 1; bytes = 1 }

-- ---- a register that is cleared by reads, read byte by byte

abbrev cleared : State
cleared = first_state (two_bytes Rc 0xabcd no_flaws 0 1) 0

begins : cleared.bits ≡ 0xabcd ∷ []
unfolding first_state reset_by held from_bits bit
begins = refl

low_byte : answer_of cleared 0 (read 0) ≡ record { word = 0xcd; failed = false }
unfolding first_state reset_by held from_bits bit answer_of lane_below
low_byte = refl

low_cleared : (state_after cleared 0 (read 0)).bits ≡ 0xab00 ∷ []
unfolding first_state reset_by held from_bits bit state_after lane_below
low_cleared = refl

high_byte : answer_of (state_after cleared 0 (read 0)) 0 (read 1) ≡ record { word = 0xab; failed = false }
unfolding first_state reset_by held from_bits bit state_after answer_of lane_below
high_byte = refl

-- ---- a register that takes the first write alone, with a mark for each bit

abbrev once : State
once = state_after (first_state (two_bytes W1 0 no_flaws 0 1) 0) 0 (write 0 0x34)

once_marks : once.marks ≡ 0xff ∷ []
unfolding first_state reset_by held from_bits bit state_after lane_below
once_marks = refl

both_bytes : (state_after once 0 (write 1 0x12)).bits ≡ 0x1234 ∷ []
unfolding first_state reset_by held from_bits bit state_after lane_below
both_bytes = refl

spent : (state_after (state_after once 0 (write 1 0x12)) 0 (write 0 0x78)).bits ≡ 0x1234 ∷ []
unfolding first_state reset_by held from_bits bit state_after lane_below
spent = refl

-- ---- two words at one address, and an item that fails

abbrev queue : Flaws → State
queue flaws = first_state (two_bytes Rw 0x1122 flaws 0x20 0x20) 0

first_in : answer_of (queue no_flaws) 0 (read 0x20) ≡ record { word = 0x22; failed = false }
unfolding first_state reset_by held from_bits bit answer_of lane_below
first_in = refl

beat_goes_on : (state_after (queue no_flaws) 0 (read 0x20)).beats 0 0x20 ≡ 1
unfolding first_state reset_by state_after
beat_goes_on = refl

second_in : answer_of (state_after (queue no_flaws) 0 (read 0x20)) 0 (read 0x20) ≡ record { word = 0x11; failed = false }
unfolding first_state reset_by held from_bits bit state_after answer_of lane_below
second_in = refl

-- the second item fails, and sends the beat back
abbrev second_fails : Flaws
second_fails = record no_flaws { nths = 2 ∷ [] }

fails : answer_of (state_after (queue second_fails) 0 (read 0x20)) 0 (read 0x20) ≡ record { word = 0; failed = true }
unfolding first_state reset_by held from_bits bit state_after answer_of lane_below
fails = refl

sent_back : (state_after (state_after (queue second_fails) 0 (read 0x20)) 0 (read 0x20)).beats 0 0x20 ≡ 0
unfolding first_state reset_by state_after
sent_back = refl

nothing_there : answer_of (queue no_flaws) 0 (read 0x21) ≡ record { word = 0; failed = true }
unfolding first_state reset_by answer_of
nothing_there = refl

-- ---- flaws

-- bit 0 is stuck at 1, and stays so whatever is written
abbrev stuck : State
stuck = state_after (first_state (two_bytes Rw 0 (record no_flaws { stuck = record { field = 0; bit = 0; value = true } ∷ [] }) 0 1) 0) 0 (write 0 0x80)

stuck_bit : stuck.bits ≡ 0x81 ∷ []
unfolding first_state reset_by held from_bits bit state_after lane_below
stuck_bit = refl

-- writes don't reach a deaf register, and are answered all the same
abbrev deaf : State
deaf = first_state (two_bytes Rw 0x1122 (record no_flaws { deaf = item.Reg 0 ∷ [] }) 0 1) 0

deaf_stays : (state_after deaf 0 (write 0 0x99)).bits ≡ 0x1122 ∷ []
unfolding first_state reset_by held from_bits bit state_after lane_below
deaf_stays = refl

deaf_answers : answer_of deaf 0 (write 0 0x99) ≡ record { word = 0; failed = false }
unfolding first_state reset_by answer_of
deaf_answers = refl
