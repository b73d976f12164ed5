-- The device as data, and what each call does to it.
use Rattle.std.specs.Prelude.{ℕ, ◌+◌, ◌-◌, ◌%◌, ◌^◌, min, Bool, true, false, not, ◌&&◌, ◌||◌, ◌==◌, nat_lt, if◌then◌else◌}
use Rattle.std.specs.Prelude.{List, length, Option, Some, None, is_some, slice_get, slice_index, slice_set, replicate}
use Rattle.std.specs.List.{range_with_len}
use Rattle.std.specs.Prelude.{map}
use Rattle.rl_policy.specs.Bits.{bit, from_bits, put_bit}
use Rattle.rl_bus.specs.declared.op.Answer.{Answer}
use Rattle.rl_bus.specs.declared.op.BusOp.{BusOp}
use Rattle.rl_bus.specs.declared.table.Cell.{Cell}
use Rattle.rl_bus.specs.declared.table.Cell.TheVariants.{Reg, Loc}
use Rattle.rl_bus.specs.declared.table.WordRow.{WordRow}
use Rattle.rl_policy.specs.Access.{bit_written, mark_written, bit_answered, bit_left}
use Rattle.rl_bus.specs.Setup.{Setup, field_of, mem_of, field_at, policy_at, held, reset_of, location, is_deaf, words_at, is_of_place, is_named}
use Rattle.rl_bus.specs.Spread.{spread_bit, lane_bit, gathered_bit, lanes_in}

-- What a device holds at a moment. The device model is this project's own.
pub record State : Type 0 where
  pub setup : Setup
  -- the bits of each register, and a spent mark for each bit, as numbers
  pub bits : List ℕ
  pub marks : List ℕ
  -- the bytes of each location of the memories, as a number
  pub locations : List ℕ
  -- which word of its list an address of a port waits for
  pub beats : ℕ → ℕ → ℕ
  -- how many items there were, up to a limit
  pub items : ℕ

-- ---- an item

abbrev pub counted : State → State
counted s = record s { items = min (s.items + 1) (2 ^ 64 - 1) }

-- the word at the beat
abbrev pub word_at : State → ℕ → BusOp → Option WordRow
word_at s port op = slice_get (words_at s.setup port op.address op.write) (s.beats port op.address)

-- the item fails although a word stands there
abbrev pub is_faulty : State → ℕ → BusOp → Bool
is_faulty s port op = not (op.bytes == slice_index s.setup.ports port) || is_named s.setup port op.address s.items

-- what a read answers of bit b of a cell
abbrev pub shown_bit : State → Cell → ℕ → Bool
shown_bit s (Reg r) b = bit_answered (policy_at s.setup r b) (bit (slice_index s.bits r) b)
shown_bit s (Loc mem index) b = bit (slice_index s.locations (location s.setup mem index)) b

-- what a read of a word answers
abbrev pub word_shown : State → BusOp → WordRow → ℕ
word_shown s op w = from_bits 64 (gathered_bit (lanes_in w.lanes op.lanes) (shown_bit s w.cell))

-- A read of the bits in these lanes, by each field's policy (uvm_reg_field, IEEE 1800.2-2017, 18.5).
abbrev pub after_reading : State → (lanes : ℕ → Bool) → Cell → State
after_reading s lanes (Reg r) = record s {
  bits = slice_set s.bits r
      (held s.setup r (λ b. bit_left (policy_at s.setup r b) (bit (slice_index s.bits r) b) (lanes b)));
}
after_reading s lanes (Loc mem index) = s

-- A write of the bits in these lanes, by each field's policy (uvm_reg_field, IEEE 1800.2-2017, 18.5).
abbrev pub after_writing : State → (word lanes : ℕ → Bool) → Cell → State
after_writing s word lanes (Reg r) =
    let x = slice_index s.bits r in
    let m = slice_index s.marks r in
    record s {
      bits = slice_set s.bits r
          (held s.setup r (λ b. bit_written (policy_at s.setup r b) (bit x b) (bit m b) (word b) (lanes b)));
      marks = slice_set s.marks r (from_bits 64 (λ b. mark_written (policy_at s.setup r b) (bit m b) (lanes b)));
    }
after_writing s word lanes (Loc mem index) =
    let at = location s.setup mem index in
    if (mem_of s.setup mem).writable
    then record s {
      locations = slice_set s.locations at
          (from_bits 64 (λ b. if lanes b then word b else bit (slice_index s.locations at) b));
    }
    else s

-- what an item does to the cell of its word
abbrev pub after_word : State → BusOp → WordRow → State
after_word s op w =
    let lanes = lanes_in w.lanes op.lanes in
    if not op.write then after_reading s (lane_bit lanes) w.cell
    else if is_deaf s.setup w.cell then s
    else after_writing s (spread_bit lanes (bit op.word)) (lane_bit lanes) w.cell

-- the beat of one address goes to its next word, and after the last one to the first
abbrev pub beats_on : State → ℕ → BusOp → ℕ → ℕ → ℕ
beats_on s port op p a =
    let beat = s.beats port op.address in
    if p == port && a == op.address
    then (if nat_lt (beat + 1) (length (words_at s.setup port op.address op.write)) then beat + 1 else 0)
    else s.beats p a

-- the beats of a place go to its first word
abbrev pub beats_back : State → ℕ → ℕ → ℕ → ℕ
beats_back s place p a = if is_of_place s.setup place p a then 0 else s.beats p a

abbrev pub after_touch : State → ℕ → BusOp → Option WordRow → State
after_touch s port op None = s
after_touch s port op (Some w) =
    if is_faulty s port op
    then record s { beats = beats_back s w.place }
    else record (after_word s op w) { beats = beats_on s port op }

abbrev pub answer_at : State → ℕ → BusOp → Option WordRow → Answer
answer_at s port op None = record { word = 0; failed = true }
answer_at s port op (Some w) =
    if is_faulty s port op then record { word = 0; failed = true }
    else record { word = (if op.write then 0 else word_shown s op w); failed = false }

-- The state after a bus item. The steps of the device are this project's own.
unfoldable pub state_after : State → ℕ → BusOp → State
state_after s port op = after_touch (counted s) port op (word_at s port op)

-- the answer to an item
unfoldable pub answer_of : State → ℕ → BusOp → Answer
answer_of s port op = answer_at (counted s) port op (word_at s port op)

-- ---- the other calls

-- The stored bits of a cell (uvm_reg::peek, IEEE 1800.2-2017, 18.4; uvm_mem::peek, 18.6).
unfoldable pub peeked : State → Cell → ℕ
peeked s (Reg r) = slice_index s.bits r
peeked s (Loc mem index) = slice_index s.locations (location s.setup mem index)

-- A deposit of the bits that belong to a field (uvm_reg::poke, IEEE 1800.2-2017, 18.4), or of the bytes of a location
-- (uvm_mem::poke, 18.6).
unfoldable pub poked : State → Cell → ℕ → State
poked s (Reg r) value = record s {
  bits = slice_set s.bits r
      (held s.setup r (λ b. if is_some (field_at s.setup r b) then bit value b else bit (slice_index s.bits r) b));
}
poked s (Loc mem index) value = record s {
  locations = slice_set s.locations (location s.setup mem index) (value % 256 ^ (mem_of s.setup mem).bytes);
}

-- A deposit of the bits of one field, which the hardware changes by itself: this project's own.
unfoldable pub hw_set : State → ℕ → ℕ → State
hw_set s field value =
    let f = field_of s.setup field in
    record s {
      bits = slice_set s.bits f.reg
          (held s.setup f.reg (put_bit f.lsb f.width (bit value) (bit (slice_index s.bits f.reg))));
    }

-- bit b of a register after a reset: the field that it belongs to may have a value for the kind
abbrev pub value_bit : Option ℕ → ℕ → Bool → Bool
value_bit None b x = x
value_bit (Some v) b x = bit v b

abbrev pub reset_bit : Setup → ℕ → Option ℕ → ℕ → Bool → Bool
reset_bit t kind None b x = x
reset_bit t kind (Some field) b x = value_bit (reset_of t field kind) (b - (field_of t field).lsb) x

abbrev pub reg_reset : State → ℕ → ℕ → ℕ
reg_reset s kind reg =
    held s.setup reg (λ b. reset_bit s.setup kind (field_at s.setup reg b) b (bit (slice_index s.bits reg) b))

-- After a reset of this kind, by the values of the fields (uvm_reg_field::reset, IEEE 1800.2-2017, 18.5). Kind 0 is
-- HARD, which makes each first write possible again.
unfoldable pub reset_by : State → ℕ → State
reset_by s kind = record s {
  bits = map (reg_reset s kind) (range_with_len 0 (length s.bits));
  marks = if kind == 0 then replicate (length s.marks) 0 else s.marks;
  beats = λ p a. 0;
}

-- no item so far, these many locations that hold 0, and all else 0
abbrev pub empty_state : Setup → ℕ → State
empty_state t count = record {
  setup = t;
  bits = replicate (length t.regs) 0;
  marks = replicate (length t.regs) 0;
  locations = replicate count 0;
  beats = λ p a. 0;
  items = 0;
}

-- the device after a hard reset: no item so far, and these many locations, which hold 0
unfoldable pub first_state : Setup → ℕ → State
first_state t count = reset_by (empty_state t count) 0
