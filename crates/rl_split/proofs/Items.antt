-- One item over a device without flaws, where its word is at the beat.
use Rattle.std.proofs.Common.{◌≡◌, ℕ, ◌+◌, ◌-◌, ◌^◌, min, Bool, true, false, not, ◌||◌, cond, eqb, set, Some, option_map, ap, ◌∙◌, eq-eqb}
use Rattle.std.specs.Prelude.{slice_index, find, leb, ◌&&◌}
use Rattle.std.specs.List.{list_any}
use Rattle.rl_policy.specs.Bits.{bit, from_bits}
use Rattle.rl_policy.proofs.BitLemmas.{from_bits-same}
use Rattle.rl_bus.specs.declared.op.BusOp.{BusOp}
use Rattle.rl_bus.specs.declared.table.Cell.{Cell}
use Rattle.rl_bus.specs.declared.table.Cell.TheVariants.{Reg}
use Rattle.rl_bus.specs.declared.table.Lanes.{Lanes}
use Rattle.rl_bus.specs.declared.table.WordRow.{WordRow}
use Rattle.rl_policy.specs.Access.{bit_written, mark_written, bit_answered, bit_left}
use Rattle.rl_bus.specs.Setup.{Setup, Flaws, policy_at, names_bit, held, or_else, is_deaf, is_of, is_named}
use Rattle.rl_bus.specs.Spread.{spread_bit, lane_bit, gathered_bit, lanes_in}
use Rattle.rl_bus.specs.State.{State, counted, word_at, is_faulty, shown_bit, word_shown, after_reading, after_writing, after_word, after_touch, answer_at, beats_on, beats_back, state_after}
use Rattle.rl_bus.specs.State.{answer_of}
use Rattle.rl_split.specs.Law.{no_flaws}

-- ---- what no flaw does

held_plain : (t : Setup) (reg : ℕ) (bits : ℕ → Bool) → t.flaws ≡ no_flaws → held t reg bits ≡ from_bits 64 bits
unfolding held
held_plain t reg bits e = from_bits-same 64 _ _ (λ b l. ap (λ (f : Flaws). or_else (option_map (λ s. s.value) (find (λ s. names_bit t s reg b) f.stuck)) (bits b)) e)

not_named : (t : Setup) (port a n : ℕ) → t.flaws ≡ no_flaws → is_named t port a n ≡ false
not_named t port a n e = ap (λ (f : Flaws). list_any (λ r. eqb r.port port && leb r.from a && leb a r.to) f.ranges || list_any (λ nth. eqb nth n) f.nths) e

pub not_deaf : (t : Setup) (c : Cell) → t.flaws ≡ no_flaws → is_deaf t c ≡ false
not_deaf t c e = ap (λ (f : Flaws). list_any (is_of c) f.deaf) e

not_faulty : (s : State) (port : ℕ) (op : BusOp) → s.setup.flaws ≡ no_flaws → op.bytes ≡ slice_index s.setup.ports port → is_faulty s port op ≡ false
not_faulty s port op e width =
    ap (λ t. not t || is_named s.setup port op.address s.items) (eq-eqb op.bytes (slice_index s.setup.ports port) width)
    ∙ not_named s.setup port op.address s.items e

-- ---- the registers afterwards

abbrev pub bits_written : Setup → ℕ → ℕ → Lanes → (bits marks : ℕ) → ℕ
bits_written t reg word lanes x m = from_bits 64 (λ b. bit_written (policy_at t reg b) (bit x b) (bit m b) (spread_bit lanes (bit word) b) (lane_bit lanes b))

abbrev pub marks_written : Setup → ℕ → Lanes → ℕ → ℕ
marks_written t reg lanes m = from_bits 64 (λ b. mark_written (policy_at t reg b) (bit m b) (lane_bit lanes b))

abbrev pub bits_left : Setup → ℕ → Lanes → ℕ → ℕ
bits_left t reg lanes x = from_bits 64 (λ b. bit_left (policy_at t reg b) (bit x b) (lane_bit lanes b))

abbrev pub bits_shown : Setup → ℕ → Lanes → ℕ → ℕ
bits_shown t reg lanes x = from_bits 64 (gathered_bit lanes (λ b. bit_answered (policy_at t reg b) (bit x b)))

abbrev pub next_count : ℕ → ℕ
next_count n = min (n + 1) (2 ^ 64 - 1)

abbrev pub after_write : State → (port reg : ℕ) → BusOp → Lanes → State
after_write s port reg op lanes = record s {
  bits = set s.bits reg (bits_written s.setup reg op.word lanes (slice_index s.bits reg) (slice_index s.marks reg));
  marks = set s.marks reg (marks_written s.setup reg lanes (slice_index s.marks reg));
  beats = beats_on s port op;
  items = next_count s.items;
}

abbrev pub after_read : State → (port reg : ℕ) → BusOp → Lanes → State
after_read s port reg op lanes = record s {
  bits = set s.bits reg (bits_left s.setup reg lanes (slice_index s.bits reg));
  beats = beats_on s port op;
  items = next_count s.items;
}

-- an operation meets this word, whole or in part
pub record Meets (s : State) (port : ℕ) (op : BusOp) (cell : Cell) (lanes : Lanes) : Type 0 where
  pub flawless : s.setup.flaws ≡ no_flaws
  pub width : op.bytes ≡ slice_index s.setup.ports port
  pub row : WordRow
  pub found : word_at s port op ≡ Some row
  pub cell_is : row.cell ≡ cell
  pub lanes_are : lanes_in row.lanes op.lanes ≡ lanes

pub touched : (s : State) (port : ℕ) (op : BusOp) (cell : Cell) (lanes : Lanes) (m : Meets s port op cell lanes) → state_after s port op ≡ record (after_word (counted s) op m.row) {
  beats = beats_on
      s port op;
}
unfolding state_after
touched s port op cell lanes m =
    ap (after_touch (counted s) port op) m.found
    ∙ ap (λ t. cond t (record (counted s) { beats = beats_back (counted s) m.row.place }) (record (after_word (counted s) op m.row) { beats = beats_on s port op })) (not_faulty (counted s) port op
    m.flawless m.width)

pub answered : (s : State) (port : ℕ) (op : BusOp) (cell : Cell) (lanes : Lanes) (m : Meets s port op cell lanes) → answer_of s port op ≡ record {
  word = cond op.write 0 (word_shown (counted s) op
      m.row);
  failed = false;
}
unfolding answer_of
answered s port op cell lanes m =
    ap (answer_at (counted s) port op) m.found
    ∙ ap (λ t. cond t (record { word = 0; failed = true }) (record { word = cond op.write 0 (word_shown (counted s) op m.row); failed = false })) (not_faulty (counted s) port op m.flawless m.width)

writes_word : (s : State) (op : BusOp) (reg : ℕ) (row : WordRow) (lanes : Lanes) → s.setup.flaws ≡ no_flaws → op.write ≡ true → row.cell ≡ Reg reg → lanes_in row.lanes op.lanes ≡ lanes →
    after_word s op row ≡ record s {
      bits = set s.bits reg (bits_written s.setup reg op.word lanes (slice_index s.bits reg) (slice_index s.marks reg));
      marks = set s.marks reg (marks_written s.setup reg lanes (slice_index s.marks reg));
    }
writes_word s op reg row lanes e write cell same =
    ap (λ t. cond (not t) (after_reading s (lane_bit (lanes_in row.lanes op.lanes)) row.cell) (cond (is_deaf s.setup row.cell) s (after_writing s (spread_bit (lanes_in row.lanes op.lanes)
    (bit op.word)) (lane_bit (lanes_in row.lanes op.lanes)) row.cell))) write
    ∙ ap (λ t. cond t s (after_writing s (spread_bit (lanes_in row.lanes op.lanes) (bit op.word)) (lane_bit (lanes_in row.lanes op.lanes)) row.cell)) (not_deaf s.setup row.cell e)
    ∙ ap (after_writing s (spread_bit (lanes_in row.lanes op.lanes) (bit op.word)) (lane_bit (lanes_in row.lanes op.lanes))) cell
    ∙ ap (λ l. after_writing s (spread_bit l (bit op.word)) (lane_bit l) (Reg reg)) same
    ∙ ap (λ n. record s { bits = set s.bits reg n; marks = set s.marks reg (marks_written s.setup reg lanes (slice_index s.marks reg)) }) (held_plain s.setup reg _ e)

pub write_meets : (s : State) (port reg : ℕ) (op : BusOp) (lanes : Lanes) → Meets s port op (Reg reg) lanes → op.write ≡ true → state_after s port op ≡ after_write s port reg op lanes
write_meets s port reg op lanes m write =
    touched s port op (Reg reg) lanes m
    ∙ ap (λ (x : State). record x { beats = beats_on s port op }) (writes_word (counted s) op reg m.row lanes m.flawless write m.cell_is m.lanes_are)

pub write_answers : (s : State) (port reg : ℕ) (op : BusOp) (lanes : Lanes) → Meets s port op (Reg reg) lanes → op.write ≡ true → answer_of s port op ≡ record { word = 0; failed = false }
write_answers s port reg op lanes m write =
    answered s port op (Reg reg) lanes m ∙ ap (λ t. record { word = cond t 0 (word_shown (counted s) op m.row); failed = false }) write

reads_word : (s : State) (op : BusOp) (reg : ℕ) (row : WordRow) (lanes : Lanes) → s.setup.flaws ≡ no_flaws → op.write ≡ false → row.cell ≡ Reg reg → lanes_in row.lanes op.lanes ≡ lanes →
    after_word s op row ≡ record s { bits = set s.bits reg (bits_left s.setup reg lanes (slice_index s.bits reg)) }
reads_word s op reg row lanes e write cell same =
    ap (λ t. cond (not t) (after_reading s (lane_bit (lanes_in row.lanes op.lanes)) row.cell) (cond (is_deaf s.setup row.cell) s (after_writing s (spread_bit (lanes_in row.lanes op.lanes)
    (bit op.word)) (lane_bit (lanes_in row.lanes op.lanes)) row.cell))) write
    ∙ ap (after_reading s (lane_bit (lanes_in row.lanes op.lanes))) cell
    ∙ ap (λ l. after_reading s (lane_bit l) (Reg reg)) same
    ∙ ap (λ n. record s { bits = set s.bits reg n }) (held_plain s.setup reg _ e)

pub read_meets : (s : State) (port reg : ℕ) (op : BusOp) (lanes : Lanes) → Meets s port op (Reg reg) lanes → op.write ≡ false → state_after s port op ≡ after_read s port reg op lanes
read_meets s port reg op lanes m write =
    touched s port op (Reg reg) lanes m
    ∙ ap (λ (x : State). record x { beats = beats_on s port op }) (reads_word (counted s) op reg m.row lanes m.flawless write m.cell_is m.lanes_are)

pub read_answers : (s : State) (port reg : ℕ) (op : BusOp) (lanes : Lanes) → Meets s port op (Reg reg) lanes → op.write ≡ false → answer_of s port op ≡ record {
  word = bits_shown s.setup reg lanes
      (slice_index s.bits reg);
  failed = false;
}
read_answers s port reg op lanes m write =
    answered s port op (Reg reg) lanes m
    ∙ ap (λ t. record { word = cond t 0 (word_shown (counted s) op m.row); failed = false }) write
    ∙ ap (λ c. record { word = from_bits 64 (gathered_bit (lanes_in m.row.lanes op.lanes) (shown_bit (counted s) c)); failed = false }) m.cell_is
    ∙ ap (λ l. record { word = bits_shown s.setup reg l (slice_index s.bits reg); failed = false }) m.lanes_are
