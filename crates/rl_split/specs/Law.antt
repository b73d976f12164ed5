-- The law of split accesses: the items of an access to a register, one after another, are one step of the register.
use Rattle.std.specs.Prelude.{◌≡◌, ℕ, ◌-◌, ◌^◌, ◌<◌, Bool, true, false, List, [], length, map, All, slice_index, slice_set, Option, Some, None}
use Rattle.rl_policy.specs.Bits.{bit, from_bits}
use Rattle.rl_model.specs.declared.rows.Item.TheVariants.{Reg, Mem}
use Rattle.rl_model.specs.Rows.{FieldSeen, ChipData}
use Rattle.rl_model.specs.Chip.{IsSound as IsSoundChip}
use Rattle.rl_bus.specs.declared.op.Answer.{Answer}
use Rattle.rl_bus.specs.declared.op.BusOp.{BusOp}
use Rattle.rl_bus.specs.Setup.{Flaws, mem_of, location}
use Rattle.rl_bus.specs.State.{State}
use Rattle.rl_map.specs.Layout.{LayoutData, place_at as row_at, has_right, IsSound}
use Rattle.rl_map.specs.Maps.{IsBuiltWith}
use Rattle.rl_map.specs.Tables.{setup_of}
use Rattle.rl_split.specs.Access.{all_bytes, ops_of, joined}
use Rattle.rl_split.specs.Narrow.{field_at, bytes_of_field, is_narrow}
use Rattle.rl_split.specs.Runs.{state_after_all, answers_of, counted_on}
use Rattle.rl_model.specs.Fields.{fields_of, first_of, place_at}
use Rattle.rl_split.specs.Step.{Register, every, only, wstep, rstep, ranswer}

-- ---- a device that holds a register

abbrev pub no_flaws : Flaws
no_flaws = record { policies = []; resets = []; stuck = []; ranges = []; nths = []; deaf = [] }

-- a device of this chip and this layout, without flaws, with all beats 0
pub record IsReady (c : ChipData) (l : LayoutData) (s : State) : Type 0 where
  pub setup : s.setup ≡ setup_of c l no_flaws
  pub beats : (port address : ℕ) → s.beats port address ≡ 0
  pub bits : length s.bits ≡ length c.regs
  pub marks : length s.marks ≡ length c.regs

-- it has the bits of the register, and each bit of a field has the field's mark
pub record Holds (c : ChipData) (s : State) (reg : ℕ) (r : Register) : Type 0 where
  pub bits : slice_index s.bits reg ≡ r.bits
  pub marks : (b k : ℕ) → b < 64 → place_at (fields_of c reg) b ≡ Some k → bit (slice_index s.marks reg) b ≡ r.spent k

-- ---- the state after a step of one register; all else stays

-- each bit of a field gets the field's mark, and any other bit keeps its own
abbrev pub marked_bit : (spent : ℕ → Bool) → Option ℕ → Bool → Bool
marked_bit spent None s = s
marked_bit spent (Some k) s = spent k

unfoldable pub marks_with : List FieldSeen → (spent : ℕ → Bool) → ℕ → ℕ
marks_with fields spent marks = from_bits 64 (λ b. marked_bit spent (place_at fields b) (bit marks b))

abbrev pub after_wstep : ChipData → State → (reg : ℕ) → Register → (count : ℕ) → State
after_wstep c s reg r count = record s {
  bits = slice_set s.bits reg r.bits;
  marks = slice_set s.marks reg (marks_with (fields_of c reg) r.spent (slice_index s.marks reg));
  items = counted_on count s.items;
}

abbrev pub after_rstep : State → (reg : ℕ) → Register → (count : ℕ) → State
after_rstep s reg r count = record s { bits = slice_set s.bits reg r.bits; items = counted_on count s.items }

-- ---- an access

-- a place of the register that has the right of the direction, in a layout of the chip
pub record IsPlaceOf (c : ChipData) (l : LayoutData) (place reg : ℕ) (write : Bool) : Type 0 where
  pub chip : IsSoundChip c
  pub layout : IsSound l
  pub built_with : IsBuiltWith l c
  pub place_in : place < length l.places
  pub item : (row_at l place).item ≡ Reg reg
  pub right : has_right (row_at l place).rights write ≡ true

-- every write is answered so
abbrev pub written_answer : BusOp → Answer
written_answer op = record { word = 0; failed = false }

-- no item failed, the register made a write of the chosen fields, and all else stays
pub record IsWrite (c : ChipData) (l : LayoutData) (s : State) (place reg : ℕ) (chosen : ℕ → Bool) (value : ℕ)
    (r : Register) (ops : List BusOp) : Type 0 where
  pub answers : answers_of s (row_at l place).port ops ≡ map written_answer ops
  pub state :
      state_after_all s (row_at l place).port ops
      ≡ after_wstep c s reg (wstep (fields_of c reg) chosen value r) (length ops)
  pub holds : Holds c (state_after_all s (row_at l place).port ops) reg (wstep (fields_of c reg) chosen value r)
  pub ready : IsReady c l (state_after_all s (row_at l place).port ops)

-- no item failed, the answers bring the value of a read of the chosen fields, the register made it, and all else stays
pub record IsRead (c : ChipData) (l : LayoutData) (s : State) (place reg : ℕ) (chosen : ℕ → Bool) (r : Register)
    (ops : List BusOp) (value : List ℕ → ℕ) : Type 0 where
  pub answers : All (λ a. a.failed ≡ false) (answers_of s (row_at l place).port ops)
  pub value_is : value (map (λ a. a.word) (answers_of s (row_at l place).port ops)) ≡ ranswer (fields_of c reg) chosen r
  pub state :
      state_after_all s (row_at l place).port ops ≡ after_rstep s reg (rstep (fields_of c reg) chosen r) (length ops)
  pub holds : Holds c (state_after_all s (row_at l place).port ops) reg (rstep (fields_of c reg) chosen r)
  pub ready : IsReady c l (state_after_all s (row_at l place).port ops)

-- ---- the law: an access to all bytes is a step of all fields

abbrev pub WholeWriteIsStep : Type 0
WholeWriteIsStep =
    (c : ChipData) (l : LayoutData) (s : State) (place reg value : ℕ) (r : Register)
    → IsPlaceOf c l place reg true → IsReady c l s → Holds c s reg r
    → IsWrite c l s place reg every value r (ops_of l place 0 (all_bytes (row_at l place).bytes) value true)

abbrev pub WholeReadIsStep : Type 0
WholeReadIsStep =
    (c : ChipData) (l : LayoutData) (s : State) (place reg : ℕ) (r : Register)
    → IsPlaceOf c l place reg false → IsReady c l s → Holds c s reg r
    → let chosen = all_bytes (row_at l place).bytes in
    IsRead c l s place reg every r (ops_of l place 0 chosen 0 false) (joined l place 0 chosen)

-- and a narrow access to the bytes of a field is a step of this field

abbrev pub NarrowWriteIsStep : Type 0
NarrowWriteIsStep =
    (c : ChipData) (l : LayoutData) (s : State) (place field value : ℕ) (r : Register)
    → field < length c.fields → is_narrow c l field place true ≡ true
    → let reg = (field_at c field).reg in
    IsPlaceOf c l place reg true → IsReady c l s → Holds c s reg r
    → IsWrite c l s place reg (only (field - first_of c reg)) value r
    (ops_of l place 0 (bytes_of_field (field_at c field)) value true)

abbrev pub NarrowReadIsStep : Type 0
NarrowReadIsStep =
    (c : ChipData) (l : LayoutData) (s : State) (place field : ℕ) (r : Register)
    → field < length c.fields → is_narrow c l field place false ≡ true
    → let reg = (field_at c field).reg in
    let chosen = bytes_of_field (field_at c field) in
    IsPlaceOf c l place reg false → IsReady c l s → Holds c s reg r
    → IsRead c l s place reg (only (field - first_of c reg)) r (ops_of l place 0 chosen 0 false)
    (joined l place 0 chosen)

-- ---- memories: an access to all bytes of a location stores or brings its value

-- a place of the memory that has the right of the direction, and one of its locations
pub record IsLocationOf (c : ChipData) (l : LayoutData) (place mem index : ℕ) (write : Bool) : Type 0 where
  pub layout : IsSound l
  pub place_in : place < length l.places
  pub index_in : index < (row_at l place).size
  pub item : (row_at l place).item ≡ Mem mem
  pub right : has_right (row_at l place).rights write ≡ true

-- a device has the location, and nothing past the memory's bytes in it
pub record HasLocation (s : State) (mem index bytes : ℕ) : Type 0 where
  pub inside : location s.setup mem index < length s.locations
  pub fits : slice_index s.locations (location s.setup mem index) < 256 ^ bytes

-- no item failed, the location has the value, and all else stays
pub record IsStore (c : ChipData) (l : LayoutData) (s : State) (place mem index value : ℕ)
    (ops : List BusOp) : Type 0 where
  pub answers : answers_of s (row_at l place).port ops ≡ map written_answer ops
  pub state : state_after_all s (row_at l place).port ops
      ≡ record s {
        locations = slice_set s.locations (location s.setup mem index) value;
        items = counted_on (length ops) s.items;
      }
  pub ready : IsReady c l (state_after_all s (row_at l place).port ops)

-- no item failed, the answers bring the location's value, and the device stays
pub record IsLoad (c : ChipData) (l : LayoutData) (s : State) (place mem index : ℕ) (ops : List BusOp)
    (value : List ℕ → ℕ) : Type 0 where
  pub answers : All (λ a. a.failed ≡ false) (answers_of s (row_at l place).port ops)
  pub value_is :
      value (map (λ a. a.word) (answers_of s (row_at l place).port ops))
      ≡ slice_index s.locations (location s.setup mem index)
  pub state : state_after_all s (row_at l place).port ops ≡ record s { items = counted_on (length ops) s.items }
  pub ready : IsReady c l (state_after_all s (row_at l place).port ops)

abbrev pub MemoryWriteIsStore : Type 0
MemoryWriteIsStore =
    (c : ChipData) (l : LayoutData) (s : State) (place mem index value : ℕ)
    → IsLocationOf c l place mem index true → IsReady c l s → HasLocation s mem index (row_at l place).bytes
    → (mem_of s.setup mem).writable ≡ true → value < 256 ^ (row_at l place).bytes
    → IsStore c l s place mem index value (ops_of l place index (all_bytes (row_at l place).bytes) value true)

abbrev pub MemoryReadIsLoad : Type 0
MemoryReadIsLoad =
    (c : ChipData) (l : LayoutData) (s : State) (place mem index : ℕ)
    → IsLocationOf c l place mem index false → IsReady c l s → HasLocation s mem index (row_at l place).bytes
    → let chosen = all_bytes (row_at l place).bytes in
    IsLoad c l s place mem index (ops_of l place index chosen 0 false) (joined l place index chosen)
