-- A whole access to a register of which the first words were sent, beside other accesses that are half done.
use Rattle.std.specs.Prelude.{◌≡◌, ℕ, ◌+◌, ◌<◌, Bool, true, false, List, length, take, get_or, slice_index}
use Rattle.rl_bus.specs.declared.op.BusOp.{BusOp}
use Rattle.rl_bus.specs.State.{State, state_after, answer_of}
use Rattle.rl_model.specs.Rows.{ChipData}
use Rattle.rl_model.specs.Fields.{fields_of}
use Rattle.rl_map.specs.Layout.{LayoutData, Occupies, place_at as row_at}
use Rattle.rl_map.specs.Tables.{setup_of}
use Rattle.rl_split.specs.Access.{all_bytes, ops_of}
use Rattle.rl_split.specs.Law.{IsPlaceOf, IsReady, Holds, no_flaws}
use Rattle.rl_split.specs.Runs.{state_after_all}
use Rattle.rl_split.specs.Seats.{no_op}
use Rattle.rl_split.specs.Step.{Register, every, wstep, rstep}

-- a device of this chip and this layout, without flaws, whatever its beats are
pub record IsDevice (c : ChipData) (l : LayoutData) (s : State) : Type 0 where
  pub setup : s.setup ≡ setup_of c l no_flaws
  pub bits : length s.bits ≡ length c.regs
  pub marks : length s.marks ≡ length c.regs

-- ---- an access: a write of a value, or a read

abbrev pub whole_ops : LayoutData → (place value : ℕ) → (write : Bool) → List BusOp
whole_ops l place value write = ops_of l place 0 (all_bytes (row_at l place).bytes) value write

abbrev pub whole_op : LayoutData → (place value : ℕ) → (write : Bool) → (k : ℕ) → BusOp
whole_op l place value write k = get_or (whole_ops l place value write) k no_op

-- a device that was sent the first k operations alone
abbrev pub alone : LayoutData → State → (place value : ℕ) → (write : Bool) → (k : ℕ) → State
alone l begun place value write k = state_after_all begun (row_at l place).port (take k (whole_ops l place value write))

-- The first k words were sent since the device stood so: its register, and the beats at the addresses of the place,
-- are as if they had been sent alone.
pub record IsUnderWay (l : LayoutData) (begun s : State) (place reg value : ℕ) (write : Bool) (k : ℕ) : Type 0 where
  pub bits : slice_index s.bits reg ≡ slice_index (alone l begun place value write k).bits reg
  pub marks : slice_index s.marks reg ≡ slice_index (alone l begun place value write k).marks reg
  pub beats : (address : ℕ)
      → Occupies l (row_at l place).port address place 0
      → s.beats (row_at l place).port address ≡ (alone l begun place value write k).beats (row_at l place).port address

-- ---- the laws

-- before its first word
abbrev pub NoneSentIsUnderWay : Type 0
NoneSentIsUnderWay =
    (l : LayoutData) (s : State) (place reg value : ℕ) (write : Bool) → IsUnderWay l s s place reg value write 0

-- two states differ in one register, and in the beat of one address, alone
pub record IsTouched (s next : State) (reg port address : ℕ) : Type 0 where
  pub setup : next.setup ≡ s.setup
  pub registers : length next.bits ≡ length s.bits
  pub marked : length next.marks ≡ length s.marks
  pub bits : (r : ℕ) → (r ≡ reg → ⊥) → slice_index next.bits r ≡ slice_index s.bits r
  pub marks : (r : ℕ) → (r ≡ reg → ⊥) → slice_index next.marks r ≡ slice_index s.marks r
  pub locations : next.locations ≡ s.locations
  pub beats : (p a : ℕ) → ((p ≡ port) × (a ≡ address) → ⊥) → next.beats p a ≡ s.beats p a

-- the next word doesn't fail, is answered as if sent alone, and touches its register alone
pub record IsNextWord (l : LayoutData) (begun s : State) (place reg value : ℕ) (write : Bool) (k : ℕ)
    (op : BusOp) : Type 0 where
  pub answer :
      answer_of s (row_at l place).port op ≡ answer_of (alone l begun place value write k) (row_at l place).port op
  pub quiet : (answer_of s (row_at l place).port op).failed ≡ false
  pub touched : IsTouched s (state_after s (row_at l place).port op) reg (row_at l place).port op.address
  pub at : Occupies l (row_at l place).port op.address place 0
  pub under_way : IsUnderWay l begun (state_after s (row_at l place).port op) place reg value write (k + 1)

abbrev pub NextWordGoesOn : Type 0
NextWordGoesOn =
    (c : ChipData) (l : LayoutData) (begun s : State) (place reg value : ℕ) (write : Bool) (k : ℕ)
    → IsPlaceOf c l place reg write → IsReady c l begun → IsDevice c l s → k < length (whole_ops l place value write)
    → IsUnderWay l begun s place reg value write k
    → IsNextWord l begun s place reg value write k (whole_op l place value write k)

-- it leaves each access to another register that is under way
abbrev pub OthersStayUnderWay : Type 0
OthersStayUnderWay =
    (c : ChipData) (l : LayoutData) (begun s : State) (place reg value : ℕ) (write : Bool) (k : ℕ)
    → IsPlaceOf c l place reg write → IsReady c l begun → IsDevice c l s → k < length (whole_ops l place value write)
    → IsUnderWay l begun s place reg value write k
    → (before : State) (other its_reg its_value : ℕ) (its_write : Bool) (j : ℕ)
    → IsPlaceOf c l other its_reg its_write → (its_reg ≡ reg → ⊥)
    → IsUnderWay l before s other its_reg its_value its_write j
    → IsUnderWay l before (state_after s (row_at l place).port (whole_op l place value write k))
    other its_reg its_value its_write j

-- once all words were sent, the register took one step, and the beats at its addresses are 0
pub record IsOver (c : ChipData) (l : LayoutData) (s : State) (place reg : ℕ) (r : Register) : Type 0 where
  pub holds : Holds c s reg r
  pub beats : (address : ℕ)
      → Occupies l (row_at l place).port address place 0
      → s.beats (row_at l place).port address ≡ 0

abbrev pub AllSentIsWrite : Type 0
AllSentIsWrite =
    (c : ChipData) (l : LayoutData) (begun s : State) (place reg value : ℕ) (r : Register)
    → IsPlaceOf c l place reg true → IsReady c l begun → Holds c begun reg r
    → IsUnderWay l begun s place reg value true (length (whole_ops l place value true))
    → IsOver c l s place reg (wstep (fields_of c reg) every value r)

abbrev pub AllSentIsRead : Type 0
AllSentIsRead =
    (c : ChipData) (l : LayoutData) (begun s : State) (place reg : ℕ) (r : Register)
    → IsPlaceOf c l place reg false → IsReady c l begun → Holds c begun reg r
    → IsUnderWay l begun s place reg 0 false (length (whole_ops l place 0 false))
    → IsOver c l s place reg (rstep (fields_of c reg) every r)
