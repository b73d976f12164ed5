-- What a call of a device promises.
use Rattle.std.specs.Prelude.{◌≡◌, ℕ, ◌<◌, Option, Some, option_map, length}
use Rattle.rl_bus.specs.declared.op.Answer.{Answer}
use Rattle.rl_bus.specs.declared.op.BusOp.{BusOp}
use Rattle.rl_bus.specs.declared.table.Cell.{Cell}
use Rattle.rl_bus.specs.declared.table.Cell.TheVariants.{Reg, Loc}
use Rattle.rl_bus.specs.Setup.{Setup, mem_of}
use Rattle.rl_bus.specs.State.{State, state_after, answer_of}

-- One item as the definition has it, where the state is told. The device's steps are this project's own.
pub record IsStep (before after : Option State) (port : ℕ) (op : BusOp) (answer : Answer) : Type 0 where
  pub goes : after ≡ option_map (λ s. state_after s port op) before
  pub answers : (s : State) → before ≡ Some s → answer ≡ answer_of s port op

-- the number is in range, where the state is told
abbrev pub IsPortOf : Option State → ℕ → Type 0
IsPortOf state port = (s : State) → state ≡ Some s → port < length s.setup.ports

abbrev pub IsFieldOf : Option State → ℕ → Type 0
IsFieldOf state field = (s : State) → state ≡ Some s → field < length s.setup.fields

-- the setup has the cell
pub record IsCellIn (t : Setup) (cell : Cell) : Type 0 where
  pub reg : (r : ℕ) → cell ≡ Reg r → r < length t.regs
  pub loc : (m i : ℕ) → cell ≡ Loc m i → (m < length t.mems) × (i < (mem_of t m).size)

abbrev pub IsCellOf : Option State → Cell → Type 0
IsCellOf state cell = (s : State) → state ≡ Some s → IsCellIn s.setup cell
