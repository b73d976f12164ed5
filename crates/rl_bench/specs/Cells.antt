-- What a call makes of the cells of a device, whatever its beats and its count of items.
use Rattle.std.specs.Prelude.{◌≡◌, ℕ, Bool}
use Rattle.rl_policy.specs.Bits.{bit}
use Rattle.rl_bus.specs.Setup.{Setup, field_at}
use Rattle.rl_bus.specs.State.{State, reset_bit, reset_by}
use Rattle.rl_bench.specs.declared.board.Board.{Board}
use Rattle.rl_bench.specs.declared.cells.Cells.{Cells}
use Rattle.rl_bench.specs.Board.{state_of}
use Rattle.rl_bench.specs.Tables.{setup_held}

-- the state goes from these cells to those by a step
abbrev pub CellsGo : Board → (old new : Cells) → (step : State → State) → Type 0
CellsGo board old new step =
    let t = setup_held board.tables in
    (beats : ℕ → ℕ → ℕ) (items : ℕ) → state_of t new beats items ≡ step (state_of t old beats items)

-- a word is what the state with these cells answers
abbrev pub CellsAnswer : Board → Cells → (answer : State → ℕ) → ℕ → Type 0
CellsAnswer board cells answer word =
    (beats : ℕ → ℕ → ℕ) (items : ℕ) → word ≡ answer (state_of (setup_held board.tables) cells beats items)

-- a reset of this kind, which also sends each address to its first word
abbrev pub AreReset : Board → (old new : Cells) → (kind : ℕ) → Type 0
AreReset board old new kind =
    let t = setup_held board.tables in
    (beats : ℕ → ℕ → ℕ) (items : ℕ) → state_of t new (λ p a. 0) items ≡ reset_by (state_of t old beats items) kind

-- bit b of a register that has these bits, after a reset and before its stuck bits are held
abbrev pub bit_after_reset : Setup → (kind reg bits : ℕ) → ℕ → Bool
bit_after_reset t kind reg bits b = reset_bit t kind (field_at t reg b) b (bit bits b)
