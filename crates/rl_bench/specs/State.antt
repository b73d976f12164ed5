-- What a bench reports.
use Rattle.std.specs.Prelude.{ℕ, ◌+◌, ◌-◌, ◌^◌, ◌==◌, ◌||◌, Bool, length, min, if◌then◌else◌, Option, Some}
use Rattle.rl_bus.specs.declared.op.Answer.{Answer}
use Rattle.rl_bus.specs.declared.op.BusOp.{BusOp}
use Rattle.rl_bus.specs.Setup.{words_at}
use Rattle.rl_bus.specs.State.{State, counted, is_faulty}
use Rattle.rl_bench.specs.declared.bench.Bench.{Bench}
use Rattle.rl_bench.specs.Beats.{beats_of}
use Rattle.rl_bench.specs.Board.{state_of}
use Rattle.rl_bench.specs.Tables.{setup_held}

-- The state of the device model, which is this project's own.
abbrev pub bench_state : Bench → State
bench_state b =
    state_of (setup_held b.board.tables) b.cells (beats_of (setup_held b.board.tables).words b.beats.items) b.items

-- the state that a bench tells, as each device may
abbrev pub state_told : Bench → Option State
state_told b = Some (bench_state b)

-- how many items failed
abbrev pub failures_of : Bench → ℕ
failures_of b = b.failures

-- the count after an item with this answer: it stays at the end of 64 bits
abbrev pub failures_after : ℕ → Answer → ℕ
failures_after failures answer = if answer.failed then min (failures + 1) (2 ^ 64 - 1) else failures

-- an item fails where no word of its direction stands at the address, the width isn't the port's,
-- or an error flaw names it
abbrev pub item_fails : State → ℕ → BusOp → Bool
item_fails s port op = length (words_at s.setup port op.address op.write) == 0 || is_faulty (counted s) port op
