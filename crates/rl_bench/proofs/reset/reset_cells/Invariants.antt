use Rattle.std.proofs.Common.{◌≡◌, ℕ, ◌<◌, ◌≤◌, length}
use Rattle.std.specs.Prelude.{slice_index}
use Rattle.rl_bus.specs.State.{reg_reset}
use Rattle.rl_bench.specs.Board.{state_of}
use Rattle.rl_bench.specs.Tables.{setup_held}
use Rattle.rl_bench.proofs.reset.reset_cells.Given as goal

abbrev pub invariant-loop-reg : goal.invariant-loop-reg
invariant-loop-reg l = record {
  long : length l.cells.bits.items ≡ length l.initial.cells.bits.items;
  marks : l.cells.marks ≡ l.initial.cells.marks;
  locations : l.cells.locations ≡ l.initial.cells.locations;
  done : (r : ℕ) → r < l.reg → slice_index l.cells.bits.items r ≡ reg_reset (state_of (setup_held l.board.tables) l.initial.cells (λ p a. 0) 0) l.kind r;
  rest : (r : ℕ) → l.reg ≤ r → slice_index l.cells.bits.items r ≡ slice_index l.initial.cells.bits.items r;
}
